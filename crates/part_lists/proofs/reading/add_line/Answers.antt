use Rattle.part_lists.proofs.Common.{Ok, ap, ◌∙◌, option_to_list, append-nil, err_from_is_err_and, after_front}
use Rattle.part_lists.proofs.reading.add_line.Goals as goal

pub returns-in_err-part : goal.returns-in_err-part
returns-in_err-part g c =
    let p = err_from_is_err_and c.from_residual.result c.from_residual.ensures.1 in
    rw (p.1, p.2) (record { read = ap (after_front c.args.parts.now.items) c.in_err-part.ensures.read; kept = tt })

pub returns-in-None : goal.returns-in-None
returns-in-None g c =
    record {
      read = ap (after_front _) (c.in_ok-part.ensures.read ∙ ap (λ v. Ok (option_to_list v)) c.in-None.is)
          ∙ ap Ok (append-nil _);
      kept = λ all. all;
    }
