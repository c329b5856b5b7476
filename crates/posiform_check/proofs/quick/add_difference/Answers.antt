use Rattle.posiform_check.proofs.Common.{rules, ◌≡◌, ap, arith, to_z, of_z, w128, ints, on_ok_weaker, coefficient_of, model_terms}
use Rattle.posiform_check.proofs.quick.add_difference.Goals as goal

pub returns : goal.returns
returns c =
    let bound : to_z w128 (of_z w128 c.certificate.inside.bound) ≡ c.args.certificate.now.bound =
    search rules in
    let more = rw bound at c.in_ok-add_constant.ensures in
    on_ok_weaker c.take_entries.result (λ taken set. omega (
      arith,
      ints,
      c.requires.none set,
      more set,
      c.in_ok-add_lines.ensures set,
      taken set,
      ap (λ m. coefficient_of set (model_terms m)) c.model.view_is,
    )) c.take_entries.ensures
