use Rattle.poly_reader.proofs.Common.{Ok, sym, ◌∙◌, err_from_is_err_and}
use Rattle.poly_reader.proofs.Additions.{polynomial_fails, polynomial_read}
use Rattle.poly_reader.proofs.reading.read_with.Goals as goal

pub returns-in_err-problem : goal.returns-in_err-problem
returns-in_err-problem c =
    let p = err_from_is_err_and c.from_residual.result c.from_residual.ensures.1 in
    rw (p.1, p.2)
    (polynomial_fails c.in_err-problem.field-0.0 c.args.words c.in_err-problem.ensures)

pub returns : goal.returns
returns c =
    let names = c.products.new.names in
    polynomial_read c.args.words c.in_ok-problem.problem names c.in_ok-problem.ensures
    ∙ (λ i. Ok (record { problem = c.in_ok-problem.problem; names = sym c.in_ok-names.ensures i }))
