use Rattle.std.proofs.lemmas.Result.{err_from_is_err_and}
use Rattle.poly_reader.proofs.reading.products.Goals as goal

pub returns-in_err-products_into : goal.returns-in_err-products_into
returns-in_err-products_into c =
    let p = err_from_is_err_and c.from_residual.result c.from_residual.ensures.1 in
    rw (p.1, p.2) c.in_err-products_into.ensures
