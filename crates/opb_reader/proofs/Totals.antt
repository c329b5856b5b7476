-- The sizes of the numbers of sums.
use Rattle.opb_reader.proofs.Common.{◌≡◌, ◌+◌, ◌++◌, ℕ, List, [], ◌∷◌, arith, unsigned_abs, sum_by-append, sum_by-cons, Product, products_total}

abbrev pub size : Product → ℕ
size t = unsigned_abs t.coefficient

pub products_total-push : (ts : List Product) (t : Product)
    → products_total (ts ++ t ∷ []) ≡ products_total ts + unsigned_abs t.coefficient
products_total-push ts t = omega (arith, sum_by-append size ts (t ∷ []), sum_by-cons size t [])
