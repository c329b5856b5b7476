-- Sets of literals in place of the literals: of a product, and of those that stand before others.
use Rattle.poly_reader.proofs.Common.{◌≡◌, ◌||◌, List, [], ◌∷◌, ◌++◌, pos, ap, ◌∙◌, ◌+ℤ◌, if◌then◌else◌, int_eq, Literal, literal_set, with_literal, literal_set-ascends, literal_set-ascending, literal_set-turned, has_clash-literal_set, Product, ProblemContent, with_product, is_empty-literal_set}

-- the product of the set
abbrev pub set_product : Product → Product
set_product t = record { literals = literal_set t.literals; coefficient = t.coefficient }

-- it is kept as the product is
pub with_product-set : (p : ProblemContent) (t : Product)
    → with_product p (set_product t) ≡ with_product p t
with_product-set p t =
    let empty = is_empty-literal_set t.literals in
    let clash = has_clash-literal_set t.literals in
    let same = literal_set-ascending (literal_set t.literals) (literal_set-ascends t.literals) in
    (λ i. record p {
      constant = p.constant +ℤ (if empty i then t.coefficient else pos 0);
      objective = p.objective ++ (if clash i || int_eq t.coefficient (pos 0) || empty i then []
          else record { literals = same i; coefficient = t.coefficient } ∷ []);
    })

-- literals behind others whose sets are alike
behind : (xs ys zs : List Literal) → literal_set xs ≡ literal_set ys
    → literal_set (zs ++ xs) ≡ literal_set (zs ++ ys)
behind xs ys [] same = same
behind xs ys (z ∷ zs) same = ap (with_literal z) (behind xs ys zs same)

-- literals before others
pub literal_set-before : (xs ys zs : List Literal) → literal_set xs ≡ literal_set ys
    → literal_set (xs ++ zs) ≡ literal_set (ys ++ zs)
literal_set-before xs ys zs same =
    literal_set-turned xs zs ∙ behind xs ys zs same ∙ literal_set-turned zs ys
