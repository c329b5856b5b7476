-- What is left of a list, and what a refusal leaves.
use Rattle.literal_lists.proofs.Common.{◌≡◌, ℕ, suc, ◌+◌, ◌-◌, ◌<◌, List, ◌∷◌, sym, ◌∙◌, Some, take, drop, drop-cons, add-one, arith, slice_get, slice_range, slice_get_within, get_or_from_slice_get, OnErr, Result, Ok, Err}

-- what is left from a place on begins with what stands there
pub drop-at : {A : Type 0} → (xs : List A) (i : ℕ) (x : A) → slice_get xs i ≡ Some x → drop i xs ≡ x ∷ drop (i + 1) xs
drop-at xs i x at =
    drop-cons xs i x (slice_get_within xs i x at)
    ∙ (λ j. get_or_from_slice_get xs i x x at j ∷ drop (sym (add-one i) j) xs)

-- .. and so does what is left of a part
pub slice_range-step : {A : Type 0} → (xs : List A) (i end : ℕ) (x : A)
    → i < end → slice_get xs i ≡ Some x → slice_range xs i end ≡ x ∷ slice_range xs (i + 1) end
slice_range-step xs i end x before at =
    let count : end - i ≡ suc (end - (i + 1)) = omega (arith, before) in
    (λ j. take (count j) (drop-at xs i x at j))

pub on_err : {T E P : Type 0} (r : Result T E) → P → OnErr r P
on_err (Ok x) p = tt
on_err (Err x) p = p
