-- What is read is a source as it is kept.
use Rattle.wbo_reader.proofs.Common.{nat_tests, ◌≡◌, ◌≢◌, ℕ, ◌+◌, ◌≤◌, ◌<◌, ◌^◌, List, [], ◌∷◌, ◌++◌, length, fold, flat_map, All, Bool, not, cond, Option, Some, Result, Ok, Err, IfOk, refl, sym, subst, ◌∙◌, arith, count_by, length-append, sum_by-append, All-nil, TextFault, Word, ◌>>=◌, Constraint, Soft, WboContent, IsWbo, wbo_total, Weighed, greatest_index, all_literals, hard_by, hard_of, soft_by, soft_of, order_by, content_of, constraints_at, nothing, with_weighed, constraints_read}
use Rattle.wbo_reader.proofs.Together.{whole, put_together}
use Rattle.wbo_reader.proofs.Indices.{Fits, constraints_fit, constraints_few}
use Rattle.wbo_reader.proofs.Standing.{content_is_normal}

-- ---- weights and counts

-- a weight that is not 0
abbrev IsWeighty : Soft → Type 0
IsWeighty k = 0 < k.weight

all_weighty : (ks : List Weighed) → All IsWeighty (flat_map soft_of ks)
all_weighty [] = All-nil IsWeighty
all_weighty (k ∷ ks) = grind (arith, nat_tests, all_weighty ks)

count-append : (p : Bool → Bool) (xs ys : List Bool)
    → count_by p (xs ++ ys) ≡ count_by p xs + count_by p ys
count-append p xs ys = sum_by-append (λ (b : Bool). cond (p b) 1 0) xs ys

one_hard : (weight : Option ℕ) (k : Constraint)
    → count_by not (order_by weight) ≡ length (hard_by weight k)
one_hard weight k = grind (arith, nat_tests)

one_soft : (weight : Option ℕ) (k : Constraint)
    → count_by (λ b. b) (order_by weight) ≡ length (soft_by weight k)
one_soft weight k = grind (arith, nat_tests)

-- the order of constraints
abbrev order_of : List Weighed → List Bool
order_of ks = flat_map (λ (k : Weighed). order_by k.weight) ks

hard_counted : (ks : List Weighed) → count_by not (order_of ks) ≡ length (flat_map hard_of ks)
hard_counted [] = refl
hard_counted (k ∷ ks) =
    grind (arith, nat_tests, hard_counted ks, count-append, one_hard, length-append)

soft_counted : (ks : List Weighed) → count_by (λ b. b) (order_of ks) ≡ length (flat_map soft_of ks)
soft_counted [] = refl
soft_counted (k ∷ ks) =
    grind (arith, nat_tests, soft_counted ks, count-append, one_soft, length-append)

few_soft : (ks : List Weighed) → length (flat_map soft_of ks) ≤ length ks
few_soft [] = omega arith
few_soft (k ∷ ks) = grind (arith, nat_tests, few_soft ks)

-- ---- the whole

is_kept : (top : Option ℕ) (ks : List Weighed) (n : ℕ) → top ≢ Some 0
    → Fits greatest_index (all_literals ks) → length ks ≤ n → n ≤ 2 ^ 24
    → wbo_total (content_of (whole top ks)) < 2 ^ 90 → IsWbo (content_of (whole top ks))
is_kept top ks n some fits few most small = record {
  normal = content_is_normal (whole top ks);
  weighty = all_weighty ks;
  top = some;
  hard_count = hard_counted ks;
  soft_count = soft_counted ks;
  small = small;
  narrow = omega (arith, fits 0 (omega arith), few_soft ks, few, most);
}

-- a source that is read
abbrev given : WboContent → Result WboContent TextFault
given s = Ok s

taken : (s t : WboContent) → given s ≡ Ok t → s ≡ t
taken s t e = cc

-- constraints that are read after a top, of sizes that are not too large
pub read_is_wbo : (top : Option ℕ) (end : ℕ) (ws : List Word) (s : WboContent)
    → constraints_read (nothing top) end ws ≡ Ok s → top ≢ Some 0 → length ws ≤ 2 ^ 24
    → wbo_total s < 2 ^ 90 → IsWbo s
read_is_wbo top end ws s read some most small =
    go (constraints_at end ws) (constraints_fit end ws) (constraints_few end ws) read
  where
    go : (r : Result (List Weighed × List Word) TextFault)
        → IfOk r (λ x. Fits greatest_index (all_literals x.0))
        → IfOk r (λ x. length x.0 ≤ length ws)
        → (r >>= λ (x : List Weighed × List Word). given (fold with_weighed (nothing top) x.0))
        ≡ Ok s → IsWbo s
    go (Err f) fits few e = absurd cc
    go (Ok x) fits few e =
        let same : content_of (whole top x.0) ≡ s = sym (put_together top x.0) ∙ taken _ s e in
        subst IsWbo same (is_kept top x.0 (length ws) some fits few most
        (subst (λ (t : WboContent). wbo_total t < 2 ^ 90) (sym same) small))
