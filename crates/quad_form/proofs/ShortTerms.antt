-- What a term of at most two literals gives a quadratic form: where it goes, how large it is, and
-- that it is what the term gives where it is multiplied out.
use Rattle.quad_form.proofs.Common.{nat_tests, ◌≡◌, ℕ, ◌*◌, ◌^◌, ◌<◌, ◌≤◌, eqb, arith, refl, List, [], ◌∷◌, ◌++◌, length, ℤ, ◌+ℤ◌, unsigned_abs, AllByRecursion, ints, if_so, total_by-append, weight_total, Literal, Term, coefficient_of, plain_terms, Ascend, IsPair, weight_at, signed, Share, share_at, moved_share, short_couplers, short_shares, short_constant}
use Rattle.quad_form.proofs.Additive.{Amount, IsAdditive}
use Rattle.quad_form.proofs.UniqueForms.{node}

-- what a term gives a set, multiplied out
abbrev pub given_to : List Literal → Amount
given_to ls ks c = coefficient_of ls (plain_terms ks c)

-- of two lists of shares
pub share_at-append : (i : ℕ) (s u : List Share) → share_at i (s ++ u) ≡ share_at i s +ℤ share_at i u
share_at-append i s u = total_by-append (λ (x : Share). if_so (eqb i x.0) x.1) s u

-- ---- a term of at most two literals

pub short_constant-is : (t : Term) → length t.0 ≤ 2 → given_to [] t.0 t.1 ≡ short_constant t
short_constant-is ([], c) short = omega (arith, ints)
short_constant-is (l ∷ [], c) short = grind (arith, ints)
short_constant-is (l ∷ k ∷ [], c) short = grind (arith, ints)
short_constant-is (l ∷ k ∷ m ∷ ls, c) short = absurd (omega arith)

-- a term of one variable gives the weight of its node, and one of two variables gives none
pub short_shares-are : (i : ℕ) (t : Term) → length t.0 ≤ 2
    → given_to (node i ∷ []) t.0 t.1 ≡ share_at i (short_shares t)
short_shares-are i ([], c) short = refl
short_shares-are i (l ∷ [], c) short = grind (arith, nat_tests)
short_shares-are i (l ∷ k ∷ [], c) short = grind (arith, nat_tests)
short_shares-are i (l ∷ k ∷ m ∷ ls, c) short = absurd (omega arith)

-- a term of two variables gives their coupler, and one of one variable gives none
pub short_couplers-are : (i j : ℕ) (t : Term) → length t.0 ≤ 2
    → given_to (node i ∷ node j ∷ []) t.0 t.1 ≡ weight_at i j (short_couplers t)
short_couplers-are i j ([], c) short = refl
short_couplers-are i j (l ∷ [], c) short = grind (arith, nat_tests)
short_couplers-are i j (l ∷ k ∷ [], c) short = grind (arith, nat_tests)
short_couplers-are i j (l ∷ k ∷ m ∷ ls, c) short = absurd (omega arith)

-- ---- it is additive in the coefficient

signed-plus : (l : Literal) (c d : ℤ) → signed l (c +ℤ d) ≡ signed l c +ℤ signed l d
signed-plus l c d = grind (arith, ints)

pub constant-additive : IsAdditive (λ ls c. short_constant (ls, c))
constant-additive is c d = grind (arith, nat_tests)

moved-plus : (i : ℕ) (l k : Literal) (c d : ℤ)
    → share_at i (moved_share l k (c +ℤ d)) ≡ share_at i (moved_share l k c) +ℤ share_at i (moved_share l k d)
moved-plus i l k c d = grind (arith, nat_tests, ints)

pub shares-additive : (i : ℕ) → IsAdditive (λ ls c. share_at i (short_shares (ls, c)))
shares-additive i is c d = grind (arith, nat_tests, signed-plus, share_at-append, moved-plus)

pub couplers-additive : (i j : ℕ) → IsAdditive (λ ls c. weight_at i j (short_couplers (ls, c)))
couplers-additive i j is c d = grind (arith, nat_tests)

-- ---- how large it is, and where it goes

pub size-signed : (l : Literal) (c : ℤ) → unsigned_abs (signed l c) ≡ unsigned_abs c
size-signed l c = grind (arith, ints)

pub short_constant-size : (t : Term) → unsigned_abs (short_constant t) ≤ unsigned_abs t.1
short_constant-size t = grind (arith, nat_tests)

pub short_couplers-size : (t : Term) → weight_total (short_couplers t) ≤ unsigned_abs t.1
short_couplers-size t = grind (arith, nat_tests)

-- there is at most one coupler, where there are two literals
pub short_couplers-few : (ls : List Literal) (c : ℤ) → length ls ≤ 2
    → 4 * length (short_couplers (ls, c)) ≤ length ls ^ 2
short_couplers-few ls c short = grind (arith, nat_tests, ints)

-- it is of a pair of the nodes
pub short_couplers-pairs : (n : ℕ) (t : Term) → Ascend t.0
    → AllByRecursion (λ (l : Literal). l.variable < n) t.0
    → AllByRecursion (IsPair n) (short_couplers t)
short_couplers-pairs n t up below = grind (arith, nat_tests)
