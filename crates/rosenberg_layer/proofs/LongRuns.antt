-- Runs on the terms of degree 3 or more alone: they are the same for each table with these terms.
use Rattle.rosenberg_layer.proofs.Common.{nat_tests, ◌≡◌, ◌≢◌, ℕ, pos, ◌+◌, ◌*◌, ◌≤◌, ◌<◌, ◌^◌, true, arith, refl, ap, List, [], ◌∷◌, length, unsigned_abs, All, Some, None, Option, filter, length-append, length-filter_both, All-filter, All-from_recursion, recursion_from_All, Literal, Term, terms_size, IsTermSet, IsTable, TableContent, table_size, terms_size-cons, OfSet, excess, is_long, Pair, is_short, IsTurn}
use Rattle.rosenberg_layer.proofs.Parts.{filter-all, filter-ascends, filter-yes}
use Rattle.rosenberg_layer.proofs.PartlyTerms.{sum-filter_le}
use Rattle.rosenberg_layer.proofs.PutBack.{three-long}
use Rattle.rosenberg_layer.proofs.Turns.{excess-one, excess-size}

-- the terms of degree 3 or more alone are a table
pub alone : (long : List Term) → All (λ t. is_long t ≡ true) long → filter is_long long ≡ long
alone long all = filter-all is_long long (recursion_from_All (λ t. is_long t ≡ true) long all)

-- the literals of a set fit
pub set_narrow : (width : ℕ) (ls : List Literal) → IsTermSet width ls → width ≤ 2 ^ 31
    → All (λ l. l.variable < 2 ^ 31) ls
set_narrow width ls set narrow = let within = set.set.within in grind (arith, nat_tests)

-- the terms of degree 3 or more of a table are a table
pub table_long : (t : TableContent) (width : ℕ) (long : List Term) → IsTable t → width ≡ t.width
    → long ≡ filter is_long t.terms → IsTable (record { width = width; terms = long })
table_long t width long table same e =
    let up = filter-ascends is_long t.terms table.terms.ordered in
    let sets = All-filter is_long (OfSet (IsTermSet t.width)) t.terms table.terms.sets in
    let some = All-filter is_long (λ (u : Term). u.1 ≢ pos 0) t.terms table.terms.nonzero in
    let small = sum-filter_le is_long (λ u. unsigned_abs u.1) t.terms in
    grind (arith, nat_tests)

-- .. all of them
pub all_long : (ts long : List Term) → long ≡ filter is_long ts → All (λ t. is_long t ≡ true) long
all_long ts long e = rw e (All-from_recursion _ _ (filter-yes is_long ts))

-- the nodes of a run have codes of 32 bits
pub nodes-narrow : (t : TableContent) (turns : ℕ) → table_size t * 2 ^ 2 ≤ 2 ^ 32
    → turns ≤ excess t.terms → t.width + turns ≤ 2 ^ 31
nodes-narrow t turns size few = omega (arith, size, few, excess-size t.terms)

-- a long term counts one at least
long-few : (ts : List Term) → length (filter is_long ts) ≤ terms_size ts
long-few [] = omega arith
long-few (t ∷ ts) =
    grind (arith, nat_tests, long-few ts, terms_size-cons t ts, excess-one t.0, three-long t)

-- the long terms of a table have numbers of 32 bits
pub terms-narrow : (t : TableContent) (long : List Term) → table_size t * 2 ^ 2 ≤ 2 ^ 32
    → long ≡ filter is_long t.terms → length long < 2 ^ 32
terms-narrow t long size e = omega (arith, size, long-few t.terms, ap length e)

-- a turn adds one pair at most
pub turn_made : (o : Option Pair) (n : ℕ) (long low : List Term) (pairs : List Pair) (ms : List ℕ)
    (long' low' : List Term) (pairs' : List Pair) (ms' : List ℕ)
    → IsTurn o n long low pairs ms long' low' pairs' ms' → length pairs' ≤ length pairs + 1
turn_made None n long low pairs ms long' low' pairs' ms' turned = omega (arith, ap length turned.3)
turn_made (Some pair) n long low pairs ms long' low' pairs' ms' turned =
    omega (arith, ap length turned.2, length-append pairs (pair ∷ []))

-- a bound on the terms of degree 3 or more is one on all
pub fewer : (ts long : List Term) (n : ℕ) → long ≡ filter is_long ts → n ≤ length long
    → n ≤ length ts
fewer ts long n e few =
    omega (arith, few, ap length e, length-filter_both is_long is_short (λ t. refl) ts)
