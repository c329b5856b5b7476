-- The long terms of a table are the sums of the long additions, and its run goes by them alone.
use Rattle.quadratization.proofs.Common.{elements, ◌≡◌, ℕ, ◌-◌, ◌≤◌, not, leb, arith, refl, ◌∙◌, List, [], ◌∷◌, ◌++◌, length, map, All, IfOk, Result, Some, slice_get, filter, AllByRecursion, mul-le-mul_left, nat_tests, recursion_from_All, sum_by-filter_both, sum_by-cons, get_or_from_slice_get, slice_get_within, Literal, Product, Term, set_size, terms_size, with_additions, IsTermSet, AreAdditions, TableContent, terms_size-cons, with_additions-append, Substitutions, excess, pairs_of, run, is_short, weights, AreParts, square_is, product_term, terms_of, moved_of, IsRunOf, long_additions, short_terms, ap, table_of-table, ◌+◌, sum_by, IsLow, IsTable, OfSet, all_new_terms, new_nodes, IsShort, new_terms-one, NoneLong, all_nodes, ◌*◌, ◌<◌, ◌^◌, sym, subst, All-append, All-filter, All-from_recursion, All-weaker, filter_passes, terms_total, HasRoomFor, table_size, with_more, terms_total-append, terms_total-with_additions, room_own, IsTermSet-wider, is_low, all-right, total-weights, weights-table, QuadContent, short_part, table_of, HeldContent, AreHeld, HasPlaces, IsWithin, FitsByPairs, excess-size, made-image, width-le, width-pairs, IsTable-table_of}
use Rattle.quadratization.proofs.LongPlaces.{term_from_product}
use Rattle.quadratization.proofs.Apart.{filter-with_additions, is_short_set, filter-sums, long_length, nodes-table}
use Rattle.rosenberg_layer.specs.Rosenberg.{is_long}
use Rattle.quadratization.proofs.SortedAdditions.{long_of}
use Rattle.rosenberg_layer.proofs.Ends.{IsLow-image}
use Rattle.quadratization.proofs.HeldSums.{total-parts}
use Rattle.quadratization.specs.ByPairs.{image}
use Rattle.quadratization.specs.Apart as apart
use Rattle.monomial_layer.specs.Monomials as monomials
use Rattle.rosenberg_layer.specs.Rosenberg as rosenberg
use Rattle.quad_form.specs.Flat as flat
use Rattle.quadratization.specs.Parts as direct

-- ---- long and short terms

high-test : (n : ℕ) → leb 3 n ≡ not (leb n 2)
high-test n = grind (arith, nat_tests)

long-part : (ts : List Term) → filter is_long ts ≡ long_additions ts
long-part ts =
    let same : is_long ≡ apart.is_long = λ k t. high-test (length t.0) k in
    ap (λ f. filter f ts) same

short-part : (ts : List Term) → filter is_short ts ≡ short_terms ts
short-part ts = grind (arith, nat_tests)

-- the long terms of a table of sums
pub long-table : (ts : List Term)
    → filter is_long (with_additions [] ts) ≡ with_additions [] (long_additions ts)
long-table ts = long-part (with_additions [] ts) ∙ filter-with_additions ts

-- .. and the short ones
short-table : (ts : List Term)
    → filter is_short (with_additions [] ts) ≡ with_additions [] (short_terms ts)
short-table ts = short-part (with_additions [] ts) ∙ filter-sums is_short_set ts

-- with others after them, short additions have the sums of the short terms of their table
pub same-sums : (ts moved : List Term)
    → with_additions [] (with_additions [] (short_terms ts)) ≡ with_additions [] (short_terms ts)
    → with_additions [] (short_terms ts ++ moved)
    ≡ with_additions [] (filter is_short (with_additions [] ts) ++ moved)
same-sums ts moved again = grind (arith, nat_tests, short-table, with_additions-append)

all-high : (ps : List Product) → AllByRecursion (λ (p : Product). 3 ≤ length p.literals) ps
    → long_additions (map product_term ps) ≡ map product_term ps
all-high [] all = refl
all-high (p ∷ ps) all = grind (arith, nat_tests, all-high ps all.1)

-- the sums of long additions are all long
pub long-sums : (ps : List Product) → All (λ (p : Product). 3 ≤ length p.literals) ps
    → filter is_long (with_additions [] (map product_term ps)) ≡ with_additions [] (map product_term ps)
long-sums ps all = grind (arith, nat_tests, long-table, all-high, recursion_from_All)

-- ---- how long they are

-- short terms take no substitution
pub excess-long : (ts : List Term) → excess (filter is_long ts) ≡ excess ts
excess-long [] = refl
excess-long (t ∷ ts) =
    let count = λ (u : Term). length u.0 - 2 in
    grind (arith, nat_tests, excess-long ts, sum_by-cons count t ts, sum_by-cons count t (filter is_long ts))

pub size-long : (ts : List Term) → terms_size (filter is_long ts) ≤ terms_size ts
size-long ts =
    omega (arith, sum_by-filter_both is_long is_short (λ t. refl) (λ (t : Term). set_size t.0) ts)

-- ---- one of the additions

-- its literals are a set
pub addition-set : (ps : List Product) (i : ℕ) (p : Product) (width : ℕ) → AreAdditions (terms_of width ps)
    → slice_get ps i ≡ Some p → IsTermSet width p.literals
addition-set ps i p width additions at = grind (arith, nat_tests, elements, term_from_product)

-- and three or more
pub addition-long : (ps : List Product) (i : ℕ) (p : Product) → All (λ (q : Product). 3 ≤ length q.literals) ps
    → slice_get ps i ≡ Some p → 3 ≤ length p.literals
addition-long ps i p long at = grind (arith, nat_tests, get_or_from_slice_get, slice_get_within)

-- ---- how many terms there are

size-one : (ls : List Literal) → 1 ≤ set_size ls
size-one ls = grind (arith, nat_tests, square_is, mul-le-mul_left)

pub count-size : (ts : List Term) → length ts ≤ terms_size ts
count-size [] = omega arith
count-size (t ∷ ts) = omega (arith, size-one t.0, count-size ts, terms_size-cons t ts)

-- ---- the run

-- what a run of enough substitutions leaves
pub run-of : {E : Type 0} (r : Result Substitutions E) (t : TableContent) (width turns : ℕ) → t.width ≡ width
    → turns ≡ excess t.terms
    → IfOk r (λ made. AreParts (run turns t) (filter is_short t.terms ++ moved_of width made)
    (filter is_long (run turns t).terms) (weights t.terms))
    → IfOk r (λ made. made.pairs ≡ pairs_of turns t)
    → IfOk r (λ made. length made.weights.items ≡ length made.pairs) → IfOk r (IsRunOf t)
run-of r t width turns wide number parts pairs each = grind (arith, nat_tests)

-- The form of what a run adds is that of the image of the run: the additions are all short, so no
-- term of them is replaced, and their sums give the image.

-- ---- short terms are not replaced

all_new_terms-short : (ts : List Term) (n : ℕ) → AllByRecursion (OfSet IsShort) ts → all_new_terms ts n ≡ ts
all_new_terms-short [] n short = refl
all_new_terms-short (t ∷ ts) n short =
    (λ i. new_terms-one t n short.0 i ++ all_new_terms-short ts (n + new_nodes t) short.1 i)

new_nodes-short : (ts : List Term) → AllByRecursion (OfSet IsShort) ts → sum_by new_nodes ts ≡ 0
new_nodes-short [] short = refl
new_nodes-short (t ∷ ts) short = grind (arith, nat_tests, new_nodes-short ts short.1)

-- a table without terms of degree 3 or more stays
pub low-stays : (t : TableContent) → IsTable t → IsLow t → monomials.image t ≡ t
low-stays t table low =
    let short = recursion_from_All (OfSet IsShort) t.terms low in
    let width : t.width + sum_by new_nodes t.terms ≡ t.width = omega (arith, new_nodes-short t.terms short) in
    let same : with_additions [] (all_new_terms t.terms t.width) ≡ with_additions [] t.terms =
    ap (with_additions []) (all_new_terms-short t.terms t.width short) in
    (λ i. record { width = width i; terms = same i }) ∙ table_of-table t table

long_additions-none : (ts : List Term) → NoneLong ts → long_additions ts ≡ []
long_additions-none [] none = refl
long_additions-none (t ∷ ts) none = grind (arith, nat_tests, long_additions-none ts none.1)

-- short additions have no new nodes
pub all_nodes-short : (t : TableContent) → NoneLong t.terms → all_nodes t ≡ t.width
all_nodes-short t none = grind (arith, nat_tests, long_additions-none)

-- The form of held additions: the short ones as they came, and what a run of the long ones adds.

-- the short additions are additions
pub short-additions : (t : TableContent) → AreAdditions t → AreAdditions (short_part t)
short-additions t additions = record {
  sets = All-filter is_low (λ (u : Term). IsTermSet t.width u.0) t.terms additions.sets;
  small = omega (arith, additions.small, total-parts t.terms);
}

-- their sums stay
sums-again : (t : TableContent) → AreAdditions t
    → with_additions [] (with_additions [] (short_terms t.terms)) ≡ with_additions [] (short_terms t.terms)
sums-again t additions =
    ap (λ (v : TableContent). v.terms)
    (table_of-table _ (IsTable-table_of (short_part t) (short-additions t additions)))

module _ (t : TableContent) (h : HeldContent) (room : FitsByPairs t) (held : AreHeld t h) where
  pub kept : IsTable (table_of t)
  kept = IsTable-table_of t room.additions

  -- ---- the long additions

  module _ (width : ℕ) (wide : width ≡ length h.weights) where
    long-is : terms_of width h.long ≡ record { width = t.width; terms = long_additions t.terms }
    long-is k = record { width = (wide ∙ held.short.width) k; terms = held.long k }

    pub long-additions : AreAdditions (terms_of width h.long)
    long-additions =
        subst AreAdditions (sym long-is) (record {
          sets = All-filter apart.is_long (λ (u : Term). IsTermSet t.width u.0) t.terms room.additions.sets;
          small = omega (arith, room.additions.small, total-parts t.terms);
        })

    pub long-size : table_size (table_of (terms_of width h.long)) * 2 ^ 2 ≤ 2 ^ 31
    long-size = grind (arith, nat_tests, long-table t.terms, size-long (table_of t).terms)

  -- the long terms of the table are their sums
  pub long-terms : filter is_long (table_of t).terms ≡ with_additions [] (map product_term h.long)
  long-terms = long-table t.terms ∙ ap (with_additions []) (sym held.long)

  pub long-lengths : All (λ (p : Product). 3 ≤ length p.literals) h.long
  long-lengths = grind (arith, nat_tests, long_length, filter_passes, long_of)

  -- ---- what the run adds

  module _ (made : Substitutions) (left : IsRunOf (table_of t) made) (width count : ℕ) (wide : width ≡ length h.weights) (number : count ≡ length made.pairs) where
    abbrev full : TableContent
    full = table_of t

    abbrev turns : ℕ
    turns = excess full.terms

    abbrev moved : List Term
    moved = moved_of width made

    abbrev base : List Term
    base = filter is_short full.terms

    abbrev rest : List Term
    rest = filter is_long (run turns full).terms

    start : width ≡ full.width
    start = wide ∙ held.short.width

    parts : AreParts (run turns full) (base ++ moved) rest (weights full.terms)
    parts = grind (arith, nat_tests)

    pairs : count ≡ length (pairs_of turns full)
    pairs = number ∙ ap length left.pairs

    wide-all : (run turns full).width ≡ width + count
    wide-all = omega (arith, width-pairs turns full, start, pairs)

    pub narrow : width + count < 2 ^ 32
    narrow = omega (arith, wide-all, width-le turns full, excess-size full.terms, room.size)

    abbrev IsSet : Term → Type 0
    IsSet u = IsTermSet (width + count) u.0

    sets : All IsSet moved
    sets = All-from_recursion IsSet moved (all-right IsSet base moved (rw wide-all at parts.sets))

    total : terms_total (short_terms t.terms) + terms_total moved + 1 ≤ 2 ^ 97
    total =
        let both = terms_total-append base moved in
        let table = weights-table full kept.terms in
        omega (arith, parts.small, room.total, both, total-weights (base ++ moved), table, terms_total-with_additions t.terms, total-parts t.terms)

    -- what is added is small
    pub small-moved : terms_total moved ≤ 2 ^ 124
    small-moved = omega (arith, total)

    -- and there is room for it among what is held of the short additions, over so many nodes
    pub room-moved : (k : HeldContent) (n : ℕ) → n ≡ width + count → length k.weights ≡ n
        → AreHeld (record (short_part t) { width = n }) k → HasRoomFor HasPlaces k moved
    room-moved k n is over short =
        room_own HasPlaces k moved (record {
          sets = subst (λ m. All (λ (u : Term). IsTermSet m u.0) moved) (sym (over ∙ is)) sets;
          total = omega (arith, total, short.total);
        })

    -- ---- all additions

    abbrev pub all : TableContent
    all = with_more (record (short_part t) { width = width + count }) moved

    additions : AreAdditions all
    additions =
        let up : t.width ≤ width + count = omega (arith, start) in
        let old = (short-additions t room.additions).sets in
        let short = All-weaker _ IsSet (λ (u : Term) s. IsTermSet-wider t.width _ u.0 up s) (short_terms t.terms) old in
        record {
          sets = All-append IsSet (short_terms t.terms) moved short sets;
          small = omega (arith, total, terms_total-append (short_terms t.terms) moved);
        }

    -- their table is that of what the run adds to the short terms of the table
    abbrev whole : TableContent
    whole = record { width = width + count; terms = base ++ moved }

    same : table_of all ≡ table_of whole
    same k = record {
      width = width + count;
      terms = same-sums t.terms moved (sums-again t room.additions) k;
    }

    -- none of them has new nodes
    nodes-all : all_nodes all ≡ width + count
    nodes-all =
        sym (nodes-table all) ∙ ap (λ (u : TableContent). u.width + sum_by new_nodes u.terms) same
        ∙ nodes-table whole ∙ all_nodes-short whole parts.low

    -- they fit the fields of a form
    pub within : IsWithin all
    within =
        record {
          additions = additions;
          narrow = omega (arith, narrow, nodes-all);
          total = omega (arith, total, terms_total-append (short_terms t.terms) moved);
        }

    -- and their form is the image
    pub form : (q : QuadContent) → q ≡ direct.image all → q ≡ image (table_of t)
    form q is =
        let made-is : table_of all ≡ rosenberg.image full =
        made-image full (table_of all) (base ++ moved) rest width turns count (weights full.terms) kept.terms refl start pairs parts same in
        let low = low-stays (rosenberg.image full) (subst IsTable made-is (IsTable-table_of all additions)) (IsLow-image full kept.terms) in
        is ∙ ap (λ u. flat.image (monomials.image u)) made-is ∙ ap flat.image low
