-- The terms of a model and of a certificate, one after another, and that they fit a table.
--
-- Lines that are added to sums, or to gathered terms beside them.
use Rattle.posiform_check.proofs.Common.{◌≡◌, fold, ℕ, ◌*◌, ◌<◌, ◌≤◌, ◌^◌, false, List, [], ◌∷◌, length, map, unsigned_abs, None, refl, ap, subst, arith, All, max, flat_map, sum_by, AllByRecursion, nat_tests, sum_by-cons, All-from_recursion, recursion_from_All, Entry, Kind, is_node, weight_total, IsPlaced, Literal, Term, terms_total, IsTermSet, TableContent, AreAdditions, with_more, terms_total-append, terms_total-cons, OfSet, IsTermSet-none, IsTermSet-one, IsTermSet-two, AreFew, complements-cons, contributions-grow, contributions-sets, complements, contributions, additions_first, both_made, Line, IsLine, IsCertificate, AreOfNodes, certificate_fault, most_literals, CertificateContent, line_terms, certificate_terms, bit, node_set, pair_set, entry_constant, entry_sets, cases_lt, flat_map-map, all_append, ◌++◌}

-- ---- items, one after another

-- the terms of the next one fit
pub next_fits : {A : Type 0} (f : A → List Term) (now : TableContent) (x : A) (left rest : List A)
    → left ≡ x ∷ rest → AreAdditions (with_more now (flat_map f left))
    → AreAdditions (with_more now (f x))
next_fits f now x left rest steps fits =
    additions_first now (f x) (flat_map f rest) (flat_map f left) (ap (flat_map f) steps) fits

-- and after them those of the others are left
pub rest_left : {A : Type 0} (f : A → List Term) (now next : TableContent) (x : A)
    (left rest : List A) → left ≡ x ∷ rest → next ≡ with_more now (f x)
    → with_more next (flat_map f rest) ≡ with_more now (flat_map f left)
rest_left f now next x left rest steps made =
    both_made now next _ (f x) (flat_map f rest) (flat_map f left) (ap (flat_map f) steps) made refl

-- ---- all entries

-- the sets of an entry are of the model's nodes
below_one : (n : ℕ) (e : Entry) → IsPlaced n e → IsTermSet n (node_set e.first)
below_one n e placed = IsTermSet-one n (bit e.first) (omega (arith, placed.upward, placed.within))

below_two : (n : ℕ) (e : Entry) → IsPlaced n e → IsTermSet n (node_set e.second)
below_two n e placed = IsTermSet-one n (bit e.second) placed.within

below_pair : (n : ℕ) (e : Entry) → IsPlaced n e → is_node e ≡ false
    → IsTermSet n (pair_set e.first e.second)
below_pair n e placed other =
    let upward : e.first < e.second = grind (arith, nat_tests) in
    IsTermSet-two n (bit e.first) (bit e.second) upward placed.within

abbrev AreSets : ℕ → List Term → Type 0
AreSets n ts = AllByRecursion (OfSet (IsTermSet n)) ts

entry_sets-sets : (kind : Kind) (n : ℕ) (e : Entry) → IsPlaced n e → AreSets n (entry_sets kind e)
entry_sets-sets kind n e placed =
    grind (arith, nat_tests, below_one n e placed, below_two n e placed, below_pair n e placed)

entry_sets-total : (kind : Kind) (e : Entry)
    → terms_total (entry_sets kind e) ≤ 8 * unsigned_abs e.weight
entry_sets-total kind e = grind (arith, nat_tests)

all_sets : (kind : Kind) (n : ℕ) (es : List Entry) → AllByRecursion (IsPlaced n) es
    → AreSets n (flat_map (entry_sets kind) es)
all_sets kind n [] h = tt
all_sets kind n (e ∷ es) h =
    all_append (OfSet (IsTermSet n)) (entry_sets kind e) (flat_map (entry_sets kind) es)
    (entry_sets-sets kind n e h.0) (all_sets kind n es h.1)

all_total : (kind : Kind) (es : List Entry)
    → terms_total (flat_map (entry_sets kind) es) ≤ 8 * weight_total es
all_total kind [] = omega arith
all_total kind (e ∷ es) =
    omega (arith, terms_total-append, entry_sets-total, all_total kind es, sum_by-cons)

-- the terms of a model's entries make a table
pub model_fits : (kind : Kind) (n : ℕ) (es : List Entry) → All (IsPlaced n) es
    → weight_total es ≤ 2 ^ 121
    → AreAdditions (record { width = n; terms = flat_map (entry_sets kind) es })
model_fits kind n es placed small = record {
  sets =
      All-from_recursion (OfSet (IsTermSet n)) (flat_map (entry_sets kind) es)
      (all_sets kind n es (recursion_from_All (IsPlaced n) es placed));
  small = omega (arith, all_total kind es, small);
}

-- ---- a certificate

-- a line, as a term of a table
abbrev pub term_of : Line → Term
term_of l = (l.literals, l.coefficient)

-- no number is above the greatest
pub none_above : (a m : ℕ) (ls : List Line)
    → fold max a (map (λ (l : Line). length l.literals) ls) ≤ m
    → (a ≤ m) × AllByRecursion (λ (l : Line). length l.literals ≤ m) ls
none_above a m [] h = (h, tt)
none_above a m (l ∷ ls) h = grind (arith, nat_tests, none_above (max a (length l.literals)) m ls h)

few_literals : (c : CertificateContent) → certificate_fault c ≡ None → most_literals c.lines ≤ 8
few_literals c e = let most = cases_lt 8 (most_literals c.lines) in grind (arith, nat_tests)

-- no set has more complements than literals
pub few_complements : (l : List Literal) → complements l ≤ length l
few_complements [] = omega arith
few_complements (l ∷ ls) = grind (arith, nat_tests, complements-cons l ls, few_complements ls)

lines_few : (ls : List Line) → AllByRecursion (λ (l : Line). length l.literals ≤ 8) ls
    → AreFew 8 (map term_of ls)
lines_few [] h = tt
lines_few (l ∷ ls) h = (omega (arith, h.0, few_complements l.literals), lines_few ls h.1)

lines_sets : (n : ℕ) (ls : List Line) → AllByRecursion IsLine ls
    → AllByRecursion (λ (l : Line). All (λ k. k.variable < n) l.literals) ls
    → AllByRecursion (λ (l : Line). length l.literals ≤ 8) ls → AreSets n (map term_of ls)
lines_sets n [] is within few = tt
lines_sets n (l ∷ ls) is within few = grind (arith, nat_tests, lines_sets n ls is.1 within.1 few.1)

-- lines have the sizes of their coefficients
lines_total : (ls : List Line)
    → terms_total (map term_of ls) ≡ sum_by (λ (l : Line). unsigned_abs l.coefficient) ls
lines_total [] = refl
lines_total (l ∷ ls) = omega (arith, terms_total-cons, lines_total ls, sum_by-cons)

-- the terms of a certificate make a table
pub certificate_fits : (n : ℕ) (c : CertificateContent) → IsCertificate c
    → certificate_fault c ≡ None → AreOfNodes n c
    → AreAdditions (record { width = n; terms = certificate_terms c })
certificate_fits n c is accepted within =
    let few = (none_above 0 8 c.lines (few_literals c accepted)).1 in
    let ts = map term_of c.lines in
    let same : contributions ts ≡ flat_map line_terms c.lines = flat_map-map _ term_of c.lines in
    let sets : AreSets n ts = grind (arith, nat_tests, lines_sets, recursion_from_All) in
    let rest =
    recursion_from_All (OfSet (IsTermSet n)) (contributions ts) (contributions-sets n ts sets) in
    record {
      sets =
          All-from_recursion (OfSet (IsTermSet n)) (certificate_terms c)
          (IsTermSet-none n, subst (AreSets n) same rest);
      small =
          let terms = terms_total-cons ([], c.bound) (flat_map line_terms c.lines) in
          let contributions_grow = contributions-grow 8 ts (lines_few c.lines few) in
          omega (arith, is.small, ap terms_total same, lines_total c.lines);
    }

-- ---- the constants of a model's entries

pub constant-size : (kind : Kind) (e : Entry)
    → unsigned_abs (entry_constant kind e) ≤ unsigned_abs e.weight
constant-size kind e = grind (arith, nat_tests)

-- ---- one line

both_ends : (P : Term → Type 0) (ts us vs : List Term) → AllByRecursion P (ts ++ (us ++ vs))
    → AllByRecursion P (ts ++ vs)
both_ends P [] [] vs h = h
both_ends P [] (u ∷ us) vs h = both_ends P [] us vs h.1
both_ends P (t ∷ ts) us vs h = (h.0, both_ends P ts us vs h.1)

-- additions are additions without some of them
pub additions_without : (t : TableContent) (us vs : List Term)
    → AreAdditions (with_more t (us ++ vs)) → AreAdditions (with_more t vs)
additions_without t us vs h = record {
  sets =
      let P = OfSet (IsTermSet t.width) in
      All-from_recursion P (t.terms ++ vs)
      (both_ends P t.terms us vs (recursion_from_All P (t.terms ++ (us ++ vs)) h.sets));
  small = omega (arith, h.small, terms_total-append);
}

-- ---- all lines

-- the lines of a certificate make a table
pub lines_fit : (n : ℕ) (c : CertificateContent) → IsCertificate c → certificate_fault c ≡ None
    → AreOfNodes n c
    → AreAdditions (with_more (record { width = n; terms = [] }) (flat_map line_terms c.lines))
lines_fit n c is few within =
    additions_without (record { width = n; terms = [] }) (([], c.bound) ∷ [])
    (flat_map line_terms c.lines) (certificate_fits n c is few within)
