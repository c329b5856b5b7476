-- The replaced terms keep costs. Nothing here has to be believed.
--
-- Under every state, what stands for a term costs no less than the term, and the state that adds
-- the bits of the new nodes to an assignment reaches the cost of each term. The new nodes lie above
-- the variables, so a state costs what its first bits cost in the terms.
use Rattle.std.specs.Prelude.{◌≡◌, ◌+◌, ◌<◌, ◌≤◌, ◌∷◌, ◌++◌, ◌+ℤ◌, ◌≤ℤ◌}
use Rattle.monomial_layer.specs.laws.Common.{ℕ, zero, suc, Bool, true, false, cond, leb, List, [], length, take, get_or, pos, int_lt, flat_map, sum_by, arith, sym, ap, ◌∙◌, refl, inl, inr, ints, cases_lt, nat_tests, get_or-append-add, get_or_append_left, get_or_push, length_push, length-append, length-take, take-append-le, take_all, total_by-append, BitsLink, IsNeverInfinite, Keeps, Extends, Joins, first_bits, HasFirstBits, Literal, all_hold, Term, term_cost, terms_cost, IsTermSet, OfSet, TableContent, IsTable, terms_cost-with_additions, negative_terms, positive_terms, nodes_for, new_nodes, new_terms, all_new_terms, image, Fits, is_taken, first_values, true_literals, new_bits, extension, length-flat_map, Agrees, first_agrees, longer_agrees, holds-agrees, all_hold-agrees, terms_cost-agrees, All, All-head, All-tail}
use Rattle.term_table.specs.Tables as tables
use Rattle.monomial_layer.specs.laws.TermCosts.{true_literals-cons, positive_terms-le, positive_terms_reach, negative_terms-le, negative_terms_reach}

-- ---- no state costs less

-- a degree that is not low is 3 or more
above_two : (n : ℕ) → leb n 2 ≡ false → 3 ≤ n
above_two n h = grind (arith, nat_tests)

-- what stands for one term costs no less than the term, for any bits of the new nodes
new_terms-le : (y : List Bool) (t : Term) (n : ℕ) → term_cost y t ≤ℤ terms_cost y (new_terms t n)
new_terms-le y t n =
    let low = negative_terms-le y t.0 t.1 n in
    let high = positive_terms-le y t.0 t.1 n in
    grind (arith, nat_tests, ints)

-- what stands for the terms costs no less than they do
pub all_new_terms-le : (y : List Bool) (ts : List Term) (n : ℕ)
    → terms_cost y ts ≤ℤ terms_cost y (all_new_terms ts n)
all_new_terms-le y [] n = omega (arith, ints)
all_new_terms-le y (t ∷ ts) n =
    omega (
      arith,
      ints,
      new_terms-le y t n,
      all_new_terms-le y ts (n + new_nodes t),
      total_by-append (term_cost y) (new_terms t n) (all_new_terms ts (n + new_nodes t)),
    )

-- ---- two states that agree on the first bits

-- as many literals of the first n variables are true under both
count-agrees : (n : ℕ) (x y : List Bool) (ls : List Literal) → Agrees n x y
    → All (λ l. l.variable < n) ls → true_literals x ls ≡ true_literals y ls
count-agrees n x y [] same below = refl
count-agrees n x y (l ∷ ls) same below =
    let P : Literal → Type 0 = λ k. k.variable < n in
    true_literals-cons x l ls
    ∙ (λ i. cond (holds-agrees n x y l same (All-head P l ls below) i) 1 0
    + count-agrees n x y ls same (All-tail P l ls below) i)
    ∙ sym (true_literals-cons y l ls)

-- ---- the bits of the new nodes

-- there are n values
length-first_values : (f : ℕ → Bool) (n : ℕ) → length (first_values f n) ≡ n
length-first_values f zero = refl
length-first_values f (suc n) =
    length_push (first_values f n) (f n) ∙ omega (arith, length-first_values f n)

-- of which the one at i is that of i
get_or-first_values : (f : ℕ → Bool) (n i : ℕ) → i < n → get_or (first_values f n) i false ≡ f i
get_or-first_values f zero i h = absurd (omega arith)
get_or-first_values f (suc n) i h = elim (cases_lt i n) [
  | inl l ↦
      get_or_append_left (first_values f n) (f n ∷ []) false i (omega (arith, length-first_values f n))
      ∙ get_or-first_values f n i l
  | inr g ↦
      let same : n ≡ i = omega arith in
      get_or_push (first_values f n) (f n) false i (length-first_values f n ∙ same) ∙ ap f same
]

-- the state has these bits from a place on
abbrev Has : List Bool → ℕ → List Bool → Type 0
Has y m bits = (i : ℕ) → i < length bits → get_or y (m + i) false ≡ get_or bits i false

-- where a state has bits in a row, it has the first of them at that place
has_left : (y : List Bool) (m : ℕ) (bs cs : List Bool) → Has y m (bs ++ cs) → Has y m bs
has_left y m bs cs h =
    λ i l. h i (omega (arith, length-append bs cs)) ∙ get_or_append_left bs cs false i l

-- and those after them as many places later
has_right : (y : List Bool) (m : ℕ) (bs cs : List Bool) → Has y m (bs ++ cs)
    → Has y (m + length bs) cs
has_right y m bs cs h = λ i l.
    let place : m + length bs + i ≡ m + (length bs + i) = omega arith in
    ap (λ k. get_or y k false) place
    ∙ h (length bs + i) (omega (arith, length-append bs cs))
    ∙ get_or-append-add bs cs i false

-- with its own bits at its new nodes, what stands for a term costs what the term costs
new_terms_reach : (x y : List Bool) (n m : ℕ) (t : Term) → Agrees n x y → IsTermSet n t.0
    → Has y m (new_bits x t) → terms_cost y (new_terms t m) ≡ term_cost y t
new_terms_reach x y n m t agrees set has =
    go (leb (length t.0) 2) (int_lt t.1 (pos 0)) (above_two (length t.0)) has
  where
    values : List Bool
    values = first_values (is_taken (true_literals x t.0)) (nodes_for (length t.0))

    go : (a b : Bool) → (a ≡ false → 3 ≤ length t.0)
        → Has y m (cond a [] (cond b (all_hold x t.0 ∷ []) values))
        → terms_cost y
        (cond a (t ∷ []) (cond b (negative_terms t.0 t.1 m) (positive_terms t.0 t.1 m)))
        ≡ term_cost y t
    go true b f h = omega (arith, ints)
    go false true f h =
        let place : m ≡ m + 0 = omega arith in
        let bit = ap (λ k. get_or y k false) place ∙ h 0 (omega arith) in
        let same = bit ∙ all_hold-agrees n x y t.0 agrees set.set.within in
        sym (negative_terms_reach y t.0 t.1 m (omega (arith, f refl)) same)
    go false false f h =
        let s = true_literals x t.0 in
        let k = nodes_for (length t.0) in
        sym (positive_terms_reach y t.0 t.1 m (f refl) (λ i l.
        h i (omega (arith, length-first_values (is_taken s) k))
        ∙ get_or-first_values (is_taken s) k i l
        ∙ ap (λ n. is_taken n i) (count-agrees n x y t.0 agrees set.set.within)))

-- a term has as many new bits as new nodes
pub length-new_bits : (x : List Bool) (t : Term) → length (new_bits x t) ≡ new_nodes t
length-new_bits x t =
    let values = length-first_values (is_taken (true_literals x t.0)) (nodes_for (length t.0)) in
    grind (arith, nat_tests)

-- and so for all terms, one after another
replaced_reach : (x y : List Bool) (n m : ℕ) (ts : List Term) → Agrees n x y
    → All (OfSet (IsTermSet n)) ts → Has y m (flat_map (new_bits x) ts) → terms_cost y (all_new_terms ts m) ≡ terms_cost y ts
replaced_reach x y n m [] agrees sets has = refl
replaced_reach x y n m (t ∷ ts) agrees sets has =
    let bits = flat_map (new_bits x) ts in
    let set = All-head (OfSet (IsTermSet n)) t ts sets in
    let first = new_terms_reach x y n m t agrees set (has_left y m (new_bits x t) bits has) in
    let after = rw (length-new_bits x t) at (has_right y m (new_bits x t) bits has) in
    let rest = replaced_reach x y n (m + new_nodes t) ts agrees (All-tail (OfSet (IsTermSet n)) t ts sets) after in
    total_by-append (term_cost y) (new_terms t m) (all_new_terms ts (m + new_nodes t))
    ∙ (λ i. first i +ℤ rest i)

-- the extension has these bits, so it reaches the cost of all terms
extension_reach : (x : List Bool) (ts : List Term) → All (OfSet (IsTermSet (length x))) ts
    → terms_cost (extension x ts) (all_new_terms ts (length x)) ≡ terms_cost x ts
extension_reach x ts sets =
    let bits = flat_map (new_bits x) ts in
    let agrees = longer_agrees x bits in
    replaced_reach x (x ++ bits) (length x) (length x) ts agrees sets
    (λ i l. get_or-append-add x bits i false)
    ∙ sym (terms_cost-agrees (length x) x (x ++ bits) ts agrees sets)

-- ---- the layer's laws

-- A state costs no less than its first bits in the source. This is one half of keeping costs, and
-- `mono_reaches` is the other.
pub image_bound : (t : TableContent) → IsTable t → (y : List Bool)
    → terms_cost (take t.width y) t.terms ≤ℤ terms_cost y (image t).terms
image_bound t table y =
    omega (
      arith,
      ints,
      terms_cost-agrees t.width (take t.width y) y t.terms (first_agrees t.width y) table.terms.sets,
      all_new_terms-le y t.terms t.width,
      terms_cost-with_additions y (all_new_terms t.terms t.width),
    )

-- as many bits are appended as there are new nodes
length-bits : (x : List Bool) (ts : List Term)
    → length (flat_map (new_bits x) ts) ≡ sum_by new_nodes ts
length-bits x ts = length-flat_map (new_bits x) ts ∙ (λ i. sum_by (λ t. length-new_bits x t i) ts)

-- a link that fits can be decoded by
pub mono_sound : (link : BitsLink) (t : TableContent) → Fits link t → HasFirstBits link
mono_sound link t fits = let from = fits.source in let to = fits.target in omega arith

-- it has the widths of the table and of its image
pub mono_joins : (link : BitsLink) (t : TableContent) → Fits link t
    → Joins (tables.form_of t) (tables.form_of (image t)) (first_bits link)
mono_joins link t fits = record { source = fits.source; target = fits.target }

-- an assignment is reached by its extension
pub mono_reaches : (link : BitsLink) (t : TableContent) (x : List Bool) → Fits link t
    → length x ≡ t.width
    → Extends (tables.form_of t) (tables.form_of (image t)) (first_bits link) (pos 1) (pos 0) x
    (extension x t.terms)
mono_reaches link t x fits width =
    let bits = flat_map (new_bits x) t.terms in
    let from : link.source_width ≡ length x = fits.source ∙ sym width in
    let sets : All (OfSet (IsTermSet (length x))) t.terms = rw width fits.table.terms.sets in
    let reached : terms_cost (extension x t.terms) (all_new_terms t.terms t.width)
    ≡ terms_cost x t.terms =
    ap (λ n. terms_cost (extension x t.terms) (all_new_terms t.terms n)) (sym width)
    ∙ extension_reach x t.terms sets in
    record {
      width = omega (arith, length-append x bits, width, length-bits x t.terms);
      decodes =
          ap (λ n. take n (x ++ bits)) from
          ∙ take-append-le (length x) x bits (omega arith)
          ∙ take_all (length x) x (omega arith);
      energy =
          omega (
            arith,
            ints,
            terms_cost-with_additions (extension x t.terms) (all_new_terms t.terms t.width),
            reached,
          );
    }

-- the image keeps the costs of the table
pub mono_keeps : (link : BitsLink) (t : TableContent) → Fits link t
    → Keeps (tables.form_of t) (tables.form_of (image t)) (first_bits link) (pos 1) (pos 0)
mono_keeps link t fits = record {
  positive = omega (arith, ints);
  width = λ y w.
      let from = fits.source in
      omega (arith, length-take link.source_width y);
  bound = λ y w.
      let same = ap (λ n. terms_cost (take n y) t.terms) fits.source in
      omega (arith, ints, image_bound t fits.table y, same);
  reached = λ x w. (extension x t.terms, mono_reaches link t x fits w);
}

-- the costs of a table are whole
pub mono_whole_source : (t : TableContent) → IsNeverInfinite (tables.form_of t)
mono_whole_source t y infinite = cc

-- the costs of an image are whole
pub mono_whole : (t : TableContent) → IsNeverInfinite (tables.form_of (image t))
mono_whole t y infinite = cc
