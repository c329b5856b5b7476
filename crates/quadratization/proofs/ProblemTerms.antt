-- What a problem adds can be summed.
use Rattle.quadratization.proofs.Common.{◌≡◌, ◌≤◌, arith, ◌+◌, ◌^◌, None, ProblemContent, limit_fault, terms_total, contributions, Admits, within_limits, contributions-total, contribution_sets, ℕ, ℤ, unsigned_abs, List, [], ◌∷◌, All, length, subst, sym, ap, Result, Ok, Err, OnOk, append-nil, All-head, All-tail, Literal, Term, IsTermSet, terms_total-cons, HasRoomFor, HeldContent, HasPlaces, ◌*◌, length-append, flat_map, nat_tests, sets_sum, sets_sum-cons, image_size, square, contributions_squares, short_terms, short_couplers, short_couplers-few, additions_of, AreHeld, FitsByPairs}
use Rattle.penalty_layer.proofs.RoomForTerms.{AreAdditions-contributions}
use Rattle.penalty_layer.specs.Penalty.{node_count}
use Rattle.problem_form.specs.declared.limits.Normal.TheVariants as normals

-- ---- what an admitted problem adds

pub total-additions : (p : ProblemContent) → limit_fault normals.Literal p ≡ None
    → terms_total (contributions p) + 1 ≤ 2 ^ 64
total-additions p none = omega (arith, contributions-total p, (within_limits p none).weight)

-- For which terms there is room among what is held.

-- ---- one term, where there is room for it and others

module _ (h : HeldContent) (ls : List Literal) (c : ℤ) (more : List Term) (room : HasPlaces h ((ls, c) ∷ more)) where
  pub place_set : IsTermSet (length h.weights) ls
  place_set = All-head (λ (u : Term). IsTermSet (length h.weights) u.0) (ls, c) more room.sets

  pub place_small : h.total + unsigned_abs c ≤ 2 ^ 97
  place_small = omega (arith, room.total, terms_total-cons (ls, c) more)

  -- after it there is room for the others
  pub place_next : (new : HeldContent) → length new.weights ≡ length h.weights
      → new.total ≡ h.total + unsigned_abs c → HasPlaces new more
  place_next new width total = record {
    sets =
        rw width (All-tail (λ (u : Term). IsTermSet (length h.weights) u.0) (ls, c) more room.sets);
    total = omega (arith, room.total, total, terms_total-cons (ls, c) more);
  }

-- where the answer is good, and the code has the coefficient as z
pub places_if_ok : {V E : Type 0} (r : Result V E) (h new : HeldContent) (ls : List Literal) (z c : ℤ) (more : List Term)
    → z ≡ c → HasPlaces h ((ls, c) ∷ more) → OnOk r (length new.weights ≡ length h.weights)
    → OnOk r (new.total ≡ h.total + unsigned_abs z) → OnOk r (HasPlaces new more)
places_if_ok (Ok v) h new ls z c more is room width total =
    place_next h ls c more room new width (omega (arith, total, ap unsigned_abs is))
places_if_ok (Err e) h new ls z c more is room width total = tt

-- ---- all terms, where nothing is held

pub places_at_first : (h : HeldContent) (ts : List Term) (width : ℕ) → length h.weights ≡ width → h.total ≡ 0
    → All (λ (u : Term). IsTermSet width u.0) ts → terms_total ts ≤ 2 ^ 97 → HasPlaces h ts
places_at_first h ts width wide total sets small = record {
  sets = subst (λ (n : ℕ). All (λ (u : Term). IsTermSet n u.0) ts) (sym wide) sets;
  total = omega (arith, total, small);
}

-- there is room for what a problem contributes
pub room-contributions : (p : ProblemContent) (h : HeldContent) → Admits p → length h.weights ≡ node_count p
    → h.total ≡ 0 → HasRoomFor HasPlaces h (contributions p)
room-contributions p h admitted wide total =
    let places =
    places_at_first h (contributions p) (node_count p) wide total (contribution_sets p admitted)
    (omega (arith, contributions-total p, (within_limits p admitted.within).weight)) in
    ([], subst (HasPlaces h) (sym (append-nil (contributions p))) places)

-- What a problem adds has room in a form, and its couplers are few.

pub room-of : (p : ProblemContent) → Admits p → FitsByPairs (additions_of p)
room-of p admitted = record {
  additions = AreAdditions-contributions p admitted;
  total = omega (arith, total-additions p admitted.within);
  size = omega (arith, image_size p admitted);
}

-- ---- its couplers

-- a coupler of a term counts as the square of its degree
couplers-few : (ts : List Term)
    → 4 * length (flat_map short_couplers (short_terms ts)) ≤ sets_sum square ts
couplers-few [] = omega arith
couplers-few (t ∷ ts) =
    let both = length-append (short_couplers t) (flat_map short_couplers (short_terms ts)) in
    grind (arith, nat_tests, couplers-few ts, both, short_couplers-few t.0 t.1, sets_sum-cons square t ts)

pub few-pairs : (p : ProblemContent) (h : HeldContent) → Admits p → AreHeld (additions_of p) h
    → 4 * length h.pairs ≤ 2 ^ 31
few-pairs p h admitted held = grind (arith, nat_tests, couplers-few, contributions_squares)
