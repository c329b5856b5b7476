-- How an order comes about: a walk from a qubit to its parents, up to one that is listed, is
-- appended from its end on.
use Rattle.cut_chains.proofs.Common.{elements, ◌≡◌, ℕ, ◌<◌, Bool, true, false, ◌||◌, List, [], ◌∷◌, ◌++◌, length, take, get_or, refl, sym, ap, subst, ◌∙◌, arith, append_assoc, length-append, ◌==◌, reverse, All, AllByRecursion, nat_tests, cases_lt, or_parts, or_from, take-append-le, get_or_append_left, append-nil, reverse-append, get_or-set_same, get_or-set_other, set, length-set, take-append_seam, get_or-append_seam, is_in, IsClimb, Once}
use Rattle.cut_chains.proofs.Members.{is_in-push, is_in-listed, once_more}

-- each qubit of the list stands after its parent, or its parent is the first, and none stands twice
pub record IsReached (first : ℕ) (up : ℕ → ℕ) (order : List ℕ) : Type 0 where
  pub after : (j : ℕ) → j < length order
      → is_in (first ∷ take j order) (up (get_or order j 0)) ≡ true
  pub once : (j : ℕ) → j < length order → is_in (first ∷ take j order) (get_or order j 0) ≡ false

pub climb_more : (up : ℕ → ℕ) (path : List ℕ) (from q : ℕ) → IsClimb up path from q
    → IsClimb up (path ++ q ∷ []) from (up q)
climb_more up [] from q climb = (climb, refl)
climb_more up (p ∷ ps) from q climb = (climb.0, climb_more up ps (up p) q climb.1)

-- one more, whose parent is listed
pub reached_more : (first : ℕ) (up : ℕ → ℕ) (order : List ℕ) (p : ℕ) → IsReached first up order
    → is_in (first ∷ order) (up p) ≡ true → is_in (first ∷ order) p ≡ false
    → IsReached first up (order ++ p ∷ [])
reached_more first up order p reached listed new = record {
  after = step up true reached.after listed;
  once = step (λ q. q) false reached.once new;
}
  where
    step : (f : ℕ → ℕ) (b : Bool)
        → ((j : ℕ) → j < length order → is_in (first ∷ take j order) (f (get_or order j 0)) ≡ b)
        → is_in (first ∷ order) (f p) ≡ b → (j : ℕ) → j < length (order ++ p ∷ [])
        → is_in (first ∷ take j (order ++ p ∷ [])) (f (get_or (order ++ p ∷ []) j 0)) ≡ b
    step f b before here j in' =
        let cases = cases_lt j (length order) in
        let long = length-append order (p ∷ []) in
        let fewer = take-append-le j order (p ∷ []) in
        let same = get_or_append_left order (p ∷ []) 0 j in
        let old = before j in
        let whole = take-append_seam order (p ∷ []) in
        let end = get_or-append_seam order p [] 0 in grind (arith, nat_tests)

-- ---- a path, listed from its end on

-- what a climb to a listed qubit begins with is listed with it
pub climb_listed : (first : ℕ) (up : ℕ → ℕ) (order ps : List ℕ) (from q : ℕ) → IsClimb up ps from q
    → is_in (first ∷ order) q ≡ true → is_in (first ∷ (order ++ reverse ps)) from ≡ true
climb_listed first up order [] from q climb listed = (λ k. is_in (first ∷ append-nil order k) (climb k)) ∙ listed
climb_listed first up order (p ∷ ps) from q climb listed =
    let both = is_in-listed order (p ∷ ps) from in let same = climb.0 in grind (arith, nat_tests)

pub reached_path : (first : ℕ) (up : ℕ → ℕ) (order path : List ℕ) (from q : ℕ)
    → IsReached first up order → IsClimb up path from q → is_in (first ∷ order) q ≡ true
    → AllByRecursion (λ p. is_in (first ∷ order) p ≡ false) path → Once path
    → IsReached first up (order ++ reverse path)
reached_path first up order [] from q reached climb listed new different =
    subst (IsReached first up) (sym (append-nil order)) reached
reached_path first up order (p ∷ ps) from q reached climb listed new different =
    let before = order ++ reverse ps in
    let rest = reached_path first up order ps (up p) q reached climb.1 listed new.1 different.1 in
    let same : order ++ reverse (p ∷ ps) ≡ before ++ p ∷ [] =
    cc (reverse-append (p ∷ []) ps, append_assoc order (reverse ps) (p ∷ [])) in
    let parts = or_parts (first == p) (is_in order p) new.0 in
    let out : is_in (first ∷ before) p ≡ false =
    or_from (first == p) (is_in before p) parts.0
    (is_in-listed order ps p ∙ or_from (is_in order p) (is_in ps p) parts.1 different.0) in
    subst (IsReached first up) (sym same)
    (reached_more first up before p rest (climb_listed first up order ps (up p) q climb.1 listed) out)

-- ---- a walk that marks its qubits

-- the walk so far, and where it is
pub record IsWalking (up : ℕ → ℕ) (before now : List Bool) (from q : ℕ) (path : List ℕ)
    : Type 0 where
  pub sized : length now ≡ length before
  pub bound : q < length before
  pub walk : IsClimb up path from q
  pub unmarked : All (λ p. get_or before p true ≡ false) path
  pub different : Once path
  pub marked : (r : ℕ) → r < length before
      → get_or now r true ≡ (get_or before r true || is_in path r)

pub walking_more : (up : ℕ → ℕ) (before now next : List Bool) (from q : ℕ) (path : List ℕ)
    → IsWalking up before now from q path → get_or now q true ≡ false → up q < length before
    → next ≡ set now q true → IsWalking up before next from (up q) (path ++ q ∷ [])
walking_more up before now next from q path walking fresh inside stored =
    let parts =
    or_parts (get_or before q true) (is_in path q) (sym (walking.marked q walking.bound) ∙ fresh) in
    record {
      sized = ap length stored ∙ length-set now q true ∙ walking.sized;
      bound = inside;
      walk = climb_more up path from q walking.walk;
      unmarked = grind (arith, nat_tests, elements);
      different = once_more path q walking.different parts.1;
      marked = λ r within.
          grind (arith, nat_tests, elements, is_in-push, get_or-set_same, get_or-set_other);
    }
