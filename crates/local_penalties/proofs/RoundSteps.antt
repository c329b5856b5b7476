-- Rounds, part by part: penalties that are found, and prices that change.
use Rattle.local_penalties.proofs.Common.{◌≡◌, ℕ, suc, zero, ◌+◌, ◌-◌, ◌<◌, ◌≤◌, sym, ap, subst, ◌∙◌, refl, arith, List, [], ◌∷◌, ◌++◌, length, drop, Bool, true, false, cond, All, Some, slice_get, Literal, Clause, Constraint, hurts_clause, hurts_constraint, most_missing, charge, clause_charges, constraint_charges, next_clause, next_clauses, next_constraint, next_constraints, own, rest, drop-at, append_assoc, append-nil, add-one, drop_all, slice_get_within, get_or_from_slice_get, false≢true}

pub all-at : {X : Type 0} (P : X → Type 0) (xs : List X) (i : ℕ) (x : X) → All P xs
    → slice_get xs i ≡ Some x → P x
all-at P xs i x all at =
    subst P (get_or_from_slice_get xs i x x at) (all i x (slice_get_within xs i x at))

rest-drop-suc : (ns : List ℕ) (i : ℕ) → rest (drop i ns) ≡ drop (suc i) ns
rest-drop-suc [] zero = refl
rest-drop-suc [] (suc i) = refl
rest-drop-suc (n ∷ ns) zero = refl
rest-drop-suc (n ∷ ns) (suc i) = rest-drop-suc ns i

pub rest-drop : (ns : List ℕ) (i : ℕ) → rest (drop i ns) ≡ drop (i + 1) ns
rest-drop ns i = rest-drop-suc ns i ∙ ap (λ n. drop n ns) (sym (add-one i))

-- ---- penalties that are found

pub clauses-step : (f : Literal → ℕ) (w i : ℕ) (found : List ℕ) (c : Clause) (cs : List Clause)
    (so_far more total : List ℕ) (n : ℕ) → slice_get cs i ≡ Some c
    → n ≡ next_clause f w (own w (drop i found)) c → more ≡ so_far ++ n ∷ []
    → so_far ++ next_clauses f w (drop i found) (drop i cs) ≡ total
    → more ++ next_clauses f w (drop (i + 1) found) (drop (i + 1) cs) ≡ total
clauses-step f w i found c cs so_far more total n at e pushed h =
    let others = drop (i + 1) cs in
    let left : drop i cs ≡ c ∷ others = drop-at cs i c at in
    ap (λ ns. ns ++ next_clauses f w (drop (i + 1) found) others) pushed
    ∙ append_assoc so_far (n ∷ []) (next_clauses f w (drop (i + 1) found) others)
    ∙ (λ j. so_far ++ e j ∷ next_clauses f w (sym (rest-drop found i) j) others)
    ∙ (λ j. so_far ++ next_clauses f w (drop i found) (sym left j)) ∙ h

pub clauses-end : (f : Literal → ℕ) (w i : ℕ) (found : List ℕ) (cs : List Clause) (so_far total : List ℕ)
    → length cs ≤ i → so_far ++ next_clauses f w (drop i found) (drop i cs) ≡ total → so_far ≡ total
clauses-end f w i found cs so_far total past h =
    sym (append-nil so_far) ∙ (λ j. so_far ++ next_clauses f w (drop i found) (sym (drop_all i cs past) j)) ∙ h

pub constraints-step : (f : Literal → ℕ) (w i : ℕ) (found : List ℕ) (c : Constraint) (cs : List Constraint)
    (so_far more total : List ℕ) (n : ℕ) → slice_get cs i ≡ Some c
    → n ≡ next_constraint f w (own w (drop i found)) c → more ≡ so_far ++ n ∷ []
    → so_far ++ next_constraints f w (drop i found) (drop i cs) ≡ total
    → more ++ next_constraints f w (drop (i + 1) found) (drop (i + 1) cs) ≡ total
constraints-step f w i found c cs so_far more total n at e pushed h =
    let others = drop (i + 1) cs in
    let left : drop i cs ≡ c ∷ others = drop-at cs i c at in
    ap (λ ns. ns ++ next_constraints f w (drop (i + 1) found) others) pushed
    ∙ append_assoc so_far (n ∷ []) (next_constraints f w (drop (i + 1) found) others)
    ∙ (λ j. so_far ++ e j ∷ next_constraints f w (sym (rest-drop found i) j) others)
    ∙ (λ j. so_far ++ next_constraints f w (drop i found) (sym left j)) ∙ h

pub constraints-end : (f : Literal → ℕ) (w i : ℕ) (found : List ℕ) (cs : List Constraint) (so_far total : List ℕ)
    → length cs ≤ i → so_far ++ next_constraints f w (drop i found) (drop i cs) ≡ total → so_far ≡ total
constraints-end f w i found cs so_far total past h =
    sym (append-nil so_far) ∙ (λ j. so_far ++ next_constraints f w (drop i found) (sym (drop_all i cs past) j)) ∙ h

-- ---- prices that change

pub clause_charges-at : (l : Literal) (w i : ℕ) (ns : List ℕ) (c : Clause) (cs : List Clause)
    → slice_get cs i ≡ Some c → clause_charges w (drop i ns) (drop i cs) l
    ≡ cond (hurts_clause c l) (charge w (own w (drop i ns)) 1) 0
    + clause_charges w (drop (i + 1) ns) (drop (i + 1) cs) l
clause_charges-at l w i ns c cs at =
    (λ j. clause_charges w (drop i ns) (drop-at cs i c at j) l)
    ∙ (λ j. cond (hurts_clause c l) (charge w (own w (drop i ns)) 1) 0 + clause_charges w (rest-drop ns i j) (drop (i + 1) cs) l)

pub constraint_charges-at : (l : Literal) (w i : ℕ) (ns : List ℕ) (c : Constraint) (cs : List Constraint)
    → slice_get cs i ≡ Some c → constraint_charges w (drop i ns) (drop i cs) l
    ≡ cond (hurts_constraint c l) (charge w (own w (drop i ns)) (most_missing c)) 0
    + constraint_charges w (drop (i + 1) ns) (drop (i + 1) cs) l
constraint_charges-at l w i ns c cs at =
    (λ j. constraint_charges w (drop i ns) (drop-at cs i c at j) l)
    ∙ (λ j. cond (hurts_constraint c l) (charge w (own w (drop i ns)) (most_missing c)) 0 + constraint_charges w (rest-drop ns i j) (drop (i + 1) cs) l)

-- a price that changes by one part: what the others add is still that by the old penalties
pub record Entered (n n' was' is' is total begun was : ℕ) : Type 0 where
  pub counted : was' ≤ n'
  pub room : n' + is' ≤ n + is
  pub sums : n' + is' + total ≡ begun + was'

pub entered : (hurts : Bool) (a p n n' was was' is is' total begun : ℕ) → n' ≡ cond hurts (n - a + p) n
    → was ≡ cond hurts a 0 + was' → is ≡ cond hurts p 0 + is' → was ≤ n → n + is + total ≡ begun + was
    → Entered n n' was' is' is total begun was
entered true a p n n' was was' is is' total begun e f g counted sums =
    record { counted = omega arith; room = omega arith; sums = omega arith }
entered false a p n n' was was' is is' total begun e f g counted sums =
    record { counted = omega arith; room = omega arith; sums = omega arith }

pub may-enter : (hurts : Bool) (a p n was was' is is' most : ℕ)
    → was ≡ cond hurts a 0 + was' → is ≡ cond hurts p 0 + is' → was ≤ n → n + is < most
    → hurts ≡ true → (a ≤ n) × (n + p < most)
may-enter true a p n was was' is is' most f g counted room _ = (omega arith, omega arith)
may-enter false a p n was was' is is' most f g counted room e = absurd (false≢true e)
