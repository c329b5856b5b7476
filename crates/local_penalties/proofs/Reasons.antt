-- Why parts have their penalties: a literal that repairs a part has a price below its penalty, in the
-- round that gave it and ever after.
use Rattle.local_penalties.proofs.Common.{◌≡◌, ℕ, ◌+◌, ◌<◌, ◌≤◌, sym, ap, subst, ◌∙◌, refl, arith, nat_tests, List, [], ◌∷◌, Bool, true, false, cond, nat_lt, list_any, map, min, Literal, Clause, Constraint, ProblemContent, PartPenalties, same, hurts_clause, hurts_constraint, most_missing, far, charge, clause_charges, constraint_charges, price, rise, least, constraint_penalty, next_clause, next_clauses, next_constraint, next_constraints, own, rest, zero, suc, whole_penalty, next_penalties, penalties_of, without_own}
use Rattle.local_penalties.specs.Rounds.{after_rounds}
use Rattle.std.proofs.Common.{is_none, inl, inr}
use Rattle.problem_form.proofs.Common.{⊤}
use Rattle.local_penalties.proofs.Mending.{own-le}
use Rattle.local_penalties.proofs.Cheap.{least-found}
use Rattle.local_penalties.proofs.Repairs.{IsRepaired}
use Rattle.local_penalties.proofs.RepairedEquations.{repaired-local}

-- ---- prices that are finite stay

share-kept : (hurts : Bool) (n m m' missing : ℕ) → n ≤ far → cond hurts (charge n m missing) 0 < far
    → (nat_lt m n ≡ true → m' ≡ m) → cond hurts (charge n m' missing) 0 ≡ cond hurts (charge n m missing) 0
share-kept true n m m' missing small finite kept = decide (nat_lt m n) refl
  where
    decide : (b : Bool) → nat_lt m n ≡ b → charge n m' missing ≡ charge n m missing
    decide true e = ap (λ i. charge n i missing) (kept e)
    decide false e = absurd (none e)
      where
        none : nat_lt m n ≡ false → ⊥
        none g = grind (arith, nat_tests)
share-kept false n m m' missing small finite kept = refl

next-own-clause : (f : Literal → ℕ) (n m : ℕ) (c : Clause) → m ≤ n → nat_lt m n ≡ true
    → min (next_clause f n m c) n ≡ m
next-own-clause f n m c small below = grind (arith, nat_tests)

next-own-constraint : (f : Literal → ℕ) (n m : ℕ) (k : Constraint) → m ≤ n → nat_lt m n ≡ true
    → min (next_constraint f n m k) n ≡ m
next-own-constraint f n m k small below = grind (arith, nat_tests)

pub clause_charges-kept : (f : Literal → ℕ) (n : ℕ) (ns : List ℕ) (cs : List Clause) (l : Literal) → n ≤ far
    → clause_charges n ns cs l < far
    → clause_charges n (next_clauses f n ns cs) cs l ≡ clause_charges n ns cs l
clause_charges-kept f n ns [] l small finite = refl
clause_charges-kept f n ns (c ∷ cs) l small finite =
    let here = share-kept (hurts_clause c l) n (own n ns) (min (next_clause f n (own n ns) c) n) 1 small (omega (arith, finite))
    (next-own-clause f n (own n ns) c (own-le n ns)) in
    let others = clause_charges-kept f n (rest ns) cs l small (omega (arith, finite)) in
    λ j. here j + others j

pub constraint_charges-kept : (f : Literal → ℕ) (n : ℕ) (ns : List ℕ) (ks : List Constraint) (l : Literal) → n ≤ far
    → constraint_charges n ns ks l < far
    → constraint_charges n (next_constraints f n ns ks) ks l ≡ constraint_charges n ns ks l
constraint_charges-kept f n ns [] l small finite = refl
constraint_charges-kept f n ns (k ∷ ks) l small finite =
    let here = share-kept (hurts_constraint k l) n (own n ns) (min (next_constraint f n (own n ns) k) n) (most_missing k) small (omega (arith, finite))
    (next-own-constraint f n (own n ns) k (own-le n ns)) in
    let others = constraint_charges-kept f n (rest ns) ks l small (omega (arith, finite)) in
    λ j. here j + others j

-- ---- reasons of clauses

-- a literal of the clause has a price below a number
pub record Mended (f : Literal → ℕ) (c : Clause) (m : ℕ) : Type 0 where
  pub literal : Literal
  pub listed : list_any (same literal) c.literals ≡ true
  pub below : f literal + 1 ≤ m

-- each hard clause with a penalty of its own has such a literal
abbrev pub ClausesMended : (Literal → ℕ) → ℕ → List ℕ → List Clause → Type 0
ClausesMended f n ns [] = ⊤
ClausesMended f n ns (c ∷ cs) =
    (is_none c.weight ≡ true → own n ns < n → Mended f c (own n ns)) × ClausesMended f n (rest ns) cs

-- none has one yet
pub clauses-unmended : (f : Literal → ℕ) (n : ℕ) (cs : List Clause) → ClausesMended f n [] cs
clauses-unmended f n [] = tt
clauses-unmended f n (c ∷ cs) = (λ _ less. absurd (omega (arith, less)), clauses-unmended f n cs)

given : (f : Literal → ℕ) (n : ℕ) (c : Clause) → n ≤ far → 1 + least (map f c.literals) < n
    → Mended f c (1 + least (map f c.literals))
given f n c small less = elim (least-found f c.literals far) [
  | inl none ↦ absurd (omega (arith, none, less, small))
  | inr found ↦ record { literal = found.literal; listed = found.listed; below = omega (arith, found.prices) }
]

-- by prices that are the same where they are finite, the reasons stand after a round
mended-after : (f g : Literal → ℕ) (n m : ℕ) (c : Clause) → n ≤ far → ((l : Literal) → f l < far → g l ≡ f l)
    → (own_before : m < n → Mended f c m) → is_none c.weight ≡ true → m ≤ n
    → min (next_clause f n m c) n < n → Mended g c (min (next_clause f n m c) n)
mended-after f g n m c small stays before hard within less = decide (nat_lt m n) refl
  where
    moved : (i : ℕ) → i ≤ n → Mended f c i → Mended g c i
    moved i le found = record {
      literal = found.literal;
      listed = found.listed;
      below = omega (arith, stays found.literal (omega (arith, found.below)), found.below);
    }

    decide : (b : Bool) → nat_lt m n ≡ b → Mended g c (min (next_clause f n m c) n)
    decide true e =
        let is : min (next_clause f n m c) n ≡ m = next-own-clause f n m c within e in
        subst (Mended g c) (sym is) (moved m within (before (omega (arith, is, less))))
    decide false e =
        let is : min (next_clause f n m c) n ≡ min (1 + least (map f c.literals)) n = fresh e in
        let one : min (next_clause f n m c) n ≡ 1 + least (map f c.literals) = omega (arith, is, less) in
        subst (Mended g c) (sym one) (moved _ (omega (arith, one, less)) (given f n c small (omega (arith, one, less))))
      where
        fresh : nat_lt m n ≡ false → min (next_clause f n m c) n ≡ min (1 + least (map f c.literals)) n
        fresh none = grind (arith, nat_tests)

pub clauses-mended : (f g : Literal → ℕ) (n : ℕ) (ns : List ℕ) (cs : List Clause) → n ≤ far
    → ((l : Literal) → f l < far → g l ≡ f l) → ClausesMended f n ns cs
    → ClausesMended g n (next_clauses f n ns cs) cs
clauses-mended f g n ns [] small stays before = tt
clauses-mended f g n ns (c ∷ cs) small stays before = (
  λ hard less. mended-after f g n (own n ns) c small stays (before.0 hard) hard (own-le n ns) less,
  clauses-mended f g n (rest ns) cs small stays before.1,
)

-- ---- reasons of constraints

-- what a constraint with this penalty adds to the price of a literal
abbrev pub share : ℕ → ℕ → Constraint → Literal → ℕ
share n m k l = cond (hurts_constraint k l) (charge n m (most_missing k)) 0

-- each constraint with a penalty of its own is repaired at that price, by prices that leave out the
-- constraint itself: they are what is left of others and what the constraints after it add
abbrev pub ConstraintsMended : (Literal → ℕ) → ℕ → List ℕ → List Constraint → Type 0
ConstraintsMended others n ns [] = ⊤
ConstraintsMended others n ns (k ∷ ks) =
    (own n ns < n → IsRepaired (λ l. others l + constraint_charges n (rest ns) ks l) k (own n ns))
    × ConstraintsMended (λ l. others l + share n (own n ns) k l) n (rest ns) ks

pub constraints-unmended : (others : Literal → ℕ) (n : ℕ) (ks : List Constraint) → ConstraintsMended others n [] ks
constraints-unmended others n [] = tt
constraints-unmended others n (k ∷ ks) =
    (λ less. absurd (omega (arith, less)), constraints-unmended (λ l. others l + share n n k l) n ks)

-- by prices that are the same where they are finite
repaired-moved : (h h' : Literal → ℕ) (k : Constraint) (m : ℕ) → m ≤ far → ((l : Literal) → h l < far → h' l ≡ h l)
    → IsRepaired h k m → IsRepaired h' k m
repaired-moved h h' k m small stays repaired x normal broken =
    let found = repaired x normal broken in
    record {
      literal = found.literal;
      within = found.within;
      untrue = found.untrue;
      below = omega (arith, stays found.literal (omega (arith, found.below, small)), found.below);
      nearer = found.nearer;
    }

whole-share : (hurts : Bool) (n m missing : ℕ) → nat_lt m n ≡ false
    → cond hurts (charge n m missing) 0 ≡ cond hurts far 0
whole-share true n m missing e = grind (arith, nat_tests)
whole-share false n m missing e = refl

repaired-after : (f h h' : Literal → ℕ) (n m : ℕ) (k : Constraint) → n ≤ far
    → ((l : Literal) → h l < far → h' l ≡ h l) → ((l : Literal) → f l ≡ h l + share n m k l)
    → (m < n → IsRepaired h k m) → m ≤ n
    → min (next_constraint f n m k) n < n → IsRepaired h' k (min (next_constraint f n m k) n)
repaired-after f h h' n m k small stays shares before within less = decide (nat_lt m n) refl
  where
    decide : (b : Bool) → nat_lt m n ≡ b → IsRepaired h' k (min (next_constraint f n m k) n)
    decide true e =
        let is : min (next_constraint f n m k) n ≡ m = next-own-constraint f n m k within e in
        subst (IsRepaired h' k) (sym is)
        (repaired-moved h h' k m (omega (arith, within, small)) stays (before (omega (arith, is, less))))
    decide false e =
        let is : min (next_constraint f n m k) n ≡ min (constraint_penalty f k) n = fresh e in
        let one : min (next_constraint f n m k) n ≡ constraint_penalty f k = omega (arith, is, less) in
        let finite : constraint_penalty f k < far = omega (arith, one, less, small) in
        subst (IsRepaired h' k) (sym one)
        (repaired-moved h h' k (constraint_penalty f k) (omega (arith, finite)) stays
        (repaired-local f h k (λ l. shares l ∙ ap (λ i. h l + i) (whole-share (hurts_constraint k l) n m (most_missing k) e)) finite))
      where
        fresh : nat_lt m n ≡ false → min (next_constraint f n m k) n ≡ min (constraint_penalty f k) n
        fresh none = grind (arith, nat_tests)

-- by prices that are the same where they are finite, the reasons stand after a round
pub constraints-mended : (f others others' : Literal → ℕ) (n : ℕ) (ns : List ℕ) (ks : List Constraint) → n ≤ far
    → ((l : Literal) → others l < far → others' l ≡ others l)
    → ((l : Literal) → f l ≡ others l + constraint_charges n ns ks l)
    → ConstraintsMended others n ns ks → ConstraintsMended others' n (next_constraints f n ns ks) ks
constraints-mended f others others' n ns [] small stays total before = tt
constraints-mended f others others' n ns (k ∷ ks) small stays total before = (
  λ less. repaired-after f (λ l. others l + constraint_charges n (rest ns) ks l)
      (λ l. others' l + constraint_charges n (next_constraints f n (rest ns) ks) ks l) n (own n ns) k small
      (λ l finite. both (others l) (others' l) _ _ (stays l (omega (arith, finite)))
      (constraint_charges-kept f n (rest ns) ks l small (omega (arith, finite))))
      (λ l. omega (arith, total l)) before.0 (own-le n ns) less,
  constraints-mended f (λ l. others l + share n (own n ns) k l)
      (λ l. others' l + share n (min (next_constraint f n (own n ns) k) n) k l) n (rest ns) ks small
      (λ l finite. both (others l) (others' l) _ _ (stays l (omega (arith, finite)))
      (share-kept (hurts_constraint k l) n (own n ns) (min (next_constraint f n (own n ns) k) n) (most_missing k) small
      (omega (arith, finite)) (next-own-constraint f n (own n ns) k (own-le n ns))))
      (λ l. omega (arith, total l)) before.1,
)
  where
    both : (a a' b b' : ℕ) → a' ≡ a → b' ≡ b → a' + b' ≡ a + b
    both a a' b b' e h = omega (arith, e, h)

-- ---- reasons of the rule

-- what the objective and clauses add to the price of a literal
abbrev pub price_elsewhere : ProblemContent → PartPenalties → Literal → ℕ
price_elsewhere p found l = rise p l + clause_charges (whole_penalty p) found.clauses p.clauses l

-- all parts with penalties of their own have reasons, by the prices with these penalties
abbrev pub AreMended : ProblemContent → PartPenalties → Type 0
AreMended p found =
    ClausesMended (price p found) (whole_penalty p) found.clauses p.clauses
    × ConstraintsMended (price_elsewhere p found) (whole_penalty p) found.constraints p.constraints

whole-small : (p : ProblemContent) → whole_penalty p ≤ far
whole-small p = omega arith

pub price-kept : (p : ProblemContent) (found : PartPenalties) (l : Literal) → price p found l < far
    → price p (next_penalties p found) l ≡ price p found l
price-kept p found l finite =
    let clauses = clause_charges-kept (price p found) (whole_penalty p) found.clauses p.clauses l (whole-small p) (omega (arith, finite)) in
    let constraints = constraint_charges-kept (price p found) (whole_penalty p) found.constraints p.constraints l (whole-small p) (omega (arith, finite)) in
    λ j. rise p l + clauses j + constraints j

elsewhere-kept : (p : ProblemContent) (found : PartPenalties) (l : Literal) → price_elsewhere p found l < far
    → price_elsewhere p (next_penalties p found) l ≡ price_elsewhere p found l
elsewhere-kept p found l finite =
    let clauses = clause_charges-kept (price p found) (whole_penalty p) found.clauses p.clauses l (whole-small p) (omega (arith, finite)) in
    λ j. rise p l + clauses j

pub mended-next : (p : ProblemContent) (found : PartPenalties) → AreMended p found
    → AreMended p (next_penalties p found)
mended-next p found before = (
  clauses-mended (price p found) (price p (next_penalties p found)) (whole_penalty p) found.clauses p.clauses
      (whole-small p) (price-kept p found) before.0,
  constraints-mended (price p found) (price_elsewhere p found) (price_elsewhere p (next_penalties p found))
      (whole_penalty p) found.constraints p.constraints (whole-small p) (elsewhere-kept p found) (λ l. refl) before.1,
)

mended-rounds : (n : ℕ) (p : ProblemContent) (found : PartPenalties) → AreMended p found
    → AreMended p (after_rounds n p found)
unfolding after_rounds
mended-rounds zero p found before = before
mended-rounds (suc n) p found before = mended-rounds n p (next_penalties p found) (mended-next p found before)

-- whatever has a penalty of its own by the rule has a reason
pub mended-rule : (p : ProblemContent) → AreMended p (penalties_of p)
mended-rule p =
    mended-rounds 8 p (without_own p) (
      clauses-unmended (price p (without_own p)) (whole_penalty p) p.clauses,
      constraints-unmended (price_elsewhere p (without_own p)) (whole_penalty p) p.constraints,
    )
