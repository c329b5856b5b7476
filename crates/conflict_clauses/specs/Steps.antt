-- What the steps of the replacement make: clauses that are added, and marks of the constraints.
use Rattle.std.specs.Prelude.{◌≡◌, ℕ, ◌<◌, pos, int_lt, Bool, true, false, not, ◌&&◌, if◌then◌else◌, List, [], ◌∷◌, ◌++◌, map, All, Option, Some, MatchOption}
use Rattle.std.specs.List.{slice_get}
use Rattle.literal_lists.specs.declared.literal.Literal.{Literal}
use Rattle.problem_form.specs.declared.terms.Constraint.{Constraint}
use Rattle.problem_form.specs.Limits.{positive_total, room}
use Rattle.problem_form.specs.Problems.{ProblemContent}
use Rattle.conflict_clauses.specs.Conflicts.{clauses_from, clauses_of, cover_lists, hard_clauses, is_cover, is_replaced, is_short, pairs, pairs_of, spent_after, is_left, wanted_lists}
use Rattle.conflict_clauses.specs.declared.conflicts.Found.{Found}

-- the list of one literal
abbrev pub alone : Literal → List Literal
alone l = l ∷ []

-- literals of the first so many variables
abbrev pub AreWithin : ℕ → List Literal → Type 0
AreWithin variables literals = All (λ l. l.variable < variables) literals

-- a problem with hard clauses of these literals behind its own
abbrev pub with_hard : ProblemContent → List (List Literal) → ProblemContent
with_hard p lists = record p { clauses = p.clauses ++ hard_clauses lists }

-- a problem with the clauses of a constraint, where it is replaced as a conflict after so many pairs
abbrev pub with_conflict : ProblemContent → ℕ → Constraint → ProblemContent
with_conflict p spent k = record p { clauses = p.clauses ++ clauses_of false spent k }

-- a problem with the clause of a constraint, where it is a cover
abbrev pub with_cover : ProblemContent → Constraint → ProblemContent
with_cover p k = record p {
  clauses = p.clauses ++ (if is_cover k then hard_clauses (cover_lists k) else []);
}

-- a problem with the clauses that take the place of a constraint, after so many pairs
abbrev pub with_clauses_of : Bool → ProblemContent → ℕ → Constraint → ProblemContent
with_clauses_of covers p spent k = record p { clauses = p.clauses ++ clauses_of covers spent k }

-- a problem with the clauses of all constraints that are replaced, after so many pairs
abbrev pub with_clauses_from : Bool → ProblemContent → ℕ → List Constraint → ProblemContent
with_clauses_from covers p spent ks = record p { clauses = p.clauses ++ clauses_from covers spent ks }

-- which constraints stay, after so many pairs
abbrev pub staying : Bool → ℕ → List Constraint → List Bool
staying covers spent [] = []
staying covers spent (k ∷ ks) = is_left covers spent k ∷ staying covers (spent_after spent k) ks

-- a constraint that is replaced, its pairs, and the literals that it wants: by themselves, and in
-- pairs
pub record IsTaken (variables spent : ℕ) (k : Constraint) (alones others : List Literal) (count : ℕ) : Type 0 where
  pub replaced : is_replaced spent k ≡ true
  pub counted : count ≡ pairs k
  pub lists : map alone alones ++ pairs_of (map alone others) ≡ wanted_lists k
  pub alones_within : AreWithin variables alones
  pub others_within : AreWithin variables others

-- what was taken of the constraint at a place, after so many pairs: nothing where it stays, and else
-- its pairs and the literals that it wants
abbrev pub IsTakenAt : ProblemContent → ℕ → ℕ → List Literal → List Literal → Option ℕ → Type 0
IsTakenAt p i spent alones others taken =
    (k : Constraint) → slice_get p.constraints i ≡ Some k
    → MatchOption taken (is_replaced spent k ≡ false) (IsTaken p.variables spent k alones others)

-- a constraint that may be a conflict: no equation, of products that are not too many, that can hold
abbrev pub may_conflict : Constraint → Bool
may_conflict k = is_short k && not (int_lt (pos (positive_total k.products)) k.bound)

-- whether a constraint is a cover and, where it is one, the literals that it wants
pub record IsCoverTaken (variables : ℕ) (k : Constraint) (literals : List Literal) (taken : Bool) : Type 0 where
  pub told : taken ≡ is_cover k
  pub lists : taken ≡ true → literals ∷ [] ≡ cover_lists k
  pub within : taken ≡ true → AreWithin variables literals

-- what was taken of the constraint at a place, where it is a cover
abbrev pub IsCoverTakenAt : ProblemContent → ℕ → List Literal → Bool → Type 0
IsCoverTakenAt p i literals taken =
    (k : Constraint) → slice_get p.constraints i ≡ Some k
    → IsCoverTaken p.variables k literals taken

-- a constraint that is replaced after so many pairs, with its room and its pairs
pub record IsFound (spent : ℕ) (k : Constraint) (f : Found) : Type 0 where
  pub replaced : is_replaced spent k ≡ true
  pub room : f.room ≡ room k
  pub pairs : f.pairs ≡ pairs k
