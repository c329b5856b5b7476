-- What is left of runs that are gone through together.
use Rattle.std.specs.Prelude.{◌≡◌, ℕ, ◌≤◌, ◌^◌, ℤ, pos, unsigned_abs, false, Option, None, Some, fold, List, [], ◌∷◌, drop, take, get_or, ⊤, if◌then◌else◌}
use Rattle.std.specs.List.{AllByRecursion}
use Rattle.std.specs.Ordering.{is_eq, is_lt}
use Rattle.base.specs.Sums.{if_so}
use Rattle.literal_lists.specs.declared.literal.Literal.{Literal}
use Rattle.term_table.specs.Terms.{Term, set_cmp}
use Rattle.term_table.specs.Runs.{Run, sum_over}
use Rattle.term_table.specs.Newest.{AreOrdered}

-- the rest of each run, from its place on
abbrev pub rests_of : List ℕ → List Run → List Run
rests_of places [] = []
rests_of [] (r ∷ rs) = r ∷ rs
rests_of (p ∷ ps) (r ∷ rs) = drop p r ∷ rests_of ps rs

-- the first term of a run
abbrev pub head_of : Run → Option Term
head_of [] = None
head_of (t ∷ ts) = Some t

-- of two terms the one of the lesser set, and the first one where the sets are equal
abbrev pub lesser_of : Option Term → Option Term → Option Term
lesser_of None o = o
lesser_of (Some t) None = Some t
lesser_of (Some t) (Some u) = if is_lt (set_cmp u.0 t.0) then Some u else Some t

-- the first of the terms of the least set with which runs begin
abbrev pub least_in : List Run → Option Term
least_in runs = fold (λ o run. lesser_of o (head_of run)) None runs

-- the coefficient with which a run begins, where it begins with the set
abbrev pub first_weight : List Literal → Run → ℤ
first_weight ls [] = pos 0
first_weight ls (t ∷ ts) = if_so (is_eq (set_cmp ls t.0)) t.1

-- a run without its first term, where that has the set
abbrev pub without : List Literal → Run → Run
without ls [] = []
without ls (t ∷ ts) = if is_eq (set_cmp ls t.0) then ts else t ∷ ts

-- the first set of the run is not below the set
abbrev pub NotBelow : List Literal → Run → Type 0
NotBelow ls [] = ⊤
NotBelow ls (t ∷ ts) = is_lt (set_cmp t.0 ls) ≡ false

-- the run begins with the set
abbrev pub Begins : List Literal → Run → Type 0
Begins ls [] = ⊥
Begins ls (t ∷ ts) = t.0 ≡ ls

-- the least set with which any of the runs begins
pub record IsLeast (ls : List Literal) (runs : List Run) : Type 0 where
  pub below : AllByRecursion (NotBelow ls) runs
  pub place : ℕ
  pub begins : Begins ls (get_or runs place [])

-- runs whose merging can be gone through: they are in order, and the sums are small
pub record AreRests (runs : List Run) : Type 0 where
  pub ordered : AreOrdered runs
  pub small : (ls : List Literal) (k : ℕ) → unsigned_abs (sum_over ls (take k runs)) ≤ 2 ^ 124
