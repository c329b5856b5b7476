-- The least joined pairs between two chains.
use Rattle.std.specs.Prelude.{◌≡◌, ℕ, ◌<◌, ◌≤◌, true, List, Option, Some, None}
use Rattle.hardware.specs.declared.span.Span.{Span}
use Rattle.hardware.specs.Others.{IsFaced}
use Rattle.chain_map.specs.Chains.{Joins}
use Rattle.bits_model.specs.Walks.{is_in}
use Rattle.chain_map.specs.Valid.{IsCrossing}
use Rattle.embedding_check.specs.Checked.{IsBefore}
use Rattle.hardware.specs.declared.hardware.Others.{Others}
use Rattle.hardware.specs.Others.{IsOneOf}

-- the least number for which S holds, where there is one
abbrev pub IsLeast : (ℕ → Type 0) → Option ℕ → Type 0
IsLeast S None = (b : ℕ) → S b → ⊥
IsLeast S (Some b) = S b × ((c : ℕ) → S c → b ≤ c)

-- the least pair for which S holds, where there is one
abbrev pub IsLeastPair : (ℕ × ℕ → Type 0) → Option (ℕ × ℕ) → Type 0
IsLeastPair S None = (p : ℕ × ℕ) → S p → ⊥
IsLeastPair S (Some p) = S p × ((q : ℕ × ℕ) → S q → IsBefore p q)

-- a qubit of the chain above a that is joined to a
pub record IsAhead (joined : Joins) (a : ℕ) (chain : List ℕ) (b : ℕ) : Type 0 where
  pub inside : is_in chain b ≡ true
  pub above : a < b
  pub linked : joined a b ≡ true

-- one in a span, and one with a given number
pub record IsFacedAhead (joined : Joins) (a : ℕ) (chain : List ℕ) (span : Span) (b : ℕ) : Type 0 where
  pub ahead : IsAhead joined a chain b
  pub faced : IsFaced span b

-- a qubit of the chain above a that is joined to a and has the given number
pub record IsNumberedAhead (joined : Joins) (a : ℕ) (chain : List ℕ) (number : Option ℕ) (b : ℕ) : Type 0 where
  pub ahead : IsAhead joined a chain b
  pub is : number ≡ Some b

-- an other of a, above it, that is a qubit of the chain and joined to a
pub record IsOtherAhead (joined : Joins) (a : ℕ) (chain : List ℕ) (others : Others) (other : ℕ → ℕ) (b : ℕ) : Type 0 where
  pub ahead : IsAhead joined a chain b
  pub is : IsOneOf others other b

-- a join from the first chain up to the second
pub record IsArrow (joined : Joins) (c d : List ℕ) (p : ℕ × ℕ) : Type 0 where
  pub from : is_in c p.0 ≡ true
  pub ahead : IsAhead joined p.0 d p.1

-- a crossing pair, as the least of them is the place
abbrev pub IsPlaceIn : Joins → List ℕ → List ℕ → Option (ℕ × ℕ) → Type 0
IsPlaceIn joined c d place = IsLeastPair (IsCrossing joined c d) place
