-- What a sink tells of the bytes that it took, and what it takes of a piece.
use Rattle.std.specs.Prelude.{◌≡◌, ℕ, ◌<◌, ◌≤◌, List, ◌++◌, length, flat_map, Result, IfOk}
use Rattle.std.specs.Borrow.{Bor}
use Rattle.std.specs.declared.option.Option.{Option}
use Rattle.std.specs.Io.KnownBytes.{Appends}
use Rattle.edge_io.specs.Counts.{RoseBy}

-- what a sink tells of all that it took: the bytes, where it knows them, and how many they are
pub record Taken : Type 0 where
  pub bytes : Option (List ℕ)
  pub count : ℕ

-- of each piece at most all is taken, and of one that isn't empty at least one byte
abbrev pub TakesSome : {E : Type 0} → Result ℕ E → List ℕ → Type 0
TakesSome result piece = IfOk result (λ n. (n ≤ length piece) × (0 < length piece → 0 < n))

-- the pieces one after the other
abbrev pub joined_bytes : List (Bor (List ℕ)) → List ℕ
joined_bytes pieces = flat_map (λ piece. piece.now) pieces

-- the whole piece was taken: the told bytes grew by it, and the count rose by its length
pub record Takes (old new : Taken) (piece : List ℕ) : Type 0 where
  pub bytes : Appends old.bytes new.bytes piece
  pub count : RoseBy (length piece) old.count new.count

-- a front of the piece was taken
abbrev pub TakesFront : Taken → Taken → List ℕ → Type 0
TakesFront old new piece =
    (front : List ℕ) × (rest : List ℕ) × (piece ≡ front ++ rest) × Takes old new front

-- of the pending bytes and the piece behind them a front was taken, and the rest is pending
abbrev pub Passes : Taken → Taken → List ℕ → List ℕ → List ℕ → Type 0
Passes old new pending left piece =
    (front : List ℕ) × (pending ++ piece ≡ front ++ left) × Takes old new front
