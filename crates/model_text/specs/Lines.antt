-- Numbers within a line, and what it is to put a text.
use Rattle.std.specs.Prelude.{◌≡◌, ℕ, ◌≤◌, ℤ, List, [], ◌∷◌, ◌++◌, drop, Result, OnOk, OnErr}
use Rattle.std.specs.List.{flat_map}
use Rattle.std.specs.Fmt.{decimal, signed_decimal}
use Rattle.edge_io.specs.Counts.{HasCause}
use Rattle.edge_io.specs.Sinks.{Taken, TakesFront, Passes}

-- the numbers, each after a space (32)
abbrev pub spaced_numbers : List ℕ → List ℕ
spaced_numbers numbers = flat_map (λ n. 32 ∷ decimal n) numbers

-- a text was put to a sink through a buffer: the whole text, or, at a fault of the sink, a front of
-- what was pending and of the text, and then nothing is pending
pub record IsPutBy {T E : Type 0} (told now : Taken) (before after : ℕ) (pending left text : List ℕ) (result : Result T E) : Type 0 where
  pub passed : OnOk result (Passes told now pending left text)
  pub front : OnErr result (TakesFront told now (pending ++ text))
  pub lost : OnErr result (left ≡ [])
  pub cause : HasCause before after result

-- the first 48 bytes end in the text of this weight and a line feed (10), which begin at this place
abbrev pub EndsIn : List ℕ → ℕ → ℤ → Type 0
EndsIn bytes at weight =
    (27 ≤ at) × (at ≤ 48) × (drop at bytes ≡ signed_decimal weight ++ 10 ∷ drop 48 bytes)
