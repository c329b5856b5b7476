-- Codes of couplers, which have bits for the first node, for the second, and for a number.
use Rattle.std.specs.Prelude.{◌≡◌, ℕ, ◌/◌, ◌%◌, ◌≤◌, ◌<◌, ◌^◌, ℤ, pos, ◌-ℤ◌, ◌+ℤ◌, List, length, All, nat_le, if◌then◌else◌}
use Rattle.std.specs.List.{slice_index_or}
use Rattle.bits_model.specs.declared.output.Entry.{Entry}
use Rattle.pair_sums.specs.declared.shape.Shape.{Shape}
use Rattle.pair_sums.specs.declared.shape.Shape.TheVariants.{Few, Many, Most}

-- so many numbers fit
abbrev pub numbers_of : Shape → ℕ
numbers_of Few = 2 ^ 28
numbers_of Many = 2 ^ 24
numbers_of Most = 2 ^ 22

-- so many nodes fit
abbrev pub nodes_of : Shape → ℕ
nodes_of Few = 2 ^ 18
nodes_of Many = 2 ^ 20
nodes_of Most = 2 ^ 21

-- the packing for so many nodes: the one with most numbers into which they fit, and else the widest
abbrev pub shape_for : ℕ → Shape
shape_for nodes =
    if nat_le nodes (2 ^ 18) then Few else (if nat_le nodes (2 ^ 20) then Many else Most)

-- two nodes and a number that fit the bits of a code
pub record Fits (shape : Shape) (first second number : ℕ) : Type 0 where
  pub first_node : first < nodes_of shape
  pub second_node : second < nodes_of shape
  pub low : number < numbers_of shape

-- two nodes that fit, and a weight that does, counted from the least one on
abbrev pub FitsPacked : Shape → ℕ → ℕ → ℤ → Type 0
FitsPacked shape first second weight =
    (number : ℕ) × (pos number ≡ weight +ℤ pos (numbers_of shape / 2)) × Fits shape first second number

-- the number of a code
abbrev pub low_of : Shape → ℕ → ℕ
low_of Few c = c % 2 ^ 28
low_of Many c = c % 2 ^ 24
low_of Most c = c % 2 ^ 22

-- the nodes of a code, with a weight
abbrev pub coupler_of : Shape → ℕ → ℤ → Entry
coupler_of Few c w = record { first = c / 2 ^ 28 / 2 ^ 18; second = c / 2 ^ 28 % 2 ^ 18; weight = w }
coupler_of Many c w = record { first = c / 2 ^ 24 / 2 ^ 20; second = c / 2 ^ 24 % 2 ^ 20; weight = w }
coupler_of Most c w = record { first = c / 2 ^ 22 / 2 ^ 21; second = c / 2 ^ 22 % 2 ^ 21; weight = w }

-- the entry of a code whose number is its weight, counted from the least one on
abbrev pub unpacked : Shape → ℕ → Entry
unpacked shape c = coupler_of shape c (pos (low_of shape c) -ℤ pos (numbers_of shape / 2))

-- ---- codes whose numbers are indices of weights

-- the entry of a code
abbrev pub listed : Shape → List ℤ → ℕ → Entry
listed shape ws c = coupler_of shape c (slice_index_or ws (low_of shape c) (pos 0))

-- each code has a weight
abbrev pub AreListed : Shape → List ℤ → List ℕ → Type 0
AreListed shape ws codes = All (λ c. low_of shape c < length ws) codes

-- an index has this weight
pub record IsFound (ws : List ℤ) (w : ℤ) (i : ℕ) : Type 0 where
  pub within : i < length ws
  pub is : slice_index_or ws i (pos 0) ≡ w

-- a list begins with weights
pub record KeepsWeights (ws longer : List ℤ) : Type 0 where
  pub within : length ws ≤ length longer
  pub same : (i : ℕ) → i < length ws
      → slice_index_or longer i (pos 0) ≡ slice_index_or ws i (pos 0)
