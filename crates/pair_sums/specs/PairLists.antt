-- Couplers that are held in as few bytes as their weights need, and their order.
use Rattle.std.specs.Prelude.{ℕ, ◌≤◌, ◌<◌, List, [], ◌∷◌, map, All, ⊤}
use Rattle.bits_model.specs.declared.output.Entry.{Entry}
use Rattle.bits_model.specs.PairNumbers.{pair_number}
use Rattle.pair_sums.specs.Pairs.{IsNonzero}
use Rattle.pair_sums.specs.Codes.{unpacked}
use Rattle.pair_sums.specs.declared.pairs.HeldPairs.{HeldPairs}
use Rattle.pair_sums.specs.declared.pairs.HeldPairs.TheVariants.{Packed, Listed, Wide}

-- the entries of couplers, in however many bits they are held
abbrev pub held_pairs : HeldPairs → List Entry
held_pairs (Packed shape codes) = map (unpacked shape) codes.items
held_pairs (Listed pairs) = pairs
held_pairs (Wide pairs) = pairs.items

-- the pairs ascend, and none comes twice
abbrev pub AreAscending : List Entry → Type 0
AreAscending [] = ⊤
AreAscending (e ∷ es) = All (λ f. pair_number e < pair_number f) es × AreAscending es

-- couplers that came in order: none of them is 0, and no pair lies above the last number
pub record AreGathered (ordered : List Entry) (last : ℕ) : Type 0 where
  pub ascending : AreAscending ordered
  pub upto : All (λ e. pair_number e ≤ last) ordered
  pub nonzero : All IsNonzero ordered
