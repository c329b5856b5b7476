-- New numbers for the nodes of a model: elimination from the last of them to 0 follows an order.
use Rattle.std.specs.Prelude.{◌≡◌, ◌≢◌, ℕ, ◌<◌, min, max, Bool, List, map, length}
use Rattle.std.specs.List.{slice_index_or}
use Rattle.std.specs.List.Sorted.{IsPermutation}
use Rattle.std.specs.Ordering.{bool_cmp}
use Rattle.std.specs.Cmp.Lexicographic.{slice_cmp}
use Rattle.std.specs.declared.cmp.Ordering.TheVariants.{Greater}
use Rattle.base.specs.Costs.{Form}
use Rattle.form_steps.specs.Least.{IsLeastState}
use Rattle.bits_model.specs.declared.output.Entry.{Entry}
use Rattle.bits_model.specs.Output.{Written, bit_at}

-- the number at a place of a list
abbrev pub at_place : List ℕ → ℕ → ℕ
at_place numbers k = slice_index_or numbers k 0

-- each of n nodes has a number below n, and `names` has the node of each number
pub record AreNumbers (n : ℕ) (names numbers : List ℕ) : Type 0 where
  pub count : length names ≡ n
  pub counted : length numbers ≡ n
  pub below : (v : ℕ) → v < n → at_place numbers v < n
  pub named : (v : ℕ) → v < n → at_place names (at_place numbers v) ≡ v
  pub within : (k : ℕ) → k < n → at_place names k < n
  pub numbered : (k : ℕ) → k < n → at_place numbers (at_place names k) ≡ k

-- the entry of the same nodes by their new numbers, the lesser of these first
abbrev pub renumbered : List ℕ → Entry → Entry
renumbered numbers e = record {
  first = min (at_place numbers e.first) (at_place numbers e.second);
  second = max (at_place numbers e.first) (at_place numbers e.second);
  weight = e.weight;
}

-- the same model by new numbers of its nodes
pub record IsRenumbered (numbers : List ℕ) (m r : Written) : Type 0 where
  pub kind : r.kind ≡ m.kind
  pub nodes : r.nodes ≡ m.nodes
  pub entries : IsPermutation (map (renumbered numbers) m.entries) r.entries

-- the bits that a state has at these nodes, one after another
abbrev pub bits_by : List ℕ → List Bool → List Bool
bits_by nodes y = map (bit_at y) nodes

-- no state has a lesser energy, and no other that has none comes before it, where states are
-- compared by the bits of these nodes in turn, and 0 comes before 1
pub record IsFirstLeastBy (names : List ℕ) (g : Form) (y : List Bool) : Type 0 where
  pub least : IsLeastState g y
  pub first : (y' : List Bool) → IsLeastState g y'
      → slice_cmp bool_cmp (bits_by names y) (bits_by names y') ≢ Greater
