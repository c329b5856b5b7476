-- The laws of models by new numbers, as statements.
use Rattle.std.specs.Prelude.{◌≡◌, ◌↔◌, ℕ, Bool, List, [], length, reverse, Ok, Some, None}
use Rattle.std.specs.List.{range_with_len}
use Rattle.base.specs.Costs.{Form, energy}
use Rattle.bits_model.specs.Output.{Written, IsWellFormed, form_of}
use Rattle.basic_solve.specs.FirstLeast.{IsFirstLeast}
use Rattle.whole_text.specs.Tokens.{Word}
use Rattle.elimination_order.specs.Orders.{AreNodes, order_of}
use Rattle.elimination_order.specs.Renumbered.{AreNumbers, IsRenumbered, IsFirstLeastBy, at_place, bits_by}
use Rattle.elimination_order.specs.Widths.{first_wide, from_last}
use Rattle.basic_solve.specs.Widths.{IsFirstWider, IsWithinWidth}

-- a state by new numbers has the energy that the state has
abbrev pub NumbersKeepEnergies : Type 0
NumbersKeepEnergies =
    (names numbers : List ℕ) (m r : Written) (y : List Bool) → IsWellFormed m
    → AreNumbers m.nodes names numbers → IsRenumbered numbers m r → length y ≡ m.nodes
    → energy (form_of r) (bits_by names y) ≡ energy (form_of m) y

-- a state is taken back from new numbers
abbrev pub NumbersTakeBack : Type 0
NumbersTakeBack =
    (n : ℕ) (names numbers : List ℕ) (y : List Bool) → AreNumbers n names numbers → length y ≡ n
    → bits_by numbers (bits_by names y) ≡ y

-- the first least state by new numbers is, taken back, the first least one by the nodes in the
-- order of their numbers
abbrev pub NumbersKeepFirst : Type 0
NumbersKeepFirst =
    (names numbers : List ℕ) (m r : Written) (x : List Bool) → IsWellFormed m
    → AreNumbers m.nodes names numbers → IsRenumbered numbers m r → IsFirstLeast (form_of r) x
    → IsFirstLeastBy names (form_of m) (bits_by numbers x)

-- the first node that is too wide by new numbers is the first one in the order
abbrev pub NumbersKeepWidths : Type 0
NumbersKeepWidths =
    (most : ℕ) (names numbers : List ℕ) (m r : Written) (v w : ℕ) → IsWellFormed m
    → AreNumbers m.nodes names numbers → IsRenumbered numbers m r → IsFirstWider most r v w
    → first_wide most m [] (reverse names) ≡ Some (at_place names v, w)

-- where no node is too wide by new numbers, none is in the order
abbrev pub NumbersKeepNarrow : Type 0
NumbersKeepNarrow =
    (most : ℕ) (names numbers : List ℕ) (m r : Written) → IsWellFormed m
    → AreNumbers m.nodes names numbers → IsRenumbered numbers m r → IsWithinWidth most r
    → first_wide most m [] (reverse names) ≡ None

-- in the usual order, from the last node to node 0, the first least state is the usual one
abbrev pub OrderFromLastIsUsual : Type 0
OrderFromLastIsUsual =
    (g : Form) (order : List ℕ) (y : List Bool) → reverse order ≡ range_with_len 0 g.bits
    → IsFirstLeastBy (reverse order) g y ↔ IsFirstLeast g y

-- in the usual order the first node that is too wide is the usual one
pub record WidthsFromLastAreUsual : Type 0 where
  pub none : (most : ℕ) (m : Written) → IsWithinWidth most m
      → first_wide most m [] (from_last m.nodes) ≡ None
  pub some : (most : ℕ) (m : Written) (v w : ℕ) → IsFirstWider most m v w
      → first_wide most m [] (from_last m.nodes) ≡ Some (v, w)

-- an order that was read names each node once
abbrev pub OrdersNameAll : Type 0
OrdersNameAll = (n : ℕ) (ws : List Word) (order : List ℕ) → order_of n ws ≡ Ok order → AreNodes n order
