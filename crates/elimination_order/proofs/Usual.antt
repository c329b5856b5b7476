-- The usual order, from the last node to node 0.
use Rattle.elimination_order.proofs.Common.{nat_tests, ◌≡◌, ℕ, Bool, false, sym, arith, List, length, reverse, ◌↔◌, range_with_len, Form, bit_at, IsFirstLeast, IsFirstLeastBy, bits_by, fill_by_all, refl, from_last, reverse-reverse}

-- the bits of all nodes in turn are the state
all_bits : (n : ℕ) (y : List Bool) → length y ≡ n → bits_by (range_with_len 0 n) y ≡ y
all_bits n y wide = sym (fill_by_all (bit_at y) y n false wide (λ i below. refl))

pub usual_order : (g : Form) (order : List ℕ) (y : List Bool)
    → reverse order ≡ range_with_len 0 g.bits → IsFirstLeastBy (reverse order) g y ↔ IsFirstLeast g y
usual_order g order y usual = grind (arith, nat_tests, all_bits)

-- the first least state is the first one in the usual order
pub first_from_last : (g : Form) (y : List Bool) → IsFirstLeast g y
    → IsFirstLeastBy (reverse (from_last g.bits)) g y
first_from_last g y first =
    (usual_order g (from_last g.bits) y (reverse-reverse (range_with_len 0 g.bits))).1 first
