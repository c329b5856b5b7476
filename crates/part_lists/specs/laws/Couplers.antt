-- A coupler is one of its qubits in either order. Nothing here has to be believed.
use Rattle.std.specs.Prelude.{◌≡◌, ℕ, ◌==◌, ◌&&◌}
use Rattle.std.proofs.Common.{refl}
use Rattle.std.proofs.Math.Bool.{or_comm}
use Rattle.part_lists.specs.declared.parts.Part.{Part}
use Rattle.part_lists.specs.declared.parts.Part.TheVariants.{Qubit, Coupler}
use Rattle.part_lists.specs.Pairs.{is_coupler}

pub is_coupler-comm : (a b : ℕ) (part : Part) → is_coupler a b part ≡ is_coupler b a part
is_coupler-comm a b (Qubit c) = refl
is_coupler-comm a b (Coupler c d) = or_comm ((c == a) && (d == b)) ((c == b) && (d == a))
