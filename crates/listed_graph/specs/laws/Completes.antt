-- The complete graph is hardware. Nothing here has to be believed.
use Rattle.std.specs.Prelude.{◌≡◌, ℕ, ◌^◌, ◌==◌, ◌<◌, ◌≤◌, true, false, not}
use Rattle.std.proofs.Common.{arith, inr, refl}
use Rattle.std.proofs.lemmas.Bool.Decides.{nat_tests}
use Rattle.hardware.specs.Others.{CanBeJoined}
use Rattle.listed_graph.specs.Complete.{most, is_below, are_apart, no_span, all_others}

pub complete-few : most ≤ 2 ^ 20
complete-few = omega arith

pub complete-comm : (a b : ℕ) → are_apart a b ≡ are_apart b a
complete-comm a b = grind (arith, nat_tests)

pub complete-self : (a : ℕ) → are_apart a a ≡ false
complete-self a = grind (arith, nat_tests)

pub complete-below : (q : ℕ) → is_below q ≡ true → q < most
complete-below q h = grind (arith, nat_tests)

pub complete-exists : (q : ℕ) → q < most → is_below q ≡ true
complete-exists q h = grind (arith, nat_tests)

pub complete-ordered : all_others.start ≤ all_others.end
complete-ordered = omega arith

pub complete-findable : (b : ℕ) → b < most → CanBeJoined no_span all_others (λ (k : ℕ). k) b
complete-findable b below = inr (b, record { from = omega arith; below = below }, refl)
