-- What the proofs of this crate stand on, of std and of the crates below.
pub use Rattle.std.proofs.Common.{set, ℤ, pos, ◌+ℤ◌, unsigned_abs, zero, suc, ◌≤◌, ◌≡◌, ℕ, ◌+◌, ◌-◌, ◌*◌, ◌%◌, ◌/◌, ◌<◌, ◌^◌, ◌==◌, Bool, true, false, not, ◌&&◌, if◌then◌else◌, List, [], ◌∷◌, length, get_or, arith, refl, ap, sym, ◌∙◌, bit_and, bit_or, w64, subst, to_z, of_z, rules}
pub use Rattle.problem_form.proofs.Common.{ints, to_z-of_z, sum_by, list_any, if_so, total_by, size-plus, sum_by-cons, nat_tests, Literal, all_hold, holds, ProblemContent, fails, fails_hard, own_cost, soft_cost, sum_of, product_value, products_total, content_within}
pub use Rattle.std.specs.Int.{bit_at, w128, trailing_zeros}
pub use Rattle.std.proofs.lemmas.List.{length-map, get_or-set_other, get_or-replicate}
pub use Rattle.std.proofs.lemmas.Grind.{get_or-set_at}
pub use Rattle.problem_form.proofs.LeftSums.{Sums}
pub use Rattle.std.proofs.lemmas.Nat.{and_le_r}
pub use Rattle.std.proofs.lemmas.Nat.Bits.{bit_at-lt, bit_at-zero, bit_at_and, bit_at_not, bit_at_ones, bit_at_set_same, bit_at_set_other, bit_at_clear_same, bit_at_clear_other, bit_at_lowest, bit_at-suc, bit_at-trailing_zeros}
pub use Rattle.batch_costs.specs.Assigned.{assignment, is_marked, IsPlain}
pub use Rattle.problem_form.proofs.CostSizes.{own_cost-whole, product-size, cost_parts}
pub use Rattle.problem_form.specs.declared.terms.Product.{Product}
