use Rattle.posiform_check.proofs.Common.{rules, ◌≡◌, [], ◌+ℤ◌, ap, ◌∙◌, arith, is_eq, to_z, of_z, w128, ints, if_so, set_cmp, coefficient_of, if_so-plus}
use Rattle.posiform_check.proofs.set_sums.SetSums.add_constant.Goals as goal

pub returns : goal.returns
returns c =
    let k = c.self.inside.constant in
    let value : to_z w128 (of_z w128 c.in_ok-self-inside.field-0) ≡ k +ℤ c.args.coefficient =
    search rules in
    λ set.
    let b = is_eq (set_cmp set []) in
    let given = ap (if_so b) value ∙ if_so-plus b k c.args.coefficient in
    omega (arith, ints, given, ap (coefficient_of set) c.self.view_is)
