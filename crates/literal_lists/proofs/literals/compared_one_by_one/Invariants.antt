use Rattle.literal_lists.proofs.Common.{◌≡◌, slice_cmp, literal_cmp}
use Rattle.literal_lists.proofs.literals.compared_one_by_one.Given as goal

-- the literals that are left decide
abbrev pub invariant-loop-literal : goal.invariant-loop-literal
invariant-loop-literal l =
    slice_cmp literal_cmp l.literal-iterator l.right
    ≡ slice_cmp literal_cmp l.initial.literal-iterator l.initial.right
