use Rattle.posiform_check.proofs.Common.{◌≡◌, ◌+◌, ◌≤◌, ◌^◌, ◌+ℤ◌, unsigned_abs, total_by, weight_total, entry_constant}
use Rattle.posiform_check.proofs.forms.model_constant.Given as goal

-- the sum, and the constants of the entries that are left, are the constant
abbrev pub invariant-loop-entry : goal.invariant-loop-entry
invariant-loop-entry l = record {
  so_far : l.sum +ℤ total_by (entry_constant l.kind) l.entry-iterator
      ≡ total_by (entry_constant l.kind) l.entries;
  small : unsigned_abs l.sum + weight_total l.entry-iterator ≤ 2 ^ 121;
}
