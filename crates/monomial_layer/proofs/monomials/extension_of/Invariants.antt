use Rattle.monomial_layer.proofs.Common.{◌≡◌, ◌++◌, All, flat_map, Term, IsTermSet, extension, new_bits}
use Rattle.monomial_layer.proofs.monomials.extension_of.Given as goal

-- the bits so far, and those of the terms that are left, are the extension
abbrev pub invariant-loop-literals : goal.invariant-loop-literals
invariant-loop-literals l = record {
  whole : l.bits.items ++ flat_map (new_bits l.x) l.literals-iterator ≡ extension l.x l.table.content.terms;
  sets : All (λ (t : Term). IsTermSet l.table.content.width t.0) l.literals-iterator;
}
