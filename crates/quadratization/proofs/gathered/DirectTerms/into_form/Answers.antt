use Rattle.quadratization.proofs.Common.{arith, node_count, subst, sym, IsQuad, to_z, of_z, rules, ap, ◌∙◌, ◌++◌, w128, to_z-of_z, extension, IsSumOf, AreHeld, IsWithin, TableContent}
use Rattle.quadratization.proofs.Apart.{bits-long}
use Rattle.quadratization.proofs.HeldSums.{made_sums, same_table}
use Rattle.quadratization.proofs.AtOnce.{sum_is_image, image-quad}
use Rattle.quadratization.proofs.gathered.DirectTerms.into_form.Goals as goal

pub into_sums-requires : goal.into_sums-requires
into_sums-requires c =
    let held = c.requires.held in
    record { narrow = omega (arith, ap node_count (same_table held.0 c.args.self held.2), held.1.narrow) }

-- the form has the sums of all parts
sums : (c : goal.After-new) (t : TableContent) → IsWithin t → AreHeld t c.args.self
    → IsSumOf t (record { constant = to_z w128 (of_z w128 c.in_ok-sums.sums.constant); diagonal = c.new.result; couplers = c.in_ok-sums.sums.couplers })
sums c t within held =
    made_sums t _ _ _ _ _ (to_z-of_z w128 c.in_ok-sums.sums.constant (search rules)) c.new.ensures
    (c.in_ok-sums.ensures.sums t within.additions held)

pub invariant_of-result : goal.invariant_of-result
invariant_of-result c =
    let within = c.requires.held.1 in
    subst IsQuad (sym (sum_is_image _ _ within (sums c _ within c.requires.held.2))) (image-quad _ within)

pub returns-clause-quad : goal.returns-clause-quad
returns-clause-quad c t within held = sum_is_image t _ within (sums c t within held)

pub returns-clause-new_nodes : goal.returns-clause-new_nodes
returns-clause-new_nodes c t held x =
    ap (λ us. extension x us) (c.in_ok-sums.ensures.long t held) ∙ ap (λ bs. x ++ bs) (bits-long x t.terms)
