use Rattle.posiform_check.proofs.Common.{rules, ◌≡◌, to_z, of_z, refl, w128, additions_second, arith, nat_tests, behind-nothing}
use Rattle.posiform_check.proofs.Sums.{coefficients-append}
use Rattle.posiform_check.proofs.Gathering.{additions_without}
use Rattle.posiform_check.proofs.quick.add_line.Goals as goal

pub add_plain_terms-requires : goal.add_plain_terms-requires
add_plain_terms-requires c =
    let own : to_z w128 (of_z w128 c.args.coefficient) ≡ c.args.coefficient = search rules in
    rw (own, c.requires.list, behind-nothing) c.requires.fits

pub returns-in_ok-add_short-clause-added : goal.returns-in_ok-add_short-clause-added
returns-in_ok-add_short-clause-added c =
    let own : to_z w128 (of_z w128 c.args.coefficient) ≡ c.args.coefficient = search rules in
    let more = rw own at c.in_ok-add_short.ensures in
    λ set. grind (arith, nat_tests, coefficients-append, more set)

pub returns-in_ok-add_short-clause-left : goal.returns-in_ok-add_short-clause-left
returns-in_ok-add_short-clause-left c = λ rest fits. additions_without c.args.long.now _ rest fits

pub returns-in_ok-add_plain_terms-clause-added : goal.returns-in_ok-add_plain_terms-clause-added
returns-in_ok-add_plain_terms-clause-added c =
    let own : to_z w128 (of_z w128 c.args.coefficient) ≡ c.args.coefficient = search rules in
    let made = rw (own, c.requires.list, behind-nothing) at c.in_ok-add_plain_terms.ensures.added in
    λ set. rw made (grind (arith, nat_tests, coefficients-append))

pub returns-in_ok-add_plain_terms-clause-left : goal.returns-in_ok-add_plain_terms-clause-left
returns-in_ok-add_plain_terms-clause-left c =
    let own : to_z w128 (of_z w128 c.args.coefficient) ≡ c.args.coefficient = search rules in
    let made = rw (own, c.requires.list, behind-nothing) at c.in_ok-add_plain_terms.ensures.added in
    λ rest fits. additions_second c.args.long.now _ _ rest _ refl made fits
