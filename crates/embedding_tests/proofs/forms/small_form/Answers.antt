use Rattle.std.proofs.Common.{◌≡◌, length, unsigned_abs, to_z, of_z, ap, subst, ◌∙◌, arith, rules}
use Rattle.std.proofs.lemmas.Int.{to_z-of_z}
use Rattle.std.specs.Int.{w128}
use Rattle.std.specs.Prelude.{IfSome}
use Rattle.embedding_tests.specs.SmallForms.{AreSmallCouplings}
use Rattle.embedding_tests.proofs.SmallForms.{small_parts, is_small, small_form}
use Rattle.embedding_tests.proofs.forms.small_form.Goals as goal

pub invariant_of-result : goal.invariant_of-result
invariant_of-result c =
    let fields = c.args.fields.now in
    let back : to_z w128 (of_z w128 c.args.constant) ≡ c.args.constant = to_z-of_z w128 c.args.constant (search rules) in
    let made : AreSmallCouplings (length c.args.fields.now) c.in-Some.couplings.items =
    subst (λ r. IfSome r (λ entries. AreSmallCouplings (length c.args.fields.now) entries.items)) c.in-Some.is
    c.in_ok-couplings.ensures in
    small_form (to_z w128 (of_z w128 c.args.constant)) c.new.result c.in_ok-of-in-Some.field-0
    (small_parts _ fields c.new.result c.in-Some.couplings.items c.in_ok-of-in-Some.field-0
    (omega (arith, ap unsigned_abs back, c.unsigned_abs.ensures.value, c.if-unsigned_abs-gt-GREATEST.false))
    (c.are_small.ensures c.if-not-are_small.false) (omega (arith, c.if-fields-gt100.false)) made
    (c.new.ensures ∙ c.in_ok-to_vec-in-Some.ensures.items_if_clones_equal (λ x e h. h))
    (c.in_ok-of-in-Some.ensures ∙ c.deref.ensures.value))

pub returns-in_ok-of-in-Some : goal.returns-in_ok-of-in-Some
returns-in_ok-of-in-Some c =
    let fields = c.args.fields.now in
    let back : to_z w128 (of_z w128 c.args.constant) ≡ c.args.constant = to_z-of_z w128 c.args.constant (search rules) in
    let made : AreSmallCouplings (length c.args.fields.now) c.in-Some.couplings.items =
    subst (λ r. IfSome r (λ entries. AreSmallCouplings (length c.args.fields.now) entries.items)) c.in-Some.is
    c.in_ok-couplings.ensures in
    is_small (to_z w128 (of_z w128 c.args.constant)) c.new.result c.in_ok-of-in-Some.field-0
    (small_parts _ fields c.new.result c.in-Some.couplings.items c.in_ok-of-in-Some.field-0
    (omega (arith, ap unsigned_abs back, c.unsigned_abs.ensures.value, c.if-unsigned_abs-gt-GREATEST.false))
    (c.are_small.ensures c.if-not-are_small.false) (omega (arith, c.if-fields-gt100.false)) made
    (c.new.ensures ∙ c.in_ok-to_vec-in-Some.ensures.items_if_clones_equal (λ x e h. h))
    (c.in_ok-of-in-Some.ensures ∙ c.deref.ensures.value))
