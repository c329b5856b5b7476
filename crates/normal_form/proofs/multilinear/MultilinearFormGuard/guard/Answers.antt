use Rattle.normal_form.proofs.Common.{◌≡◌, ap, ◌∙◌, KeptTable, kept_at_once, expanded, image}
use Rattle.normal_form.proofs.Limits.{penalty_admits}
use Rattle.normal_form.proofs.Admitted.{few-image, total-expanded, relaxes-made, stays-made, size-made}
use Rattle.normal_form.proofs.multilinear.MultilinearFormGuard.guard.Goals as goal

pub guard-requires : goal.guard-requires
guard-requires c = penalty_admits c.args.source.now c.requires

pub expand-requires-clause-few : goal.expand-requires-clause-few
expand-requires-clause-few c =
    few-image c.args.source.now c.in_ok-target.field-0.target c.requires c.in_ok-target.ensures.image

pub returns-clause-relaxes : goal.returns-clause-relaxes
returns-clause-relaxes c =
    let made : c.in_ok-expand.field-0 ≡ kept_at_once (image c.args.source.now) =
    c.in_ok-expand.ensures.image ∙ ap (λ (t : KeptTable). kept_at_once (expanded t.content)) c.in_ok-target.ensures.image in
    relaxes-made c.in_ok-target.field-0.link c.args.source.now c.in_ok-expand.field-0
    c.in_ok-target.field-0.figures c.in_ok-target.ensures.fits made c.in_ok-target.ensures.figures

pub returns-clause-stays : goal.returns-clause-stays
returns-clause-stays c =
    let made : c.in_ok-expand.field-0 ≡ kept_at_once (image c.args.source.now) =
    c.in_ok-expand.ensures.image ∙ ap (λ (t : KeptTable). kept_at_once (expanded t.content)) c.in_ok-target.ensures.image in
    stays-made c.in_ok-target.field-0.link c.args.source.now c.in_ok-expand.field-0
    c.in_ok-target.field-0.figures c.in_ok-target.ensures.fits made c.in_ok-target.ensures.figures

pub returns-clause-total : goal.returns-clause-total
returns-clause-total c =
    total-expanded c.in_ok-target.field-0.target c.in_ok-expand.field-0
    (few-image c.args.source.now c.in_ok-target.field-0.target c.requires c.in_ok-target.ensures.image)
    c.in_ok-target.ensures.total c.in_ok-expand.ensures.image

pub returns-clause-size : goal.returns-clause-size
returns-clause-size c =
    let made : c.in_ok-expand.field-0 ≡ kept_at_once (image c.args.source.now) =
    c.in_ok-expand.ensures.image ∙ ap (λ (t : KeptTable). kept_at_once (expanded t.content)) c.in_ok-target.ensures.image in
    size-made c.args.source.now c.in_ok-expand.field-0 c.requires made
