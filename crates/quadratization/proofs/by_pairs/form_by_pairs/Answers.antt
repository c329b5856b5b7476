use Rattle.quadratization.proofs.Common.{◌≡◌, ◌+◌, arith, length, refl, ◌∙◌, short_part}
use Rattle.quadratization.proofs.HeldRuns as runs
use Rattle.quadratization.proofs.by_pairs.form_by_pairs.Goals as goal

pub widened-requires-clause-narrow : goal.widened-requires-clause-narrow
widened-requires-clause-narrow c =
    let room = c.requires.held.1 in
    let held = c.requires.held.2 in
    runs.narrow c.requires.held.0 c.args.terms room held c.in_ok-short.made (c.in_ok-short.ensures.run c.requires.held.0 room held)
    c.width-width.result c.len.result c.width-width.ensures (omega (arith, c.len.ensures))

pub add_moved-requires-clause-room : goal.add_moved-requires-clause-room
add_moved-requires-clause-room c =
    let t = c.requires.held.0 in
    let room = c.requires.held.1 in
    let held = c.requires.held.2 in
    runs.room-moved t c.args.terms room held c.in_ok-short.made (c.in_ok-short.ensures.run t room held)
    c.width-width.result c.len.result c.width-width.ensures (omega (arith, c.len.ensures))
    c.in_ok-terms.terms (c.width-width.result + c.len.result) refl c.in_ok-terms.ensures.width
    (c.in_ok-terms.ensures.held (short_part t) (runs.short-additions t room.additions) (c.in_ok-short.ensures.short t held))

pub add_moved-requires-clause-small : goal.add_moved-requires-clause-small
add_moved-requires-clause-small c =
    let room = c.requires.held.1 in
    let held = c.requires.held.2 in
    runs.small-moved c.requires.held.0 c.args.terms room held c.in_ok-short.made (c.in_ok-short.ensures.run c.requires.held.0 room held)
    c.width-width.result c.len.result c.width-width.ensures (omega (arith, c.len.ensures))

pub into_form-requires : goal.into_form-requires
into_form-requires c =
    let t = c.requires.held.0 in
    let h = c.args.terms in
    let room = c.requires.held.1 in
    let held = c.requires.held.2 in
    let run = c.in_ok-short.ensures.run t room held in
    let number : c.len.result ≡ length c.in_ok-short.made.pairs = omega (arith, c.len.ensures) in
    let short = c.in_ok-terms.ensures.held (short_part t) (runs.short-additions t room.additions) (c.in_ok-short.ensures.short t held) in
    record {
      held = (
        runs.all t h room held c.in_ok-short.made run c.width-width.result c.len.result c.width-width.ensures number,
        runs.within t h room held c.in_ok-short.made run c.width-width.result c.len.result c.width-width.ensures number,
        c.in_ok-add_moved.ensures.held _ short,
      );
    }

pub returns-clause-quad : goal.returns-clause-quad
returns-clause-quad c t room held =
    let h = c.args.terms in
    let made = c.in_ok-short.made in
    let run = c.in_ok-short.ensures.run t room held in
    let number : c.len.result ≡ length c.in_ok-short.made.pairs = omega (arith, c.len.ensures) in
    let short = c.in_ok-terms.ensures.held (short_part t) (runs.short-additions t room.additions) (c.in_ok-short.ensures.short t held) in
    runs.form t h room held made run c.width-width.result c.len.result c.width-width.ensures number
    c.into_quad-quad.result
    (c.into_quad-quad.ensures ∙ c.in_ok-into_form.ensures.quad (runs.all t h room held made run c.width-width.result c.len.result c.width-width.ensures number)
    (runs.within t h room held made run c.width-width.result c.len.result c.width-width.ensures number)
    (c.in_ok-add_moved.ensures.held _ short))
