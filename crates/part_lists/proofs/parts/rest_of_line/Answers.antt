use Rattle.part_lists.proofs.Common.{Err, refl, sym, ap, ◌∙◌, arith, err_from_is_err_and, rest_at}
use Rattle.part_lists.proofs.PartRows.{none_left, some_left, rest_none, rest_bad, rest_one, rest_more}
use Rattle.part_lists.proofs.parts.rest_of_line.Goals as goal

pub returns-then-at-end : goal.returns-then-at-end
returns-then-at-end g c =
    let none = none_left c.args.text.now c.args.start c.args.end c.blank_len.result c.args.line
    c.requires.ordered c.requires.within c.blank_len.ensures.first c.if-at-end.true in
    record { read = sym (rest_none (g.H.Hardware.exists c.args.host.now) (g.H.Hardware.joined c.args.host.now) c.args.from _ none); kept = c.requires.qubit }

pub returns-in_err-to : goal.returns-in_err-to
returns-in_err-to g c =
    let w = some_left _ _ _ _ _ c.args.line c.requires.ordered c.requires.within
    c.blank_len.ensures.first (omega (arith, c.blank_len.ensures.within, c.if-at-end.false)) refl in
    let p = err_from_is_err_and c.from_residual.result c.from_residual.ensures.1 in
    rw (p.1, p.2) (record {
      read = sym (ap (rest_at (g.H.Hardware.exists c.args.host.now) (g.H.Hardware.joined c.args.host.now) c.args.from) w.1 ∙ rest_bad _ _ _ _ _ _ c.in_err-to.ensures.value);
      kept = tt;
    })

pub returns-then-last-end : goal.returns-then-last-end
returns-then-last-end g c =
    let w = some_left _ _ _ _ _ c.args.line c.requires.ordered c.requires.within
    c.blank_len.ensures.first (omega (arith, c.blank_len.ensures.within, c.if-at-end.false))
    c.in_ok-to.ensures.len in
    let none = none_left _ _ _ _ c.args.line w.0 c.requires.within c.blank_len-2.ensures.first
    c.if-last-end.true in
    record {
      read = sym (ap (rest_at (g.H.Hardware.exists c.args.host.now) (g.H.Hardware.joined c.args.host.now) c.args.from) w.1 ∙ rest_one _ _ _ _ _ _ c.in_ok-to.ensures.value none);
      kept = (c.requires.qubit, c.in_ok-to.ensures.exists, c.in_ok-to.ensures.joined);
    }

pub returns-else-last-end : goal.returns-else-last-end
returns-else-last-end g c =
    let w = some_left _ _ _ _ _ c.args.line c.requires.ordered c.requires.within
    c.blank_len.ensures.first (omega (arith, c.blank_len.ensures.within, c.if-at-end.false))
    c.in_ok-to.ensures.len in
    let v = some_left _ _ _ _ _ c.args.line w.0 c.requires.within c.blank_len-2.ensures.first
    (omega (arith, c.blank_len-2.ensures.within, c.if-last-end.false)) refl in
    record {
      read = ap Err c.fault.ensures ∙ sym (ap (rest_at (g.H.Hardware.exists c.args.host.now) (g.H.Hardware.joined c.args.host.now) c.args.from) w.1
          ∙ rest_more _ _ _ _ _ _ _ _ c.in_ok-to.ensures.value v.1);
      kept = tt;
    }
