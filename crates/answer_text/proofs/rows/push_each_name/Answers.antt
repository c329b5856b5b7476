use Rattle.answer_text.proofs.Common.{◌<◌, ◌≤◌, false, length, arith, min}
use Rattle.answer_text.proofs.AnswerRows.{name_added, names_done}
use Rattle.answer_text.proofs.rows.push_each_name.Goals as goal

pub loop-i-preserved : goal.loop-i-preserved
loop-i-preserved c =
    let within : c.loop-i.i < length c.args.bits.now = grind arith in
    name_added c.args.text.now.items c.loop-i.text.items _ c.args.names.now c.args.bits.now
    c.loop-i.i c.name.result.now false c.name.ensures within c.loop-i.invariant
    c.in_ok-push_name.ensures

pub returns : goal.returns
returns c =
    let beyond : min (length c.args.names.now) (length c.args.bits.now) ≤ c.loop-i.i = grind arith in
    names_done c.args.text.now.items c.loop-i.text.items c.args.names.now c.args.bits.now c.loop-i.i
    beyond c.loop-i.invariant
