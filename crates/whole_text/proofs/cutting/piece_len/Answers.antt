use Rattle.whole_text.proofs.Common.{◌≡◌, ◌-◌, false, true, get_or, sym, ◌∙◌, arith, is_blank, joins}
use Rattle.whole_text.proofs.Pieces.{piece_begins, piece_more, piece_ends, piece_whole}
use Rattle.whole_text.proofs.cutting.piece_len.Goals.{then-is_blank-via-then-is_blank, then-is_blank-via-else-is_blank+then-not-joins}
use Rattle.whole_text.proofs.cutting.piece_len.Goals as goal

pub loop-i-init : goal.loop-i-init
loop-i-init c = piece_begins c.args.style c.args.bytes.now c.requires.some c.requires.ink

pub loop-i-preserved : goal.loop-i-preserved
loop-i-preserved c =
    let bs = c.args.bytes.now in
    let i = c.loop-i.i in
    let ink : is_blank (get_or bs i 0) ≡ false = sym c.is_blank.ensures ∙ c.if-is_blank.false in
    let together : joins c.args.style (get_or bs (i - 1) 0) (get_or bs i 0) ≡ true =
    sym c.joins.ensures ∙ c.if-not-joins.false in
    piece_more c.args.style bs i (omega arith) (omega arith) c.loop-i.invariant ink together

pub returns-then-is_blank-clause-cut : goal.returns-then-is_blank-clause-cut
returns-then-is_blank-clause-cut c =
    let bs = c.args.bytes.now in
    let i = c.loop-i.i in
    piece_ends c.args.style bs i (omega arith) (omega arith) c.loop-i.invariant
    (λ ink. elim c.then-is_blank.branch as (λ _. joins c.args.style (get_or bs (i - 1) 0) (get_or bs i 0) ≡ false) [
      | then-is_blank-via-then-is_blank w ↦
          let blank : is_blank (get_or bs i 0) ≡ true = sym c.is_blank.ensures ∙ w.if-is_blank.true in
          let none : false ≡ true = sym ink ∙ blank in
          absurd (cc none)
      | then-is_blank-via-else-is_blank+then-not-joins w ↦ sym w.joins.ensures ∙ w.if-not-joins.true
    ])

pub returns-clause-cut : goal.returns-clause-cut
returns-clause-cut c =
    piece_whole c.args.style c.args.bytes.now c.loop-i.i (omega arith) c.loop-i.invariant
