use Rattle.model_text.proofs.Common.{◌≡◌, ◌+◌, ◌-◌, ◌≤◌, [], ◌∷◌, ◌++◌, length, ap, ◌∙◌, arith, to_z, of_z, w64, rules, append_assoc, decimal, signed_decimal, row_text}
use Rattle.model_text.proofs.Puts.{put_same}
use Rattle.model_text.proofs.LineEnds.{later_same, ends_still, row_front}
use Rattle.model_text.proofs.lines.put_entry.Goals as goal

pub invariant_of-line : goal.invariant_of-line
invariant_of-line g c =
    let at = c.line.inside.at in
    let start = c.write_node-at.result in
    let moved = c.write_node-at.new.line in
    let line = c.copy_front-at.new.line in
    let same = later_same start at line moved (omega (arith, c.write_node-at.ensures.start)) c.copy_front-at.ensures.after ∙ c.write_node-at.ensures.after in
    ends_still at at line c.line.inside.bytes c.line.inside.weight (omega arith) c.line.invariant same

pub returns-in-Ok : goal.returns-in-Ok
returns-in-Ok g c =
    let entry = c.args.entry.now in
    let line = c.copy_front-at.new.line in
    let long : length line ≡ 96 = search rules in
    let wide : length c.line.inside.bytes ≡ 96 = search rules in
    let within : c.copy_front-at.result ≤ 48 =
    omega (arith, c.copy_front-at.ensures.start, c.requires.within, c.write_node-at.ensures.start, c.line.invariant.1) in
    let put = row_front _ _ c.line.inside.at line c.write_node-at.new.line c.line.inside.bytes _ (decimal entry.second) (signed_decimal c.line.inside.weight)
    long wide within c.copy_front-at.ensures.written c.write_node-at.ensures.written c.line.invariant.2 in
    let narrow : to_z w64 (of_z w64 c.in-Ok.weight) ≡ entry.weight = search rules in
    let weight = c.line.view_is ∙ c.weigh.ensures ∙ narrow in
    let row : decimal entry.first ++ 32 ∷ (decimal entry.second ++ 32 ∷ (signed_decimal entry.weight ++ 10 ∷ []))
    ≡ row_text (decimal entry.first ∷ decimal entry.second ∷ signed_decimal entry.weight ∷ []) = grind (arith, append_assoc) in
    let later = decimal entry.second ++ 32 ∷ (signed_decimal c.line.inside.weight ++ 10 ∷ []) in
    let text = put ∙ ap (λ l. l ++ later) c.requires.front ∙ append_assoc (decimal entry.first) (32 ∷ []) later
    ∙ ap (λ w. decimal entry.first ++ 32 ∷ (decimal entry.second ++ 32 ∷ (signed_decimal w ++ 10 ∷ []))) weight ∙ row in
    put_same text (record { passed = c.put_front.ensures.passed; front = c.put_front.ensures.front; lost = c.put_front.ensures.lost; cause = c.put_front.ensures.cause })
