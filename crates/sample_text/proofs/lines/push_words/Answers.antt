use Rattle.sample_text.proofs.Common.{rules, ◌≡◌, ◌++◌, ◌∷◌, decimal, signed_decimal}
use Rattle.sample_text.proofs.Clauses.{words_added}
use Rattle.sample_text.proofs.lines.push_words.Goals as goal

pub returns : goal.returns
returns c =
    let before = c.push_number.new.text.items in
    let one = c.push_literal.new.text.items in
    let two = c.push_literal-2.new.text.items in
    let three = c.push_literal-3.new.text.items in
    let weight : before ≡ c.args.text.now.items ++ decimal c.args.weight = search rules in
    let first : one ≡ before ++ 32 ∷ signed_decimal c.args.first = search rules in
    let second : two ≡ one ++ 32 ∷ signed_decimal c.args.second = search rules in
    let third : three ≡ two ++ 32 ∷ signed_decimal c.args.third = search rules in
    words_added c.args.text.now.items before one two three c.extend_from_slice.new.self.items _ _ _ _
    weight first second third c.in_ok-extend_from_slice.ensures.items
