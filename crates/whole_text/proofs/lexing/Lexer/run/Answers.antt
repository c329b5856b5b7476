use Rattle.whole_text.proofs.Common.{◌≡◌, ◌≤◌, drop, sym, ap, ◌∙◌, rules, At, Inside, LexerState, place_at}
use Rattle.whole_text.specs.declared.lexing.At.TheVariants as at
use Rattle.whole_text.specs.declared.token.Style.TheVariants.{Plain}
use Rattle.whole_text.proofs.LexerFields.{run_fed}
use Rattle.whole_text.proofs.lexing.Lexer.run.Goals as goal

pub append-requires-clause-inside : goal.append-requires-clause-inside
append-requires-clause-inside c =
    let held = drop c.self.inside.start c.self.inside.bytes.items in
    let is : c.self.inside.at ≡ at.Inside = search rules in
    (held, sym (ap (λ (s : LexerState). s.place) c.self.view_is) ∙ ap (λ (a : At). place_at a held) is)

pub returns-then-rest-gt32-clause-fed : goal.returns-then-rest-gt32-clause-fed
returns-then-rest-gt32-clause-fed c =
    let held = drop c.self.inside.start c.self.inside.bytes.items in
    let now = c.args.self.now in
    let is : c.self.inside.at ≡ at.Inside = search rules in
    let here : now.place ≡ Inside held = sym (ap (λ (s : LexerState). s.place) c.self.view_is) ∙ ap (λ (a : At). place_at a held) is in
    let plain : now.style ≡ Plain = search rules in
    let le : c.run_len-len.result ≤ 16 = search rules in
    run_fed now c.append.new.self held c.args.rest.now 16 c.run_len-len.result plain here c.run_len-len.ensures le c.in_ok-append.ensures.appended
