use Rattle.opb_reader.proofs.Lemmas.{◌≡◌, ◌∷◌, drop, Ok, codes, bytes_eq, true, false, sym, ap, ◌∙◌, rules, word_of, head_read, objective_read, head_objective, head_other, head_none, next_is}
use Rattle.opb_reader.proofs.reading.head.Goals as goal

pub returns-in-Some-clause-read : goal.returns-in-Some-clause-read
returns-in-Some-clause-read c =
    let p = c.args.problem.now in
    let end = c.args.end in
    let words = c.args.words.now in
    let w = word_of c.in-Some.word in
    let begins : bytes_eq w.bytes (codes "min:") ≡ true = search rules in
    let here : words ≡ w ∷ c.next.new.self =
    next_is words c.next.new.self (drop 1 words) c.next.result w c.next.ensures c.in-Some.ensures in
    let same : head_read p end words ≡ objective_read p end c.next.new.self =
    ap (head_read p end) here ∙ head_objective p end w c.next.new.self begins in
    rw same c.objective.ensures.read

pub returns-in_default-clause-read : goal.returns-in_default-clause-read
returns-in_default-clause-read c =
    let p = c.args.problem.now in
    let w = word_of c.in-Some.word in
    let other : bytes_eq w.bytes (codes "min:") ≡ false = search rules in
    ap (head_read p c.args.end) c.in-Some.ensures
    ∙ head_other p c.args.end w (drop 1 c.args.words.now) other
    ∙ ap (λ ws. Ok (p, ws)) (sym c.in-Some.ensures)

pub returns-in_default-2-clause-read : goal.returns-in_default-2-clause-read
returns-in_default-2-clause-read c =
    let none = rw c.in_default.is at c.peek.ensures in
    rw none (head_none c.args.problem.now c.args.end)
