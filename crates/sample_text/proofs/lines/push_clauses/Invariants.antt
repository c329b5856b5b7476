use Rattle.sample_text.proofs.Common.{◌≡◌, ◌-◌, ◌++◌, flat_map, drawn_clauses, line}
use Rattle.sample_text.proofs.lines.push_clauses.Given as goal

-- the text so far and the clauses that are left are the whole
abbrev pub invariant-loop : goal.invariant-loop
invariant-loop l =
    l.text.items ++ flat_map line (drawn_clauses (l.fn.count - l.counter) l.variables l.top l.draws.state)
    ≡ l.fn.text.items ++ flat_map line (drawn_clauses l.fn.count l.variables l.top l.fn.draws.state)
