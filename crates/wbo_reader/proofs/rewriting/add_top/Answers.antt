use Rattle.wbo_reader.proofs.Lemmas.{◌≡◌, rules, subst, sym, false, map, pos, ◌-ℤ◌, int_lt, to_z, of_z, List, w128, Constraint, IsSound, own_upper, negated, with_rows, top_needed}
use Rattle.wbo_reader.proofs.rewriting.add_top.Goals as goal

pub put-requires : goal.put-requires
put-requires c =
    let p = c.args.problem.now in
    let reached : int_lt (own_upper p) (pos c.args.top) ≡ false = search rules in
    let products : c.negate.new.self ≡ map negated p.objective = search rules in
    let bound : to_z w128 (of_z w128 (pos 1 -ℤ to_z w128 (of_z w128 c.from-2.result)))
    ≡ pos 1 -ℤ pos c.args.top =
    search rules in
    subst (λ (rows : List Constraint). IsSound (with_rows p rows))
    (sym (top_needed p c.args.top c.negate.new.self _ reached products bound)) c.requires.sound
