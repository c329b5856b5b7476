use Rattle.posiform_check.proofs.Common.{rules, ◌≡◌, true, false, append-nil, to_z, of_z, w128, has_clash, literal_set, is_empty, refl, has_clash-literal_set}
use Rattle.posiform_check.proofs.listed.keep_line.Goals as goal

pub returns-then-clashes : goal.returns-then-clashes
returns-then-clashes c =
    let ls = c.args.literals.now.items in
    let filled : is_empty ls ≡ false = search rules in
    let clash : has_clash (literal_set ls) ≡ true = search rules in
    rw (filled, ← has_clash-literal_set ls, clash, append-nil) refl

pub returns : goal.returns
returns c =
    let ls = c.args.literals.now.items in
    let filled : is_empty ls ≡ false = search rules in
    let apart : has_clash (literal_set ls) ≡ false = search rules in
    let whole : to_z w128 (of_z w128 c.args.coefficient) ≡ c.args.coefficient = search rules in
    let same : c.make_set.new.literals.items ≡ literal_set ls = search rules in
    rw (filled, ← has_clash-literal_set ls, apart)
    (rw (c.deref-2.ensures.value, same, whole) at c.push.ensures.pushed)
