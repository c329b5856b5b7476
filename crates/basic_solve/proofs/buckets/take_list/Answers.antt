use Rattle.basic_solve.proofs.Common.{◌∷◌, rules, ◌≡◌, [], ◌∙◌, sym, ap, get_or, length, length-append, get_or-map, get_or-append_seam, arith}
use Rattle.basic_solve.proofs.Heads.{taken_by_pop, taken_by_set}
use Rattle.basic_solve.proofs.buckets.take_list.Goals as goal

pub returns-then-place-eq0-clause-taken : goal.returns-then-place-eq0-clause-taken
returns-then-place-eq0-clause-taken g c =
    let none : c.replace.new.dest.items ≡ [] = search rules in
    taken_by_set _ _ _ _ none c.requires

pub returns-clause-taken : goal.returns-clause-taken
returns-clause-taken g c =
    let is = c.in-Some.ensures.items in
    let count = length-append c.pop.new.self.items (c.in-Some.list ∷ []) in
    taken_by_pop _ _ _ _ _ is (omega (arith, c.requires, c.if-place-len.false, c.len.ensures, ap length is, count))
    (omega (arith, c.if-place-eq0.false))

pub returns-clause-list : goal.returns-clause-list
returns-clause-list g c =
    let is = c.in-Some.ensures.items in
    let rest = c.pop.new.self.items in
    let list = c.in-Some.list in
    let at : c.args.place ≡ length rest = omega (arith, c.requires, c.if-place-len.false, c.len.ensures, ap length is, length-append rest (list ∷ [])) in
    let item = (λ i. get_or (is i) (at i) list) ∙ get_or-append_seam rest list [] list in
    sym (get_or-map (λ list. list.items) c.args.lists.now.items c.args.place list [] c.requires ∙ ap (λ list. list.items) item)

pub index_mut-requires : goal.index_mut-requires
index_mut-requires g c = omega (arith, c.requires, c.args.lists.now.ok.0)
