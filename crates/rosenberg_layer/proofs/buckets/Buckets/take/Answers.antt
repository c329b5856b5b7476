use Rattle.rosenberg_layer.proofs.Common.{◌≡◌, ◌<◌, List, ℕ, [], length, map, get_or, set, refl, sym, ap, ◌∙◌, subst, arith, rules, All, length-map, chain, list_of, TermLists}
use Rattle.rosenberg_layer.proofs.Chains.{list_room, take_lists, take_room}
use Rattle.rosenberg_layer.proofs.buckets.Buckets.take.Goals as goal

pub append_list-requires : goal.append_list-requires
append_list-requires c =
    let nexts = c.self.inside.nexts.items in
    let heads = c.self.inside.heads.items in
    let is = ap (λ (k : TermLists). k.lists) c.self.view_is in
    let within : c.args.list < length heads =
    omega (arith, c.requires, ap length is, length-map heads (list_of nexts)) in
    let head = c.index.result.now in
    let at : head ≡ get_or heads c.args.list head = search rules in
    let lent = sym c.deref.ensures.value in
    subst (λ (ns : List ℕ). All (λ t. t < length ns) (chain ns head.count head.first)) lent
    (list_room nexts heads c.args.list (length nexts) head within at c.self.invariant)

pub invariant_of-self : goal.invariant_of-self
invariant_of-self c =
    let nexts = c.self.inside.nexts.items in
    let heads = c.self.inside.heads.items in
    take_room (map (list_of nexts) heads) _ c.args.list (length nexts) c.self.invariant
    (take_lists nexts heads _ c.args.list refl)

pub returns-clause-lists : goal.returns-clause-lists
returns-clause-lists c =
    let is = ap (λ (k : TermLists). k.lists) c.self.view_is in
    take_lists c.self.inside.nexts.items c.self.inside.heads.items _ c.args.list refl
    ∙ ap (λ (ls : List (List ℕ)). set ls c.args.list []) is
