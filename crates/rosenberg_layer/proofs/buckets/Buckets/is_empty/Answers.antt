use Rattle.rosenberg_layer.proofs.Common.{◌≡◌, ◌<◌, length, get_or, ap, ◌∙◌, sym, arith, rules, length-map, chain, list_at, list_of, TermLists}
use Rattle.rosenberg_layer.proofs.Chains.{list_at-map, none-chain}
use Rattle.rosenberg_layer.proofs.buckets.Buckets.is_empty.Goals as goal

pub returns : goal.returns
returns c =
    let nexts = c.self.inside.nexts.items in
    let heads = c.self.inside.heads.items in
    let is = ap (λ (k : TermLists). k.lists) c.self.view_is in
    let within : c.args.list < length heads =
    omega (arith, c.requires, ap length is, length-map heads (list_of nexts)) in
    let head = c.index.result.now in
    let at : head ≡ get_or heads c.args.list head = search rules in
    let here : list_at c.args.self.now.lists c.args.list ≡ chain nexts head.count head.first =
    ap (λ ls. list_at ls c.args.list) (sym is)
    ∙ list_at-map (list_of nexts) heads c.args.list head within at in
    none-chain nexts head.count head.first _ here
