use Rattle.basic_solve.proofs.Common.{rules, ◌≡◌, ◌∷◌, [], ◌∙◌, ap, map, replicate, lists_at}
use Rattle.basic_solve.proofs.Heads.{seen_none}
use Rattle.basic_solve.proofs.buckets.Buckets.empty.Goals as goal

pub returns : goal.returns
returns g c =
    let heads : c.resize.new.self.items ≡ replicate c.args.count 0 = search rules in
    let lists : c.push.new.self.items ≡ c.new.result ∷ [] = search rules in
    let none : c.new.result.items ≡ [] = search rules in
    let seen : map (λ list. list.items) c.push.new.self.items ≡ [] ∷ [] =
    ap (map (λ list. list.items)) lists ∙ ap (λ l. l ∷ []) none in
    (λ i. lists_at (heads i) (seen i)) ∙ seen_none c.args.count
