use Rattle.rosenberg_layer.proofs.Common.{◌≡◌, ◌<◌, List, ℕ, [], length, map, replicate, sym, ap, ◌∙◌, subst, arith, rules, All, All-replicate, list_of}
use Rattle.rosenberg_layer.proofs.Chains.{map-none}
use Rattle.rosenberg_layer.proofs.buckets.Buckets.new.Goals as goal

pub invariant_of-result : goal.invariant_of-result
invariant_of-result c =
    let nexts = c.in_ok-vec-2.field-0.items in
    let heads : c.in_ok-vec.field-0.items ≡ replicate c.args.lists (record { first = 0; count = 0 }) = search rules in
    let none = ap (map (list_of nexts)) heads ∙ map-none nexts c.args.lists in
    subst (All (λ (xs : List ℕ). All (λ t. t < length nexts) xs)) (sym none)
    (All-replicate (λ (xs : List ℕ). All (λ t. t < length nexts) xs) c.args.lists []
    (λ k d inside. absurd (omega (arith, inside))))

pub returns-clause-lists : goal.returns-clause-lists
returns-clause-lists c =
    let heads : c.in_ok-vec.field-0.items ≡ replicate c.args.lists (record { first = 0; count = 0 }) = search rules in
    ap (map (list_of _)) heads ∙ map-none _ c.args.lists
