use Rattle.bits_model.proofs.Common.{◌≡◌, ℤ, List, map, int_div, length, to_z, of_z, ap, ◌∙◌, rules, w128, to_z-of_z, packed_entries, firsts_of, divided}
use Rattle.bits_model.proofs.Packed.{coupled_divided}
use Rattle.bits_model.proofs.couplers.CouplerList.divide.Goals as goal

pub returns : goal.returns
returns c =
    let rs = c.self.inside.starts.items in
    let ss = c.self.inside.seconds.items in
    let ws = c.self.inside.weights in
    let unit = c.args.unit in
    let back : to_z w128 (of_z w128 unit) ≡ unit = to_z-of_z w128 unit (search rules) in
    ap (λ (vs : List ℤ). packed_entries rs ss vs) c.divide.ensures
    ∙ ap (λ (u : ℤ). packed_entries rs ss (map (λ w. int_div w u) ws)) back
    ∙ coupled_divided unit (firsts_of (length ss) rs) ss ws ∙ ap (map (divided unit)) c.self.view_is
