use Rattle.quadratization.proofs.Common.{◌≡◌, ◌∷◌, [], length, get_or, pos, sym, ap, ◌∙◌, subst, rules, w128, to_z-of_z, get_or_from_slice_get, All-get_or, Term, IsTermSet, Ascend, IsLiteralSet-ascends, term_places, places_in, places_of, node_at, IsPlaceOf}
use Rattle.quadratization.proofs.LongPlaces.{only_place, place_kept}
use Rattle.quadratization.proofs.long_table.LongTable.place.Goals as goal

pub returns-clause-place : goal.returns-clause-place
returns-clause-place c =
    let t = c.args.self.now in
    let v = c.args.variable in
    let ls = c.at-term.result.literals in
    let k = c.at-term.result.coefficient in
    let here : get_or t.terms c.args.index ([], pos 0) ≡ (ls, k) = get_or_from_slice_get t.terms c.args.index (ls, k) ([], pos 0) c.at-term.ensures.term in
    let P : Term → Type 0 = λ u. IsTermSet t.width u.0 in
    let set : P (ls, k) = subst P here (All-get_or P t.terms c.args.index ([], pos 0) c.requires.within c.at-term.ensures.kept.terms.sets) in
    let up : Ascend ls = IsLiteralSet-ascends t.width ls set.set in
    let back = to_z-of_z w128 k (search rules) in
    let l = c.from_variable-later.result.0 in
    let later = c.from_variable-later.result.1 in
    let n = c.at-term.result.first_node in
    ap (λ (u : Term). places_of v (term_places u (node_at t c.args.index))) here
    ∙ ap (λ m. places_of v (places_in ls (length ls) k m)) (sym c.at-term.ensures.node)
    ∙ only_place v ls (length ls) k n l later up c.from_variable-later.ensures
    ∙ (λ i. record { literal = l; later = later; degree = sym c.len-degree.ensures i; coefficient = sym back i; first_node = n } ∷ [])

pub returns-clause-kept : goal.returns-clause-kept
returns-clause-kept c =
    let back = to_z-of_z w128 _ (search rules) in
    let l = c.from_variable-later.result.0 in
    let later = c.from_variable-later.result.1 in
    let n = c.at-term.result.first_node in
    subst (IsPlaceOf _ c.args.variable)
    (λ i. record { literal = l; later = later; degree = sym c.len-degree.ensures i; coefficient = sym back i; first_node = n })
    (place_kept _ c.args.index c.args.variable _ _ l later n c.at-term.ensures.kept
    c.at-term.ensures.term c.from_variable-later.ensures c.at-term.ensures.node)
