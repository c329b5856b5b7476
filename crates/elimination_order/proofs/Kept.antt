-- What entries keep by new numbers: couplers are couplers, all are placed, and their weights are the same.
use Rattle.elimination_order.proofs.Common.{nat_tests, ◌≡◌, ℕ, ◌<◌, refl, ap, arith, List, [], ◌∷◌, map, All, All-map, get_or, sum_by-cons, Entry, IsPlaced, is_coupler, weight_total, AreNumbers, renumbered}
use Rattle.basic_solve.specs.Columns.{turned}

-- a coupler is one by new numbers, and a node is none
pub coupler_same : (n : ℕ) (names numbers : List ℕ) (e : Entry) → AreNumbers n names numbers
    → IsPlaced n e → is_coupler (renumbered numbers e) ≡ is_coupler e
coupler_same n names numbers e are placed =
    grind (arith, nat_tests, are.named e.second placed.within)

-- the entries by new numbers are placed
pub placed_kept : (n : ℕ) (names numbers : List ℕ) (es : List Entry) → AreNumbers n names numbers
    → All (IsPlaced n) es → All (IsPlaced n) (map (renumbered numbers) es)
placed_kept n names numbers es are placed =
    All-map (IsPlaced n) (renumbered numbers) es (λ k d h.
    let at = placed k d h in
    let low : (get_or es k d).first < n = omega (arith, at.upward, at.within) in
    let one = are.below (get_or es k d).first low in
    let two = are.below (get_or es k d).second at.within in
    record { upward = omega arith; within = omega (arith, one, two) })

pub sizes_kept : (numbers : List ℕ) (es : List Entry)
    → weight_total (map (renumbered numbers) es) ≡ weight_total es
sizes_kept numbers [] = refl
sizes_kept numbers (e ∷ es) = let rest = sizes_kept numbers es in simp sum_by-cons (grind arith)

-- entries by new numbers that are turned twice
pub turned_back : (numbers : List ℕ) (es : List Entry)
    → map turned (map (λ e. turned (renumbered numbers e)) es) ≡ map (renumbered numbers) es
turned_back numbers [] = refl
turned_back numbers (e ∷ es) = ap (λ fs. renumbered numbers e ∷ fs) (turned_back numbers es)
