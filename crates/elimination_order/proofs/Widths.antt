-- The widths of nodes by new numbers are their widths in the order.
use Rattle.elimination_order.proofs.Common.{nat_tests, ◌≡◌, ℕ, zero, suc, ◌+◌, ◌-◌, ◌<◌, ◌≤◌, min, max, Bool, cond, not, ◌&&◌, ◌||◌, eqb, refl, sym, ap, ◌∙◌, arith, List, [], ◌∷◌, ◌++◌, length, take, map, reverse, sum_by, count_by, Some, None, AllByRecursion, IsDistinct, list_any, range_with_len, take_more, length-reverse, get_or-reverse, recursion_from_All, length-range_with_len, sum_by-cons, list_any-IsPermutation, sum_by-IsPermutation, IsDistinct-from_apart, Entry, Written, IsPlaced, IsWellFormed, IsFirstWider, IsWithinWidth, after, coupled, names_both, width, without, AreNumbers, IsRenumbered, at_place, renumbered, after_nodes, first_wide, width_after, fill_by_all, get_or_default}
use Rattle.elimination_order.proofs.FirstWide.{none_wide, some_wide}
use Rattle.elimination_order.proofs.Kept.{coupler_same}
use Rattle.elimination_order.proofs.Shuffled.{at_range, shuffled_range}

pub after_push : (xs : List ℕ) (v : ℕ) (g : ℕ → ℕ → Bool)
    → after_nodes (xs ++ v ∷ []) g ≡ without v (after_nodes xs g)
after_push [] v g = refl
after_push (x ∷ xs) v g = after_push xs v (without x g)

-- two numbers are these two
abbrev are_both : ℕ → ℕ → ℕ → ℕ → Bool
are_both a b u w = (eqb a u && eqb b w) || (eqb a w && eqb b u)

-- two graphs are the same but for the numbers of nodes
abbrev AreSame : ℕ → List ℕ → (ℕ → ℕ → Bool) → (ℕ → ℕ → Bool) → Type 0
AreSame n numbers f g =
    (u w : ℕ) → u < n → w < n → f (at_place numbers u) (at_place numbers w) ≡ g u w

module _ (n : ℕ) (names numbers : List ℕ) (are : AreNumbers n names numbers) where
  -- new numbers are the same exactly where the nodes are
  number_same : (u w : ℕ) → u < n → w < n → eqb (at_place numbers u) (at_place numbers w) ≡ eqb u w
  number_same u w h k = grind (arith, nat_tests, are.named u h, are.named w k)

  -- ---- couplers

  both_same : (u w : ℕ) (e : Entry) → u < n → w < n → IsPlaced n e
      → names_both (at_place numbers u) (at_place numbers w) (renumbered numbers e) ≡ names_both u w e
  both_same u w e h k placed =
      let a = at_place numbers e.first in
      let b = at_place numbers e.second in
      let uu = at_place numbers u in
      let ww = at_place numbers w in
      let low : e.first < n = omega (arith, placed.upward, placed.within) in
      let fu = number_same e.first u low h in
      let fw = number_same e.first w low k in
      let su = number_same e.second u placed.within h in
      let sw = number_same e.second w placed.within k in
      let either : are_both (min a b) (max a b) uu ww ≡ are_both e.first e.second u w
      = grind (arith, nat_tests) in
      λ i. coupler_same n names numbers e are placed i && either i

  any_same : (u w : ℕ) → u < n → w < n → (es : List Entry) → AllByRecursion (IsPlaced n) es
      → list_any (names_both (at_place numbers u) (at_place numbers w)) (map (renumbered numbers) es)
      ≡ list_any (names_both u w) es
  any_same u w h k [] placed = refl
  any_same u w h k (e ∷ es) placed =
      λ i. both_same u w e h k placed.0 i || any_same u w h k es placed.1 i

  -- ---- graphs

  without_same : (f g : ℕ → ℕ → Bool) (v : ℕ) → v < n → AreSame n numbers f g
      → AreSame n numbers (without (at_place numbers v) f) (without v g)
  without_same f g v l same u w h k =
      let uv = number_same u v h l in
      let wv = number_same w v k l in
      let uw = number_same u w h k in
      λ i. (not (uv i) && not (wv i))
      && (same u w h k i || (not (uw i) && (same u v h l i && same v w l k i)))

  -- the node at a place of the order
  turned_at : (k : ℕ) → k < n → at_place (reverse names) k ≡ at_place names (n - suc k)
  turned_at k h = grind (arith, nat_tests, get_or-reverse)

  after_same : (f g : ℕ → ℕ → Bool) → AreSame n numbers f g → (k : ℕ) → k ≤ n
      → AreSame n numbers (after n f k) (after_nodes (take k (reverse names)) g)
  after_same f g same zero h = same
  after_same f g same (suc k) h =
      let order = reverse names in
      let j = n - suc k in
      let v = at_place names j in
      let low : j < n = omega (arith, h) in
      let long : k < length order = omega (arith, h, length-reverse names, are.count) in
      let next : suc k ≡ k + 1 = omega arith in
      let more : after_nodes (take (suc k) order) g ≡ without v (after_nodes (take k order) g) =
      ap (λ p. after_nodes (take p order) g) next
      ∙ rw (take_more order k 0 long, turned_at k (omega (arith, h))) (after_push (take k order) v g) in
      let without_v =
      without_same (after n f k) (after_nodes (take k order) g) v (are.within j low)
      (after_same f g same k (omega (arith, h))) in
      λ u w hu hw. ap (λ x. without x (after n f k) (at_place numbers u) (at_place numbers w))
      (sym (are.numbered j low)) ∙ without_v u w hu hw ∙ ap (λ near. near u w) (sym more)

  -- ---- widths

  numbers_apart : IsDistinct eqb numbers
  numbers_apart =
      IsDistinct-from_apart eqb numbers (λ i j d less within.
      let one = get_or_default numbers i d 0 in
      let two = get_or_default numbers j d 0 in
      let same = number_same i j in
      grind (arith, nat_tests))

  count_same : (f g : ℕ → Bool) → ((u : ℕ) → u < n → f (at_place numbers u) ≡ g u) → (us : List ℕ)
      → AllByRecursion (λ u. u < n) us
      → sum_by (λ x. cond (f x) 1 0) (map (at_place numbers) us) ≡ sum_by (λ x. cond (g x) 1 0) us
  count_same f g same [] low = refl
  count_same f g same (u ∷ us) low =
      let here = same u low.0 in
      let rest = count_same f g same us low.1 in
      simp sum_by-cons (grind arith)

  width_same : (f g : ℕ → ℕ → Bool) (j : ℕ) → AreSame n numbers f g → j < n
      → count_by (λ u. after n f (n - suc j) u j) (range_with_len 0 n)
      ≡ count_by (λ u. after_nodes (take (n - suc j) (reverse names)) g u (at_place names j))
      (range_with_len 0 n)
  width_same f g j same h =
      let k = n - suc j in
      let v = at_place names j in
      let ff = λ (u : ℕ). after n f k u j in
      let gg = λ (u : ℕ). after_nodes (take k (reverse names)) g u v in
      let range = range_with_len 0 n in
      let long = length-range_with_len 0 n in
      let listed = fill_by_all (at_place numbers) numbers n 0 are.counted (λ k below. refl) in
      let moved = shuffled_range n numbers numbers_apart (
        are.counted,
        λ i d within.
            let same = get_or_default numbers i 0 d (omega (arith, within, are.counted)) in
            omega (arith, are.below i within),
        λ i within. record {
          at = at_place names i;
          within = omega (arith, are.within i within, are.counted);
          is = λ d. get_or_default numbers (at_place names i) d 0
              (omega (arith, are.within i within, are.counted)) ∙ are.numbered i within;
        },
      ) in
      let each : (u : ℕ) → u < n → ff (at_place numbers u) ≡ gg u =
      λ u low. ap (λ x. after n f k (at_place numbers u) x) (sym (are.numbered j h))
      ∙ after_same f g same k (omega (arith, h)) u v low (are.within j h) in
      let low : AllByRecursion (λ u. u < n) range =
      recursion_from_All (λ u. u < n) range (λ i d within.
      omega (arith, long, at_range n i d (omega (arith, within)))) in
      sym (sum_by-IsPermutation (λ x. cond (ff x) 1 0) range numbers moved)
      ∙ ap (sum_by (λ x. cond (ff x) 1 0)) listed ∙ count_same ff gg each range low

module _ (names numbers : List ℕ) (m r : Written) (formed : IsWellFormed m)
    (are : AreNumbers m.nodes names numbers) (same : IsRenumbered numbers m r) where
  width-renumbered : (j : ℕ) → j < m.nodes
      → width r j ≡ width_after m (take (m.nodes - suc j) (reverse names)) (at_place names j)
  width-renumbered j h =
      let f = coupled r.entries in
      let start : AreSame m.nodes numbers f (coupled m.entries) =
      λ u w hu hw. sym (list_any-IsPermutation (names_both (at_place numbers u) (at_place numbers w))
      (map (renumbered numbers) m.entries) r.entries same.entries)
      ∙ any_same m.nodes names numbers are u w hu hw m.entries (recursion_from_All _ _ formed.placed) in
      ap (λ n. count_by (λ u. after n f (n - suc j) u j) (range_with_len 0 n)) same.nodes
      ∙ width_same m.nodes names numbers are f (coupled m.entries) j start h

  -- the width at a place of the order is that of the node's new number
  narrow_at : (most p : ℕ) → p < m.nodes → width r (m.nodes - suc p) ≤ most
      → width_after m (take p (reverse names)) (at_place (reverse names) p) ≤ most
  narrow_at most p h low =
      let u = m.nodes - suc p in
      let again : m.nodes - suc u ≡ p = omega (arith, h) in
      let wide = width-renumbered u (omega (arith, h)) in
      let there = turned_at m.nodes names numbers are p h in
      grind (arith, nat_tests)

  pub first_wider-named : (most v w : ℕ) → IsFirstWider most r v w
      → first_wide most m [] (reverse names) ≡ Some (at_place names v, w)
  first_wider-named most v w found =
      let n = m.nodes in
      let order = reverse names in
      let low : v < n = omega (arith, found.node, same.nodes) in
      let place = n - suc v in
      let back : n - suc place ≡ v = omega (arith, low) in
      let node : at_place order place ≡ at_place names v =
      turned_at n names numbers are place (omega (arith, low)) ∙ ap (at_place names) back in
      let there : width_after m (take place order) (at_place order place) ≡ w =
      rw node (sym (width-renumbered v low) ∙ found.has) in
      some_wide most m [] order place (omega (arith, low, length-reverse names, are.count))
      (rw there found.wide) (λ p less. narrow_at most p (omega (arith, less, low))
      (found.first (n - suc p) (omega (arith, less, low)) (omega (arith, less, low, same.nodes))))
      ∙ (λ i. Some (node i, there i))

  pub none_wider-named : (most : ℕ) → IsWithinWidth most r → first_wide most m [] (reverse names) ≡ None
  none_wider-named most narrow =
      none_wide most m [] (reverse names) (λ p h.
      let low : p < m.nodes = omega (arith, h, length-reverse names, are.count) in
      narrow_at most p low (narrow (m.nodes - suc p) (omega (arith, low, same.nodes))))
