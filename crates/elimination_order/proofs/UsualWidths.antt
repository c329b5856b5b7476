-- The widths of nodes in the usual order, from the last node to node 0.
use Rattle.elimination_order.proofs.Common.{nat_tests, ◌≡◌, ℕ, zero, suc, ◌+◌, ◌-◌, ◌<◌, ◌≤◌, Bool, refl, ap, ◌∙◌, arith, List, [], length, take, count_by, Some, None, range_with_len, take_more, length-reverse, get_or-reverse, length-range_with_len, Written, IsFirstWider, IsWithinWidth, after, coupled, width, without, at_place, after_nodes, first_wide, from_last, width_after}
use Rattle.elimination_order.proofs.FirstWide.{none_wide, some_wide}
use Rattle.elimination_order.proofs.Shuffled.{at_range}
use Rattle.elimination_order.proofs.Widths.{after_push}
use Rattle.elimination_order.specs.Stated.{WidthsFromLastAreUsual}

long : (n : ℕ) → length (from_last n) ≡ n
long n = length-reverse (range_with_len 0 n) ∙ length-range_with_len 0 n

-- the node at a place of the order
usual_at : (n p : ℕ) → p < n → at_place (from_last n) p ≡ n - suc p
usual_at n p h =
    let wide = length-range_with_len 0 n in
    let at = at_range n (n - suc p) 0 (omega (arith, h)) in
    grind (arith, nat_tests, get_or-reverse)

after_usual : (n : ℕ) (g : ℕ → ℕ → Bool) (k : ℕ) → k ≤ n
    → after_nodes (take k (from_last n)) g ≡ after n g k
after_usual n g zero h = refl
after_usual n g (suc k) h =
    let order = from_last n in
    let within : k < length order = omega (arith, h, long n) in
    let next : suc k ≡ k + 1 = omega arith in
    ap (λ p. after_nodes (take p order) g) next
    ∙ rw (take_more order k 0 within, usual_at n k (omega (arith, h)))
    (after_push (take k order) (n - suc k) g)
    ∙ ap (without (n - suc k)) (after_usual n g k (omega (arith, h)))

module _ (m : Written) where
  abbrev order : List ℕ
  order = from_last m.nodes

  -- the width at a place of the order is that of its node
  width_usual : (p : ℕ) → p < m.nodes
      → width_after m (take p order) (at_place order p) ≡ width m (m.nodes - suc p)
  width_usual p h =
      let n = m.nodes in
      let v = n - suc p in
      let back : p ≡ n - suc v = omega (arith, h) in
      (λ i. count_by
      (λ u. after_usual n (coupled m.entries) p (omega (arith, h)) i u (usual_at n p h i))
      (range_with_len 0 n))
      ∙ ap (λ k. count_by (λ u. after n (coupled m.entries) k u v) (range_with_len 0 n)) back

  narrow_usual : (most : ℕ) → IsWithinWidth most m → first_wide most m [] order ≡ None
  narrow_usual most narrow =
      none_wide most m [] order (λ p h.
      let low : p < m.nodes = omega (arith, h, long m.nodes) in
      rw (width_usual p low) (narrow (m.nodes - suc p) (omega (arith, low))))

  wider_usual : (most v w : ℕ) → IsFirstWider most m v w → first_wide most m [] order ≡ Some (v, w)
  wider_usual most v w found =
      let n = m.nodes in
      let place = n - suc v in
      let low : v < n = found.node in
      let back : n - suc place ≡ v = omega (arith, low) in
      let within : place < n = omega (arith, low) in
      let node : at_place order place ≡ v = usual_at n place within ∙ back in
      let there : width_after m (take place order) (at_place order place) ≡ w =
      width_usual place within ∙ ap (width m) back ∙ found.has in
      some_wide most m [] order place (omega (arith, within, long n)) (rw there found.wide)
      (λ p less.
      let here : p < n = omega (arith, less, low) in
      rw (width_usual p here) (found.first (n - suc p) (omega (arith, less, low)) (omega (arith, here))))
      ∙ (λ i. Some (node i, there i))

pub usual_widths : WidthsFromLastAreUsual
usual_widths = record {
  none = λ most m. narrow_usual m most;
  some = λ most m. wider_usual m most;
}
