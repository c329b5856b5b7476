-- Couplers in order, none of them 0, are told by the sum that they have for each pair.
use Rattle.pair_sums.proofs.Common.{nat_tests, ◌≡◌, inl, inr, ℕ, ◌<◌, pos, List, [], ◌∷◌, refl, sym, ap, ◌∙◌, arith, AllByRecursion, ints, Entry, pair_number, IsNonzero, weight_for, weight_at}
use Rattle.pair_sums.proofs.PairOrder.{compared, ArePairs, Before, Rises, same_pair}

pub weight_for-other : (e f : Entry) → pair_number e < pair_number f → weight_for e.first e.second f ≡ pos 0
weight_for-other e f less = grind (arith, nat_tests)

weight_for-itself : (e : Entry) → weight_for e.first e.second e ≡ e.weight
weight_for-itself e = grind (arith, nat_tests)

weight_at-before : (e : Entry) (es : List Entry) → Before e es
    → weight_at e.first e.second es ≡ pos 0
weight_at-before e [] before = refl
weight_at-before e (f ∷ fs) before =
    omega (arith, ints, weight_for-other e f before.0, weight_at-before e fs before.1)

weight_at-first : (e : Entry) (es : List Entry) → Before e es
    → weight_at e.first e.second (e ∷ es) ≡ e.weight
weight_at-first e es before = omega (arith, ints, weight_for-itself e, weight_at-before e es before)

-- what stands before a list stands before it from further off
pub Before-further : (d e : Entry) (es : List Entry) → pair_number d < pair_number e → Before e es
    → Before d es
Before-further d e [] less before = tt
Before-further d e (f ∷ fs) less before =
    (omega (arith, less, before.0), Before-further d e fs less before.1)

-- a pair below all of the list has no weight there, and so is none that has one
none_below : (e f : Entry) (es fs : List Entry) → pair_number e < pair_number f → Before e es
    → Before f fs → weight_at e.first e.second (e ∷ es) ≡ weight_at e.first e.second (f ∷ fs)
    → e.weight ≡ pos 0
none_below e f es fs less up above same =
    grind (arith, nat_tests, weight_at-first, weight_at-before, Before-further)

pub same_entries : (es fs : List Entry) → ArePairs es → ArePairs fs → Rises es → Rises fs
    → AllByRecursion IsNonzero es → AllByRecursion IsNonzero fs
    → ((i j : ℕ) → weight_at i j es ≡ weight_at i j fs) → es ≡ fs
same_entries [] [] p q a b m n same = refl
same_entries [] (f ∷ fs) p q a b m n same =
    absurd (n.0 (sym (weight_at-first f fs b.0) ∙ sym (same f.first f.second)))
same_entries (e ∷ es) [] p q a b m n same =
    absurd (m.0 (sym (weight_at-first e es a.0) ∙ same e.first e.second))
same_entries (e ∷ es) (f ∷ fs) p q a b m n same =
    elim (compared (pair_number e) (pair_number f)) [
      | inl less ↦ absurd (m.0 (none_below e f es fs less a.0 b.0 (same e.first e.second)))
      | inr (inl number) ↦
          let pair = same_pair e.first e.second f.first f.second p.0.within q.0.within number in
          both pair (same_entries es fs p.1 q.1 a.1 b.1 m.1 n.1)
      | inr (inr more) ↦ absurd (n.0 (none_below f e fs es more b.0 a.0 (sym (same f.first f.second))))
    ]
  where
    both : (e.first ≡ f.first) × (e.second ≡ f.second)
        → (((i j : ℕ) → weight_at i j es ≡ weight_at i j fs) → es ≡ fs) → (e ∷ es) ≡ (f ∷ fs)
    both pair rest =
        let moved : weight_at e.first e.second (f ∷ fs) ≡ weight_at f.first f.second (f ∷ fs) =
        λ k. weight_at (pair.0 k) (pair.1 k) (f ∷ fs) in
        let weight : e.weight ≡ f.weight =
        sym (weight_at-first e es a.0) ∙ same e.first e.second ∙ moved ∙ weight_at-first f fs b.0 in
        let one : e ≡ f = λ k. record { first = pair.0 k; second = pair.1 k; weight = weight k } in
        let others =
        rest (λ i j. let here : weight_for i j e ≡ weight_for i j f = ap (weight_for i j) one in omega (arith, ints, same i j)) in
        λ k. one k ∷ others k
