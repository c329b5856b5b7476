-- Whose chain each qubit is in, chain after chain.
use Rattle.embedding_check.proofs.Common.{nat_tests, ◌≡◌, ℕ, zero, suc, ◌+◌, ◌<◌, ◌≤◌, ◌⊎◌, inl, inr, true, List, length, take, subst, arith, cases_eq, is_in, chain_of, occurrences, owner_of, nobody, AreOwners, occurrences_more, occurrences-take-le}
use Rattle.embedding_check.proofs.Sorting.{at_of_in, one_of}

-- the owners of the first v chains
pub record OwnedBelow (chains : List (List ℕ)) (owners : List ℕ) (v : ℕ) : Type 0 where
  pub inside : (w b : ℕ) → w < v → is_in (chain_of chains w) b ≡ true → owner_of owners b ≡ w
  pub owned : (w b : ℕ) → w < v → b < length owners → owner_of owners b ≡ w → is_in (chain_of chains w) b ≡ true
  pub free : (b : ℕ) → b < length owners → (owner_of owners b < v) ⊎ (owner_of owners b ≡ nobody)

-- a qubit of one of the first chains is listed there
listed_first : (chains : List (List ℕ)) (b v w : ℕ) → v ≤ length chains → w < v → is_in (chain_of chains w) b ≡ true
    → 1 ≤ occurrences b (take v chains)
listed_first chains b zero w all below in' = absurd (omega (arith, below))
listed_first chains b (suc v) w all below in' =
    let e : v + 1 ≡ suc v = omega arith in
    let more = occurrences_more b chains v (omega (arith, all)) in
    subst (λ n. 1 ≤ occurrences b (take n chains)) e (elim (cases_eq w v) [
      | inl same ↦
          let k = at_of_in (chain_of chains v) b (subst (λ x. is_in (chain_of chains x) b ≡ true) same in') in
          omega (arith, more, one_of (chain_of chains v) b k.0 k.1 k.2)
      | inr other ↦ omega (arith, more, listed_first chains b v w (omega (arith, all)) (omega (arith, below, other)) in')
    ])

one_owner : (chains : List (List ℕ)) → ((q : ℕ) → occurrences q chains ≤ 1) → (v w b : ℕ) → v < length chains
    → w < v → is_in (chain_of chains w) b ≡ true → is_in (chain_of chains v) b ≡ true → ⊥
one_owner chains once v w b below less first second =
    let k = at_of_in (chain_of chains v) b second in
    let one = one_of (chain_of chains v) b k.0 k.1 k.2 in
    let two = listed_first chains b v w (omega (arith, below)) less first in
    let three = occurrences_more b chains v below in
    omega (arith, once b, occurrences-take-le b chains (v + 1), one, two, three)

pub own_more : (chains : List (List ℕ)) (old new : List ℕ) (v : ℕ) → ((q : ℕ) → occurrences q chains ≤ 1)
    → v < length chains → length chains ≤ nobody → OwnedBelow chains old v → length new ≡ length old
    → ((b : ℕ) → is_in (chain_of chains v) b ≡ true → owner_of new b ≡ v)
    → ((b : ℕ) → (is_in (chain_of chains v) b ≡ true) ⊎ (owner_of new b ≡ owner_of old b))
    → OwnedBelow chains new (v + 1)
own_more chains old new v once below few owned len inside outside = record {
  inside = λ w b low in'.
      let here = inside b in
      let cases = outside b in
      let before = owned.inside w b in
      let one = one_owner chains once v w b below in
      grind (arith, nat_tests, cases_eq w v);
  owned = λ w b low end is.
      let here = inside b in
      let cases = outside b in
      let before = owned.owned w b in
      let free = owned.free b in
      grind (arith, nat_tests, cases_eq w v);
  free = λ b end.
      let here = inside b in
      let cases = outside b in
      let free = owned.free b in
      grind (arith, nat_tests);
}

pub owned_all : (chains : List (List ℕ)) (owners : List ℕ) (v : ℕ) → length chains ≤ v → OwnedBelow chains owners v
    → AreOwners chains owners
owned_all chains owners v all owned = grind (arith, nat_tests)
