-- A list of qubits of which each two neighbours are joined is connected.
use Rattle.chain_map.proofs.Common.{◌≡◌, ℕ, zero, suc, ◌+◌, ◌<◌, true, List, [], ◌∷◌, ◌++◌, length, get_or, refl, arith, nat_tests, is_in, first_of, IsWalk, end_of, IsReached, IsConnected, Joins}
use Rattle.chain_map.proofs.Rows.{default_free}

-- a listed qubit is in the chain
pub is_in_at : (xs : List ℕ) (k q : ℕ) → k < length xs → get_or xs k 0 ≡ q → is_in xs q ≡ true
is_in_at [] k q below is = absurd (omega (arith, below))
is_in_at (x ∷ xs) zero q below is = grind (arith, nat_tests)
is_in_at (x ∷ xs) (suc k) q below is = grind (arith, nat_tests, is_in_at xs k q (omega (arith, below)) is)

-- a walk goes on by one join
walk_on : (joined : Joins) (chain : List ℕ) (from r : ℕ) (steps : List ℕ)
    → IsWalk joined chain from steps → is_in chain r ≡ true → joined (end_of from steps) r ≡ true
    → IsWalk joined chain from (steps ++ r ∷ [])
walk_on joined chain from r [] walk in' linked = (in', linked, tt)
walk_on joined chain from r (q ∷ qs) walk in' linked =
    (walk.0, walk.1, walk_on joined chain q r qs walk.2 in' linked)

end_on : (from r : ℕ) (steps : List ℕ) → end_of from (steps ++ r ∷ []) ≡ r
end_on from r [] = refl
end_on from r (q ∷ qs) = end_on q r qs

reached_at : (joined : Joins) (xs : List ℕ)
    → ((j : ℕ) → j + 1 < length xs → joined (get_or xs j 0) (get_or xs (j + 1) 0) ≡ true)
    → (k : ℕ) → k < length xs → IsReached joined xs (get_or xs k 0)
reached_at joined xs linked zero below = ([], record { walk = tt; ends = refl })
reached_at joined xs linked (suc k) below =
    let before = reached_at joined xs linked k (omega (arith, below)) in
    let next : k + 1 ≡ suc k = omega arith in
    let r = get_or xs (suc k) 0 in
    let here = rw next at (linked k (omega (arith, below))) in
    let on = walk_on joined xs (first_of xs) r before.0 before.1.walk
    (is_in_at xs (suc k) r below refl) (rw before.1.ends here) in
    (before.0 ++ r ∷ [], record { walk = on; ends = end_on (first_of xs) r before.0 })

pub path_connected : (joined : Joins) (xs : List ℕ)
    → ((j : ℕ) → j + 1 < length xs → joined (get_or xs j 0) (get_or xs (j + 1) 0) ≡ true)
    → IsConnected joined xs
path_connected joined xs linked = λ k d below. rw (← default_free xs k 0 d below) (reached_at joined xs linked k below)
