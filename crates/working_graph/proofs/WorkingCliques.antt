-- The places that are taken of the first n: each is whole, and coupled to those before it.
--
-- What a place has to have is what it was taken for: its chain is whole, and it is coupled to all
-- that were taken before. That no qubit is listed twice is the grid's, as for the clique on a whole
-- graph.
--
-- The chains of the taken places are valid for every Ising form of so many nodes.
--
-- A whole place is a path of the working graph, and two that are taken have a join. That its
-- numbers are below those of the graph and none is listed twice is so on the whole graph.
use Rattle.working_graph.proofs.Common.{and_parts, cases_Bool, nat_tests, ◌≡◌, ℕ, zero, suc, ◌+◌, ◌-◌, ◌<◌, ◌≤◌, inl, inr, Bool, true, List, [], ◌∷◌, ◌++◌, length, map, take, get_or, if◌then◌else◌, refl, sym, ap, ◌∙◌, arith, sum_by, range_with_len, sum_by-map-range_with_len_more, cases_lt, append-nil, append_assoc, length-append, get_or_append_left, get_or-append_seam, take-append_seam, sum_by-append, sum_by-cons, Fabric, AreTaken, is_whole, is_free, taken_of, AllPass-from_list_all, cond_both, ◌≢◌, ◌/◌, ◌%◌, ◌==◌, All, count_by, list_any, list_all, length-map, length-take, get_or-map, get_or-take, sum_by-take-le, is_in, IsConnected, IsCoupler, qubits_of, Joins, occurrences, IsCrossing, clique_places, clique_chain, clique_of, path_len, cell_of, occurrences-sum, path_connected, default_free, WorkingGraph, exists_in, joined_in, fabric_of, are_linked, are_coupled, taken_places, working_clique, IsForWorkingClique, joined_in-comm, joined_in-self, Any-from_list_any, is_in_at, ordered, crossing_at}
use Rattle.working_graph.proofs.EmptyForm.{clique_once}

-- ---- what is taken

last_at : (xs : List ℕ) (v i : ℕ) → i ≡ length xs → get_or (xs ++ v ∷ []) i 0 ≡ v
last_at xs v i e = ap (λ j. get_or (xs ++ v ∷ []) j 0) e ∙ get_or-append_seam xs v [] 0

pushed_taken : (fabric : Fabric) (chain : ℕ → List ℕ) (n : ℕ) (xs : List ℕ)
    → AreTaken fabric chain n xs
    → is_free fabric chain xs n ≡ true → AreTaken fabric chain (n + 1) (xs ++ n ∷ [])
pushed_taken fabric chain n xs taken free =
    let len = length-append xs (n ∷ []) in
    let front = λ (i : ℕ) (h : i < length xs). get_or_append_left xs (n ∷ []) 0 i h in
    let last = last_at xs n in
    let both = and_parts (is_whole fabric (chain n)) _ free in
    let all_coupled = λ (i : ℕ) (low : i < length xs). AllPass-from_list_all _ xs both.1 i 0 low in
    record {
      below = λ i low. let old = taken.below i in grind (arith, nat_tests, cases_lt i (length xs));
      whole = λ i low. let old = taken.whole i in grind (arith, nat_tests, cases_lt i (length xs));
      coupled = λ i j before low.
          let old = taken.coupled i j before in
          let first = front i (omega (arith, before, low, len)) in
          let end = last j in
          let next = front j in
          let new = all_coupled i in
          grind (arith, nat_tests, cases_lt j (length xs));
    }

kept_taken : (fabric : Fabric) (chain : ℕ → List ℕ) (n : ℕ) (xs : List ℕ)
    → AreTaken fabric chain n xs → AreTaken fabric chain (n + 1) xs
kept_taken fabric chain n xs taken = grind (arith, nat_tests)

-- the taken places of the first n are such
pub are_taken : (fabric : Fabric) (chain : ℕ → List ℕ) (n : ℕ)
    → AreTaken fabric chain n (taken_of fabric chain n)
are_taken fabric chain zero = grind (arith, nat_tests)
are_taken fabric chain (suc n) =
    let next : suc n ≡ n + 1 = omega arith in
    let before = are_taken fabric chain n in
    rw next (cond_both (is_free fabric chain _ n) _ _ (AreTaken fabric chain (n + 1))
    (pushed_taken fabric chain n _ before) (λ _. kept_taken fabric chain n _ before))

-- the places that are taken of fewer come first
first_taken : (fabric : Fabric) (chain : ℕ → List ℕ) (m n : ℕ)
    → (later : List ℕ) × (taken_of fabric chain (m + n) ≡ taken_of fabric chain m ++ later)
first_taken fabric chain m zero =
    ([], ap (taken_of fabric chain) (omega arith) ∙ sym (append-nil (taken_of fabric chain m)))
first_taken fabric chain m (suc n) =
    let more = first_taken fabric chain m n in
    let next : m + suc n ≡ suc (m + n) = omega arith in
    elim (cases_Bool (is_free fabric chain (taken_of fabric chain (m + n)) (m + n))) [
      | inl free ↦ (
        more.0 ++ (m + n) ∷ [],
        rw (next, free)
            (rw (more.1) (append_assoc (taken_of fabric chain m) more.0 ((m + n) ∷ []))),
      )
      | inr not ↦ (more.0, rw (next, not) more.1)
    ]

-- so many of the places that are taken, once so many are
pub taken_front : (fabric : Fabric) (chain : ℕ → List ℕ) (m n nodes : ℕ) (xs : List ℕ) → m ≤ n
    → xs ≡ taken_of fabric chain m → length xs ≡ nodes → xs ≡ take nodes (taken_of fabric chain n)
taken_front fabric chain m n nodes xs low same len =
    let more = first_taken fabric chain m (n - m) in
    let all : n ≡ m + (n - m) = omega (arith, low) in
    let front = take-append_seam xs more.0 in
    let is = more.1 in
    cc

-- ---- how often a qubit is listed

-- the chains of taken places list no qubit more often than all chains
next_sum : (h : ℕ → ℕ) (n : ℕ) (xs : List ℕ) (b : Bool)
    → sum_by h (if b then xs ++ n ∷ [] else xs) ≤ sum_by h xs + h n
next_sum h n xs b = grind (arith, nat_tests, sum_by-append h xs (n ∷ []), sum_by-cons h n [])

pub sum_by-map : (h : List ℕ → ℕ) (chain : ℕ → List ℕ) (xs : List ℕ)
    → sum_by h (map chain xs) ≡ sum_by (λ v. h (chain v)) xs
sum_by-map h chain [] = refl
sum_by-map h chain (x ∷ xs) = omega (arith, sum_by-cons, sum_by-map h chain xs)

pub taken_sum : (fabric : Fabric) (chain : ℕ → List ℕ) (h : List ℕ → ℕ) (n : ℕ)
    → sum_by h (map chain (taken_of fabric chain n)) ≤ sum_by h (map chain (range_with_len 0 n))
taken_sum fabric chain h zero = omega arith
taken_sum fabric chain h (suc n) =
    let before = taken_of fabric chain n in
    let next : n + 1 ≡ suc n = omega arith in
    let more = rw next at (sum_by-map-range_with_len_more h chain 0 n n (omega arith)) in
    let step = next_sum (λ v. h (chain v)) n before (is_free fabric chain before n) in
    let last = sum_by-map h chain (taken_of fabric chain (suc n)) in
    omega (arith, step, taken_sum fabric chain h n, sum_by-map h chain before, last, more)

-- ---- one chain

pub linked_at : (joined : Joins) (xs : List ℕ) → are_linked joined xs ≡ true → (j : ℕ)
    → suc j < length xs → joined (get_or xs j 0) (get_or xs (suc j) 0) ≡ true
linked_at joined [] h j low = absurd (omega (arith, low))
linked_at joined (a ∷ []) h j low = absurd (omega (arith, low))
linked_at joined (a ∷ b ∷ qs) h zero low = grind (arith, nat_tests)
linked_at joined (a ∷ b ∷ qs) h (suc j) low = grind (arith, nat_tests, linked_at joined (b ∷ qs))

pub whole_connected : (fabric : Fabric) (xs : List ℕ) → is_whole fabric xs ≡ true
    → IsConnected fabric.joined xs
whole_connected fabric xs whole =
    path_connected fabric.joined xs (λ j low.
    let next : j + 1 ≡ suc j = omega arith in
    rw next (linked_at fabric.joined xs
    (and_parts (list_all fabric.exists xs) (are_linked fabric.joined xs) whole).1 j
    (omega (arith, low))))

pub whole_exists : (fabric : Fabric) (xs : List ℕ) → is_whole fabric xs ≡ true
    → All (λ q. fabric.exists q ≡ true) xs
whole_exists fabric xs whole =
    AllPass-from_list_all fabric.exists xs
    (and_parts (list_all fabric.exists xs) (are_linked fabric.joined xs) whole).0

-- ---- two chains

-- a listed number that passes a test
pub any_of : (p : ℕ → Bool) (xs : List ℕ) → list_any p xs ≡ true
    → (q : ℕ) × (is_in xs q ≡ true) × (p q ≡ true)
any_of p xs h =
    let a = Any-from_list_any p xs h in
    (a.1, is_in_at xs a.0 a.1 a.2 (default_free xs a.0 0 a.1 a.2 ∙ a.3), a.4)

pub coupled_crossing : (w : WorkingGraph) (c d : List ℕ) → are_coupled (joined_in w) d c ≡ true
    → (pair : ℕ × ℕ) × IsCrossing (joined_in w) c d pair
coupled_crossing w c d coupled =
    let a = any_of (λ p. list_any (joined_in w p) c) d coupled in
    let b = any_of (joined_in w a.0) c a.2 in
    let back = joined_in-comm w b.0 a.0 in
    (ordered b.0 a.0, crossing_at (joined_in w) c d b.0 a.0 back (joined_in-self w b.0) b.1 a.1 (back ∙ b.2))

-- ---- all chains

abbrev on_place : WorkingGraph → ℕ → ℕ
on_place w v = get_or (taken_places w) v 0

chain_at : (w : WorkingGraph) (nodes v : ℕ) (d : List ℕ) → nodes ≤ length (taken_places w)
    → v < nodes → get_or (working_clique w nodes) v d ≡ clique_chain w.graph (on_place w v)
chain_at w nodes v d fits low =
    let taken = taken_places w in
    get_or-map (clique_chain w.graph) (take nodes taken) v 0 d (omega
    (arith, low, fits, length-take nodes taken))
    ∙ ap (clique_chain w.graph) (get_or-take nodes taken v 0 low)

working_once : (w : WorkingGraph) (nodes q : ℕ) → occurrences q (working_clique w nodes) ≤ 1
working_once w nodes q =
    let h : List ℕ → ℕ = λ chain. count_by (λ p. p == q) chain in
    let F = clique_chain w.graph in
    let taken = taken_places w in
    let one = occurrences-sum q (working_clique w nodes) in
    let three = sum_by-take-le (λ v. h (F v)) taken nodes in
    let four = taken_sum (fabric_of w) F h (clique_places w.graph) in
    let five = occurrences-sum q (clique_of w.graph (clique_places w.graph)) in
    omega (arith, one, sum_by-map h F, three, four, five, clique_once w.graph q)

pub working_clique_valid : (w : WorkingGraph) (nodes : ℕ) → nodes ≤ length (taken_places w)
    → IsForWorkingClique w nodes (working_clique w nodes)
working_clique_valid w nodes fits =
    let graph = w.graph in
    let F = λ (v : ℕ). clique_chain graph (on_place w v) in
    let len : length (working_clique w nodes) ≡ nodes =
    length-map (take nodes (taken_places w)) (clique_chain graph) ∙ omega (arith, fits, length-take nodes (taken_places w)) in
    let taken = are_taken (fabric_of w) (clique_chain graph) (clique_places graph) in
    let whole : (v : ℕ) → v < nodes → is_whole (fabric_of w) (F v) ≡ true =
    λ v low. taken.whole v (omega (arith, low, fits)) in
    let below : (v : ℕ) → v < nodes → on_place w v < clique_places graph =
    λ v low. taken.below v (omega (arith, low, fits)) in
    let long = λ (v : ℕ) (low : v < nodes). path_len graph (on_place w v / graph.shore)
    (on_place w v % graph.shore) (cell_of graph (on_place w v) (below v low)) in
    let each : (P : List ℕ → Type 0) → ((v : ℕ) → v < nodes → P (F v)) → All P (working_clique w nodes) =
    λ P is v d inside.
    let low : v < nodes = omega (arith, inside, len) in
    rw (chain_at w nodes v d fits low) (is v low) in
    λ f ising counted. record {
      counted = len ∙ sym counted;
      filled = each (λ chain. chain ≢ []) (λ v low none. omega (arith, long v low, ap length none));
      within = each (λ chain. All (λ q. exists_in w q ≡ true) chain)
          (λ v low. whole_exists (fabric_of w) (F v) (whole v low));
      once = working_once w nodes;
      connected = each (IsConnected (joined_in w)) (λ v low. whole_connected (fabric_of w) (F v) (whole v low));
      coupled = λ k d inside.
          let c = get_or f.couplings k d in
          let is : IsCoupler nodes c = rw (← counted) (ising.couplings k d inside) in
          let low : c.first < nodes = omega (arith, is.upward, is.within) in
          let crossing = coupled_crossing w (F c.first) (F c.second)
          (taken.coupled c.first c.second is.upward (omega (arith, is.within, fits))) in
          (crossing.0, rw (chain_at w nodes c.second [] fits is.within, chain_at w nodes c.first [] fits low) crossing.1);
    }
