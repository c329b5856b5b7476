-- The entries of nodes that are numbered one after another, before couplers.
use Rattle.quad_form.proofs.Common.{nat_tests, ints, ◌≡◌, ◌≢◌, ℕ, suc, ◌+◌, ◌<◌, ◌≤◌, true, ℤ, pos, List, [], ◌∷◌, ◌++◌, length, take, get_or, All, ap, ◌∙◌, arith, AllByRecursion, IsStrictlySortedBy, take_more, length-take, All-append, All-from_recursion, All-weaker, recursion_from_All, Entry, is_coupler, entry_cmp, has_node, IsPlaced, node_entries, IsCoupler, Less}

-- ---- one more node

node_entries_push : (n : ℕ) (ws : List ℤ) (w : ℤ) → node_entries n (ws ++ w ∷ [])
    ≡ node_entries n ws ++ record { first = n + length ws; second = n + length ws; weight = w } ∷ []
node_entries_push n [] w = grind (arith, nat_tests, ints)
node_entries_push n (v ∷ ws) w = grind (arith, nat_tests, ints, node_entries_push (suc n) ws w)

-- the entries of the first nodes, and of one more
pub node_entries_more : (ws : List ℤ) (i : ℕ) (d : ℤ) → i < length ws
    → node_entries 0 (take (i + 1) ws)
    ≡ node_entries 0 (take i ws) ++ record { first = i; second = i; weight = get_or ws i d } ∷ []
node_entries_more ws i d h =
    let size : 0 + length (take i ws) ≡ i = omega (arith, length-take i ws) in
    ap (node_entries 0) (take_more ws i d h) ∙ node_entries_push 0 (take i ws) (get_or ws i d)
    ∙ ap (λ k. node_entries 0 (take i ws)
    ++ record { first = k; second = k; weight = get_or ws i d } ∷ []) size

-- ---- their order

node_before_node : (n m : ℕ) (v w : ℤ) → n < m
    → entry_cmp (record { first = n; second = n; weight = v }) (record { first = m; second = m; weight = w }) ≡ Less
node_before_node n m v w h = grind (arith, nat_tests, ints)

node_before_coupler : (n : ℕ) (v : ℤ) (e : Entry) → e.first < e.second
    → entry_cmp (record { first = n; second = n; weight = v }) e ≡ Less
node_before_coupler n v e h = grind (arith, nat_tests, ints)

abbrev AreCouplers : List Entry → Type 0
AreCouplers es = AllByRecursion (λ e. e.first < e.second) es

node_before_couplers : (n : ℕ) (v : ℤ) (cs : List Entry) → AreCouplers cs
    → AllByRecursion (λ e. entry_cmp (record { first = n; second = n; weight = v }) e ≡ Less) cs
node_before_couplers n v [] h = tt
node_before_couplers n v (c ∷ cs) h = (node_before_coupler n v c h.0, node_before_couplers n v cs h.1)

node_before_all : (n m : ℕ) (v : ℤ) (ws : List ℤ) (cs : List Entry) → n < m → AreCouplers cs
    → AllByRecursion (λ e. entry_cmp (record { first = n; second = n; weight = v }) e ≡ Less)
    (node_entries m ws ++ cs)
node_before_all n m v [] cs lt h = node_before_couplers n v cs h
node_before_all n m v (w ∷ ws) cs lt h =
    (node_before_node n m v w lt, node_before_all n (suc m) v ws cs (omega arith) h)

pub nodes_ordered : (n : ℕ) (ws : List ℤ) (cs : List Entry) → AreCouplers cs
    → IsStrictlySortedBy entry_cmp cs → IsStrictlySortedBy entry_cmp (node_entries n ws ++ cs)
unfolding IsStrictlySortedBy
nodes_ordered n [] cs h sorted = sorted
nodes_ordered n (w ∷ ws) cs h sorted =
    (node_before_all n (suc n) w ws cs (omega arith) h, nodes_ordered (suc n) ws cs h sorted)

-- ---- their places

nodes_placed : (n : ℕ) (ws : List ℤ) (high : ℕ) → n + length ws ≤ high
    → AllByRecursion (IsPlaced high) (node_entries n ws)
nodes_placed n [] high h = tt
nodes_placed n (w ∷ ws) high h =
    (record { upward = omega arith; within = omega arith }, nodes_placed (suc n) ws high (omega arith))

couplers_placed : (high : ℕ) (cs : List Entry) → AllByRecursion (IsCoupler high) cs
    → AllByRecursion (IsPlaced high) cs
couplers_placed high [] h = tt
couplers_placed high (c ∷ cs) h = grind (arith, nat_tests, couplers_placed high cs h.1)

pub all_placed : (ws : List ℤ) (cs : List Entry) → All (IsCoupler (length ws)) cs
    → All (IsPlaced (length ws)) (node_entries 0 ws ++ cs)
all_placed ws cs h =
    All-append (IsPlaced (length ws)) (node_entries 0 ws) cs
    (All-from_recursion _ _ (nodes_placed 0 ws (length ws) (omega arith)))
    (All-from_recursion _ _ (couplers_placed (length ws) cs (recursion_from_All _ cs h)))

pub couplers_up : (n : ℕ) (cs : List Entry) → AllByRecursion (IsCoupler n) cs → AreCouplers cs
couplers_up n [] h = tt
couplers_up n (c ∷ cs) h = (h.0.upward, couplers_up n cs h.1)

pub all_upward : (n : ℕ) (cs : List Entry) → All (IsCoupler n) cs → All (λ e. e.first < e.second) cs
all_upward n cs h = grind (arith, nat_tests)

-- ---- each node has one

pub has_each_node : (n : ℕ) (ws : List ℤ) (cs : List Entry) (i : ℕ) → n ≤ i → i < n + length ws
    → has_node (node_entries n ws ++ cs) i ≡ true
has_each_node n [] cs i low high = absurd (omega arith)
has_each_node n (w ∷ ws) cs i low high =
    let rest : suc n ≤ i → has_node (node_entries (suc n) ws ++ cs) i ≡ true =
    λ above. has_each_node (suc n) ws cs i above (omega arith) in
    grind (arith, nat_tests, rest)

-- ---- no coupler is 0

abbrev IsNonzero : Entry → Type 0
IsNonzero e = is_coupler e ≡ true → e.weight ≢ pos 0

nodes_nonzero : (n : ℕ) (ws : List ℤ) → AllByRecursion IsNonzero (node_entries n ws)
nodes_nonzero n [] = tt
nodes_nonzero n (w ∷ ws) = (λ is none. grind (arith, nat_tests), nodes_nonzero (suc n) ws)

pub all_nonzero : (ws : List ℤ) (cs : List Entry) → All (IsCoupler (length ws)) cs
    → All (λ e. is_coupler e ≡ true → e.weight ≢ pos 0) (node_entries 0 ws ++ cs)
all_nonzero ws cs h =
    All-append IsNonzero (node_entries 0 ws) cs (All-from_recursion _ _ (nodes_nonzero 0 ws))
    (All-weaker (IsCoupler (length ws)) IsNonzero (λ c coupler is. coupler.nonzero) cs h)
