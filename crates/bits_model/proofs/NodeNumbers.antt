-- The entries of nodes that are held as weights alone, or beside the nodes' numbers.
use Rattle.bits_model.proofs.Common.{nat_tests, ints, ◌≡◌, ℕ, zero, suc, ◌+◌, ◌<◌, ◌≤◌, ℤ, pos, List, [], ◌∷◌, length, drop, get_or, refl, ap, arith, AllByRecursion, drop_more, drop_all, Entry, Numbers, node_entries, listed_entries, weighed_nodes, AreNumbers}
use Rattle.bits_model.specs.declared.nodes.Numbers.TheVariants.{All, Listed}

length-node_entries : (n : ℕ) (ws : List ℤ) → length (node_entries n ws) ≡ length ws
length-node_entries n [] = refl
length-node_entries n (w ∷ ws) = ap suc (length-node_entries (suc n) ws)

length-listed : (ns : List ℕ) (ws : List ℤ) → length ns ≡ length ws
    → length (listed_entries ns ws) ≡ length ws
length-listed [] [] h = refl
length-listed [] (w ∷ ws) h = absurd (omega arith)
length-listed (n ∷ ns) [] h = absurd (omega arith)
length-listed (n ∷ ns) (w ∷ ws) h = ap suc (length-listed ns ws (omega arith))

-- there are as many entries as weights
pub length-weighed : (numbers : Numbers) (ws : List ℤ) → AreNumbers numbers ws
    → length (weighed_nodes numbers ws) ≡ length ws
length-weighed All ws a = length-node_entries 0 ws
length-weighed (Listed ns) ws a = length-listed ns.items ws a

node_entries-same : (n : ℕ) (ws : List ℤ)
    → AllByRecursion (λ e. e.first ≡ e.second) (node_entries n ws)
node_entries-same n [] = tt
node_entries-same n (w ∷ ws) = (refl, node_entries-same (suc n) ws)

listed-same : (ns : List ℕ) (ws : List ℤ)
    → AllByRecursion (λ e. e.first ≡ e.second) (listed_entries ns ws)
listed-same [] ws = tt
listed-same (n ∷ ns) [] = tt
listed-same (n ∷ ns) (w ∷ ws) = (refl, listed-same ns ws)

-- both numbers of each entry are that of its node
pub weighed-same : (numbers : Numbers) (ws : List ℤ)
    → AllByRecursion (λ e. e.first ≡ e.second) (weighed_nodes numbers ws)
weighed-same All ws = node_entries-same 0 ws
weighed-same (Listed ns) ws = listed-same ns.items ws

pub get_or-node_entries : (n : ℕ) (ws : List ℤ) (i : ℕ) (d : Entry) → i < length ws
    → get_or (node_entries n ws) i d
    ≡ record { first = n + i; second = n + i; weight = get_or ws i (pos 0) }
get_or-node_entries n [] i d h = absurd (omega arith)
get_or-node_entries n (w ∷ ws) zero d h = grind (arith, nat_tests, ints)
get_or-node_entries n (w ∷ ws) (suc i) d h =
    grind (arith, nat_tests, ints, get_or-node_entries (suc n) ws i d (omega arith))

pub get_or-listed : (ns : List ℕ) (ws : List ℤ) (i : ℕ) (d : Entry) → length ns ≡ length ws
    → i < length ws → get_or (listed_entries ns ws) i d
    ≡ record { first = get_or ns i 0; second = get_or ns i 0; weight = get_or ws i (pos 0) }
get_or-listed [] [] i d e h = absurd (omega arith)
get_or-listed [] (w ∷ ws) i d e h = absurd (omega arith)
get_or-listed (n ∷ ns) [] i d e h = absurd (omega arith)
get_or-listed (n ∷ ns) (w ∷ ws) zero d e h = refl
get_or-listed (n ∷ ns) (w ∷ ws) (suc i) d e h = get_or-listed ns ws i d (omega arith) (omega arith)

-- the number of the node of a weight
abbrev pub number_of : Numbers → ℕ → ℕ
number_of All i = i
number_of (Listed ns) i = get_or ns.items i 0

pub weighed_at : (numbers : Numbers) (ws : List ℤ) (i : ℕ) (d : Entry) → AreNumbers numbers ws
    → i < length ws → get_or (weighed_nodes numbers ws) i d
    ≡ record { first = number_of numbers i; second = number_of numbers i; weight = get_or ws i (pos 0) }
weighed_at numbers ws i d a h = grind (arith, nat_tests, ints, get_or-node_entries, get_or-listed)

-- one entry, and those after it
pub next_weighed : (numbers : Numbers) (ws : List ℤ) (i node : ℕ) → AreNumbers numbers ws
    → i < length ws → node ≡ number_of numbers i → drop i (weighed_nodes numbers ws)
    ≡ record { first = node; second = node; weight = get_or ws i (pos 0) }
    ∷ drop (i + 1) (weighed_nodes numbers ws)
next_weighed numbers ws i node a h e =
    let d : Entry = record { first = 0; second = 0; weight = pos 0 } in
    let es = weighed_nodes numbers ws in
    grind (arith, nat_tests, ints, drop_more es i d, length-weighed numbers ws a, weighed_at numbers ws i d a h)

-- past the last weight, none are left
pub none_left : (numbers : Numbers) (ws : List ℤ) (i : ℕ) → AreNumbers numbers ws → length ws ≤ i
    → drop i (weighed_nodes numbers ws) ≡ []
none_left numbers ws i a h = drop_all i (weighed_nodes numbers ws) (omega (arith, length-weighed numbers ws a, h))
