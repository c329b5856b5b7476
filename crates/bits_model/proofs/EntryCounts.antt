-- How many entries are those of nodes, and how many are those of couplers.
use Rattle.bits_model.proofs.Common.{nat_tests, ◌≡◌, ℕ, ◌<◌, Bool, true, false, cond, count_by, List, [], ◌∷◌, ◌++◌, length, All, refl, ap, arith, AllByRecursion, eq-eqb, ne_eqb, lt-ltb, le-ltb, All-weaker, recursion_from_All, sum_by-cons, sum_by-append, Entry, is_node, is_coupler}

all_counted : (p : Entry → Bool) (es : List Entry) → AllByRecursion (λ e. p e ≡ true) es
    → count_by p es ≡ length es
all_counted p [] h = refl
all_counted p (e ∷ es) h =
    omega (arith, sum_by-cons, ap {B = ℕ} (λ b. cond b 1 0) h.0, all_counted p es h.1)

none_counted : (p : Entry → Bool) (es : List Entry) → AllByRecursion (λ e. p e ≡ false) es
    → count_by p es ≡ 0
none_counted p [] h = refl
none_counted p (e ∷ es) h = grind (arith, nat_tests, none_counted p es h.1)

-- the entry is that of a node
abbrev IsOfNode : Entry → Type 0
IsOfNode e = e.first ≡ e.second

-- the entry is that of a pair of nodes, the lesser first
abbrev IsOfPair : Entry → Type 0
IsOfPair e = e.first < e.second

node-counts : (e : Entry) → IsOfNode e → is_node e ≡ true
node-counts e same = eq-eqb e.first e.second same

pair-counts-not : (e : Entry) → IsOfPair e → is_node e ≡ false
pair-counts-not e less = ne_eqb e.first e.second (λ same. omega (arith, same, less))

pair-counts : (e : Entry) → IsOfPair e → is_coupler e ≡ true
pair-counts e less = lt-ltb e.first e.second less

node-counts-not : (e : Entry) → IsOfNode e → is_coupler e ≡ false
node-counts-not e same = le-ltb e.first e.second (omega (arith, same))

-- a fact of each entry, from one that says more
each : (P Q : Entry → Type 0) → ((e : Entry) → P e → Q e) → (es : List Entry) → All P es
    → AllByRecursion Q es
each P Q more es h = recursion_from_All Q es (All-weaker P Q more es h)

-- of nodes and then couplers, each is counted where it belongs
pub nodes_counted : (ns cs : List Entry) → All IsOfNode ns → All IsOfPair cs
    → count_by is_node (ns ++ cs) ≡ length ns
nodes_counted ns cs nodes couplers =
    omega (arith, sum_by-append, all_counted is_node ns (each IsOfNode (λ e. is_node e ≡ true) node-counts ns nodes), none_counted is_node cs (each IsOfPair (λ e. is_node e ≡ false) pair-counts-not cs couplers))

pub couplers_counted : (ns cs : List Entry) → All IsOfNode ns → All IsOfPair cs
    → count_by is_coupler (ns ++ cs) ≡ length cs
couplers_counted ns cs nodes couplers =
    omega (arith, sum_by-append, none_counted is_coupler ns (each IsOfNode (λ e. is_coupler e ≡ false) node-counts-not ns nodes), all_counted is_coupler cs (each IsOfPair (λ e. is_coupler e ≡ true) pair-counts cs couplers))
