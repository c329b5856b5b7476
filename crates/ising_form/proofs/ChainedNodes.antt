-- The entries of nodes on chains, beside those of all nodes.
use Rattle.std.proofs.lemmas.List.Folds.{list_any-append}
use Rattle.ising_form.proofs.Common.{cases_lt, cases_Bool, nat_tests, ◌≡◌, inl, inr, ℕ, suc, ◌+◌, ◌<◌, ◌≤◌, ◌==◌, Bool, true, false, cond, ◌&&◌, ℤ, pos, unsigned_abs, List, [], ◌∷◌, ◌++◌, length, length-append, length-set, length-take-le, append-nil, take, take_more_set, get_or, get_or-set_other, set, All, refl, sym, ap, ◌∙◌, arith, AllByRecursion, filter, list_any, slice_index_or, IsStrictlySortedBy, ints, sum_by-cons, recursion_from_All, total_by, Entry, spins_energy, entry_cmp, has_node, is_chained, weight_total, listed_entries, node_entries, IsCoupler, node_entries_more, is_marked, is_on_chain, energy_of_node, cases_eq, leb, ltb}
use Rattle.std.specs.declared.cmp.Ordering.TheVariants.{Less}

-- ---- some of a list, and then another list

pub AllRec-filter : {X : Type 0} (P : X → Type 0) (p : X → Bool) (xs cs : List X)
    → AllByRecursion P (xs ++ cs) → AllByRecursion P (filter p xs ++ cs)
AllRec-filter P p [] cs all = all
AllRec-filter P p (x ∷ xs) cs all = grind (arith, nat_tests, AllRec-filter P p xs cs all.1)

pub sorted-filter : (p : Entry → Bool) (xs cs : List Entry)
    → IsStrictlySortedBy entry_cmp (xs ++ cs) → IsStrictlySortedBy entry_cmp (filter p xs ++ cs)
unfolding IsStrictlySortedBy
sorted-filter p [] cs sorted = sorted
sorted-filter p (x ∷ xs) cs sorted =
    let before = AllRec-filter (λ e. entry_cmp x e ≡ Less) p xs cs sorted.0 in
    let rest = sorted-filter p xs cs sorted.1 in grind (arith, before, rest)

-- ---- which nodes have entries

abbrev is_of : ℕ → Entry → Bool
is_of q e = (e.first == q) && (e.second == q)

no_coupler_is_node : (q : ℕ) (n : ℕ) (cs : List Entry) → AllByRecursion (IsCoupler n) cs
    → list_any (is_of q) cs ≡ false
no_coupler_is_node q n [] all = refl
no_coupler_is_node q n (c ∷ cs) all = grind (arith, nat_tests, no_coupler_is_node q n cs all.1)

-- nodes from n on that are on chains have entries, and no others
chained_from : (chains : List (List ℕ)) (q n : ℕ) (ws : List ℤ)
    → list_any (is_of q) (filter (is_on_chain chains) (node_entries n ws))
    ≡ (is_chained chains q && (leb n q && ltb q (n + length ws)))
chained_from chains q n [] = grind (arith, nat_tests)
chained_from chains q n (w ∷ ws) =
    let cases = cases_eq n q in
    let rest = chained_from chains q (suc n) ws in grind (arith, nat_tests)

not_in_chain : (n q : ℕ) (chain : List ℕ) → n ≤ q → AllByRecursion (λ p. p < n) chain
    → list_any (λ p. p == q) chain ≡ false
not_in_chain n q [] high all = refl
not_in_chain n q (p ∷ chain) high all = grind (arith, nat_tests, not_in_chain n q chain high all.1)

not_chained : (n q : ℕ) (chains : List (List ℕ)) → n ≤ q
    → AllByRecursion (λ chain. All (λ p. p < n) chain) chains → is_chained chains q ≡ false
not_chained n q [] high all = refl
not_chained n q (chain ∷ chains) high all =
    grind (arith, nat_tests, not_chained n q chains high all.1, not_in_chain, recursion_from_All)

-- exactly the nodes on chains have entries
pub chained_listed : (chains : List (List ℕ)) (ws : List ℤ) (cs : List Entry)
    → All (λ chain. All (λ q. q < length ws) chain) chains → All (IsCoupler (length ws)) cs
    → (q : ℕ)
    → has_node (filter (is_on_chain chains) (node_entries 0 ws) ++ cs) q ≡ is_chained chains q
chained_listed chains ws cs placed couplers q =
    let nodes = filter (is_on_chain chains) (node_entries 0 ws) in
    let both = list_any-append (is_of q) nodes cs in
    let none = no_coupler_is_node q (length ws) cs (recursion_from_All _ cs couplers) in
    let own = chained_from chains q 0 ws in
    elim (cases_lt q (length ws)) [
      | inl low ↦ grind (arith, nat_tests)
      | inr high ↦
          let out = not_chained (length ws) q chains high (recursion_from_All _ chains placed) in
          grind (arith, nat_tests)
    ]

-- ---- what the others add

-- the nodes from n on that are on no chain have no field
abbrev pub AreUnchained : List (List ℕ) → ℕ → List ℤ → Type 0
AreUnchained chains n ws =
    (k : ℕ) → is_chained chains (n + k) ≡ false → slice_index_or ws k (pos 0) ≡ pos 0

unchained-rest : (chains : List (List ℕ)) (n : ℕ) (w : ℤ) (ws : List ℤ)
    → AreUnchained chains n (w ∷ ws) → AreUnchained chains (suc n) ws
unchained-rest chains n w ws none k not = let later = none (suc k) in grind (arith, nat_tests)

unchained-first : (chains : List (List ℕ)) (n : ℕ) (w : ℤ) (ws : List ℤ)
    → AreUnchained chains n (w ∷ ws) → is_chained chains n ≡ false → w ≡ pos 0
unchained-first chains n w ws none not = let first = none 0 in grind (arith, nat_tests)

pub chained_energy : (y : List Bool) (chains : List (List ℕ)) (n : ℕ) (ws : List ℤ)
    → AreUnchained chains n ws
    → total_by (spins_energy y) (filter (is_on_chain chains) (node_entries n ws))
    ≡ total_by (spins_energy y) (node_entries n ws)
chained_energy y chains n [] none = refl
chained_energy y chains n (w ∷ ws) none =
    let rest = chained_energy y chains (suc n) ws (unchained-rest chains n w ws none) in
    let zero = unchained-first chains n w ws none in
    let own = energy_of_node y n w in grind (arith, ints, rest, zero, own)

-- what holds of 0 and of the weights of chained nodes holds of all
pub all_from_chained : (P : ℤ → Type 0) (chains : List (List ℕ)) (n : ℕ) (ws : List ℤ) (cs : List Entry)
    → P (pos 0) → AreUnchained chains n ws
    → AllByRecursion (λ e. P e.weight) (filter (is_on_chain chains) (node_entries n ws) ++ cs)
    → AllByRecursion (λ e. P e.weight) (node_entries n ws ++ cs)
all_from_chained P chains n [] cs of_zero none all = all
all_from_chained P chains n (w ∷ ws) cs of_zero none all =
    let more = all_from_chained P chains (suc n) ws cs of_zero (unchained-rest chains n w ws none) in
    elim (cases_Bool (is_chained chains n)) [
      | inl is ↦ let own = rw is at all in (own.0, more own.1)
      | inr is ↦ (rw (unchained-first chains n w ws none is) of_zero, more (rw is at all))
    ]

-- ---- sizes

pub chained_total : (p : Entry → Bool) (xs cs : List Entry)
    → weight_total (filter p xs ++ cs) ≤ weight_total (xs ++ cs)
chained_total p [] cs = omega arith
chained_total p (x ∷ xs) cs =
    let size = λ (e : Entry). unsigned_abs e.weight in
    grind (arith, chained_total p xs cs, sum_by-cons size x (filter p xs ++ cs), sum_by-cons size x (xs ++ cs))

-- ---- one more node

filter_push : (p : Entry → Bool) (xs : List Entry) (x : Entry)
    → filter p (xs ++ x ∷ []) ≡ filter p xs ++ cond (p x) (x ∷ []) []
filter_push p [] x = refl
filter_push p (y ∷ ys) x = grind (arith, nat_tests, filter_push p ys x)

-- a node that is marked has an entry, and one that is not marked has none
marked_more : (marks : List Bool) (ws : List ℤ) (i : ℕ) (d : ℤ) → i < length ws
    → filter (is_marked marks) (node_entries 0 (take (i + 1) ws))
    ≡ filter (is_marked marks) (node_entries 0 (take i ws))
    ++ cond (slice_index_or marks i false) (record { first = i; second = i; weight = get_or ws i d } ∷ []) []
marked_more marks ws i d h =
    ap (filter (is_marked marks)) (node_entries_more ws i d h)
    ∙ filter_push (is_marked marks) (node_entries 0 (take i ws))
    (record { first = i; second = i; weight = get_or ws i d })

-- one node more is listed
listed_push : (ns : List ℕ) (ws : List ℤ) (n : ℕ) (w : ℤ) → length ns ≡ length ws
    → listed_entries (ns ++ n ∷ []) (ws ++ w ∷ [])
    ≡ listed_entries ns ws ++ record { first = n; second = n; weight = w } ∷ []
listed_push [] [] n w h = refl
listed_push [] (v ∷ ws) n w h = absurd (omega arith)
listed_push (m ∷ ns) [] n w h = absurd (omega arith)
listed_push (m ∷ ns) (v ∷ ws) n w h =
    ap (λ es. record { first = m; second = m; weight = v } ∷ es) (listed_push ns ws n w (omega arith))

-- ---- fields that are moved together

-- the marked nodes below i are listed, with their fields in front, and the fields from i on stand
-- where they stood
pub record AreKept (marks : List Bool) (ws : List ℤ) (i : ℕ) (ns : List ℕ) (xs : List ℤ) : Type 0 where
  pub few : length ns ≤ i
  pub same : length xs ≡ length ws
  pub listed : listed_entries ns (take (length ns) xs) ≡ filter (is_marked marks) (node_entries 0 (take i ws))
  pub later : (j : ℕ) → i ≤ j → get_or xs j (pos 0) ≡ get_or ws j (pos 0)

pub kept_more : (marks : List Bool) (ws : List ℤ) (i : ℕ) (ns : List ℕ) (xs : List ℤ) → i < length ws
    → slice_index_or marks i false ≡ true → AreKept marks ws i ns xs
    → AreKept marks ws (i + 1) (ns ++ i ∷ []) (set xs (length ns) (get_or xs i (pos 0)))
kept_more marks ws i ns xs below is kept =
    let k = length ns in
    let long : length (ns ++ i ∷ []) ≡ k + 1 = omega (arith, length-append {A = ℕ}) in
    let inside : k < length xs = omega (arith, kept.few, below, kept.same) in
    record {
      few = omega (arith, long, kept.few);
      same = length-set xs k _ ∙ kept.same;
      listed = rw (long, take_more_set xs k (get_or xs i (pos 0)) inside, kept.later i (omega arith))
          (listed_push ns (take k xs) i (get_or ws i (pos 0)) (sym (length-take-le k xs (omega (arith, inside))))
          ∙ ap (λ es. es ++ record { first = i; second = i; weight = get_or ws i (pos 0) } ∷ []) kept.listed
          ∙ sym (marked_more marks ws i (pos 0) below ∙ rw is refl));
      later = λ j high. get_or-set_other xs k j _ (pos 0) (λ e. omega (arith, e, high, kept.few))
          ∙ kept.later j (omega (arith, high));
    }

pub kept_less : (marks : List Bool) (ws : List ℤ) (i : ℕ) (ns : List ℕ) (xs : List ℤ) → i < length ws
    → slice_index_or marks i false ≡ false → AreKept marks ws i ns xs → AreKept marks ws (i + 1) ns xs
kept_less marks ws i ns xs below isnt kept = record {
  few = omega (arith, kept.few);
  same = kept.same;
  listed = kept.listed ∙ sym (marked_more marks ws i (pos 0) below ∙ rw isnt (append-nil _));
  later = λ j high. kept.later j (omega (arith, high));
}
