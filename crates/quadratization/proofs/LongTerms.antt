-- What a term of at most two literals gives, where it stands for a part of a long one.
use Rattle.quadratization.proofs.Common.{◌≡◌, ℕ, ◌&&◌, eqb, arith, [], ◌∷◌, ℤ, pos, ints, if_so, Literal, node, weight_for, signed, pair_coupler, share_at, short_constant-is, short_couplers-are, short_shares-are, cases_Bool, complements-cons, ◌⊎◌, inl, inr, zero, suc, ◌+◌, ◌-◌, ◌*◌, ◌≤◌, Bool, true, false, cond, int_lt, sym, ap, ◌∙◌, refl, List, ◌++◌, map, length, ◌+ℤ◌, ◌-ℤ◌, ◌*ℤ◌, neg_ℤ, if◌then◌else◌, flat_map, nat_tests, total_by, multiply_out, integers, times-plus, total_by-append, total_by-map, total_by-same, total_by-plus, total_by-if_so, total_by_push, Term, if_so-plus, with_each, each_with, pair_terms, factor, node_terms, nodes_for, positive_terms, negative_terms, new_terms, pairs, pairs_is, factor_cases, weight_at, sum_for, complements, pairs_among, node_coupler, node_couplers, place_couplers, literal_share, node_shares, term_shares, long_constant, places_in, term_places, Amount, given}
use Rattle.quadratization.proofs.Apart.{share_of, sum_for-given}

pub constant-two : (l k : Literal) (c : ℤ)
    → share_of [] (l ∷ k ∷ []) c ≡ if_so (l.negated && k.negated) c
constant-two l k c = short_constant-is (l ∷ k ∷ [], c) (omega arith)

pub share-one : (i : ℕ) (l : Literal) (c : ℤ)
    → share_of (node i ∷ []) (l ∷ []) c ≡ if_so (eqb i l.variable) (signed l c)
share-one i l c = omega (arith, ints, short_shares-are i (l ∷ [], c) (omega arith))

pub pair-one : (i j : ℕ) (l : Literal) (c : ℤ) → share_of (node i ∷ node j ∷ []) (l ∷ []) c ≡ pos 0
pair-one i j l c = short_couplers-are i j (l ∷ [], c) (omega arith)

pub pair-two : (i j : ℕ) (l k : Literal) (c : ℤ)
    → share_of (node i ∷ node j ∷ []) (l ∷ k ∷ []) c ≡ weight_for i j (pair_coupler l c k)
pair-two i j l k c = omega (arith, ints, short_couplers-are i j (l ∷ k ∷ [], c) (omega arith))

-- What stands for a long term, multiplied out: its constant, what it adds to each weight, and its
-- couplers.
--
-- With e complements, a pair of literals gives the constant where both are complements, and a
-- literal's variable once for each other complement. A new node is paired with all literals.

-- ---- sums and counts

given-append : (f : Amount) (ts us : List Term) → given f (ts ++ us) ≡ given f ts +ℤ given f us
given-append f ts us = total_by-append (λ (t : Term). f t.0 t.1) ts us

if_so-times : (t : Bool) (c : ℤ) (n : ℕ) → if_so t c *ℤ pos n ≡ if_so t (c *ℤ pos n)
if_so-times t c n = grind (arith, nat_tests, ints)

total-zero : {X : Type 0} (xs : List X) → total_by (λ (x : X). pos 0) xs ≡ pos 0
total-zero [] = refl
total-zero (x ∷ xs) = omega (arith, ints, total-zero xs)

-- a sum over terms of a literal and another
over_each_with : (f : Amount) (m : ℕ) (c : ℤ) (ls : List Literal) (g : Literal → ℤ)
    → ((l : Literal) → f (l ∷ node m ∷ []) c ≡ g l)
    → given f (each_with ls (node m) c) ≡ total_by g ls
over_each_with f m c ls g same = grind (arith, nat_tests, ints, total_by-map, total_by-same)

over_with_each : (f : Amount) (l : Literal) (c : ℤ) (ks : List Literal) (g : Literal → ℤ)
    → ((k : Literal) → f (l ∷ k ∷ []) c ≡ g k) → given f (with_each l c ks) ≡ total_by g ks
over_with_each f l c ks g same = grind (arith, nat_tests, ints, total_by-map, total_by-same)

-- ---- the constant

both : (a b : Bool) (c : ℤ) → if_so (a && b) c ≡ if_so b (if_so a c)
both a b c = grind (arith, nat_tests, ints)

constant-with_each : (l : Literal) (c : ℤ) (ks : List Literal)
    → given (share_of []) (with_each l c ks) ≡ if_so l.negated (c *ℤ pos (complements ks))
constant-with_each l c ks =
    over_with_each (share_of []) l c ks (λ (k : Literal). if_so k.negated (if_so l.negated c))
    (λ k. constant-two l k c ∙ both l.negated k.negated c)
    ∙ total_by-if_so (λ (k : Literal). k.negated) (if_so l.negated c) ks
    ∙ if_so-times l.negated c (complements ks)

constant-pair_terms : (ls : List Literal) (c : ℤ)
    → given (share_of []) (pair_terms ls c) ≡ c *ℤ pos (pairs (complements ls))
constant-pair_terms [] c = omega (arith, ints)
constant-pair_terms (l ∷ ls) c =
    let e = complements ls in
    let here = constant-with_each l c ls in
    let rest = constant-pair_terms ls c in
    rw (complements-cons l ls) (simp total_by-append (elim (cases_Bool l.negated) [
      | inl is ↦
          let one : 1 + e ≡ suc e = omega arith in
          rw (is, one) (omega (arith, ints, rw is at here, rest, times-plus c (pos e) (pos (pairs e))))
      | inr is ↦ let none : 0 + e ≡ e = omega arith in rw (is, none) (omega (arith, ints, rw is at here, rest))
    ]))

constant-each_with : (ls : List Literal) (m : ℕ) (c : ℤ)
    → given (share_of []) (each_with ls (node m) c) ≡ pos 0
constant-each_with ls m c =
    over_each_with (share_of []) m c ls (λ (l : Literal). pos 0) (λ l. grind (arith, constant-two l (node m) c))
    ∙ total-zero ls

constant-node_terms : (ls : List Literal) (c : ℤ) (n k : ℕ)
    → given (share_of []) (node_terms ls c n k) ≡ pos 0
constant-node_terms ls c n zero = refl
constant-node_terms ls c n (suc k) =
    grind (arith, nat_tests, ints, constant-node_terms ls c n k, given-append, share_of, constant-each_with)

pairs_among-is : (n : ℕ) → pairs n ≡ pairs_among n
pairs_among-is zero = refl
pairs_among-is (suc n) = grind (arith, nat_tests, pairs, pairs_is)

-- ---- the weights of nodes

share-pair : (i : ℕ) (l k : Literal) (c : ℤ) → share_of (node i ∷ []) (l ∷ k ∷ []) c
    ≡ if_so k.negated (if_so (eqb i l.variable) (signed l c))
    +ℤ if_so l.negated (if_so (eqb i k.variable) (signed k c))
share-pair i l k c = grind (arith, nat_tests, ints)

-- what each literal's variable gets once for each complement of the literals after it
abbrev own : ℕ → ℤ → Literal → ℤ
own i c l = if_so (eqb i l.variable) (signed l c)

share-with_each : (i : ℕ) (l : Literal) (c : ℤ) (ks : List Literal)
    → given (share_of (node i ∷ [])) (with_each l c ks)
    ≡ own i c l *ℤ pos (complements ks) +ℤ if_so l.negated (total_by (own i c) ks)
share-with_each i l c ks =
    let sum = total_by-plus (λ (k : Literal). if_so k.negated (own i c l)) (λ (k : Literal). if_so l.negated (own i c k)) ks in
    let under : total_by (λ (k : Literal). if_so l.negated (own i c k)) ks ≡ if_so l.negated (total_by (own i c) ks) =
    grind (arith, total-zero ks) in
    over_with_each (share_of (node i ∷ [])) l c ks
    (λ (k : Literal). if_so k.negated (own i c l) +ℤ if_so l.negated (own i c k)) (λ k. share-pair i l k c)
    ∙ omega (arith, ints, sum, total_by-if_so (λ (k : Literal). k.negated) (own i c l) ks, under)

-- what a literal's variable gets with e complements in all
abbrev amount : ℕ → ℤ → Literal → ℤ
amount e c l = signed l (c *ℤ pos e) +ℤ if_so l.negated c

abbrev amount_at : ℕ → ℕ → ℤ → Literal → ℤ
amount_at i e c l = if_so (eqb i l.variable) (amount e c l)

-- one complement more
amount-more : (i e : ℕ) (c : ℤ) (l : Literal)
    → amount_at i (1 + e) c l ≡ amount_at i e c l +ℤ own i c l
amount-more i e c l = grind (arith, nat_tests, ints)

amounts-more : (i e : ℕ) (c : ℤ) (n : Bool) (ls : List Literal)
    → total_by (amount_at i (cond n 1 0 + e) c) ls
    ≡ total_by (amount_at i e c) ls +ℤ if_so n (total_by (own i c) ls)
amounts-more i e c true ls =
    total_by-same (amount_at i (1 + e) c) (λ (l : Literal). amount_at i e c l +ℤ own i c l) ls (amount-more i e c)
    ∙ total_by-plus (amount_at i e c) (own i c) ls
amounts-more i e c false ls = grind (arith, nat_tests, ints)

-- the literal itself does not count
amount-first : (i e : ℕ) (c : ℤ) (l : Literal)
    → amount_at i (cond l.negated 1 0 + e) c l ≡ own i c l *ℤ pos e
amount-first i e c l = grind (arith, nat_tests, ints)

share-pair_terms : (i : ℕ) (ls : List Literal) (c : ℤ)
    → given (share_of (node i ∷ [])) (pair_terms ls c) ≡ total_by (amount_at i (complements ls) c) ls
share-pair_terms i [] c = refl
share-pair_terms i (l ∷ ls) c =
    let e = complements ls in
    let whole = ap (λ k. total_by (amount_at i k c) (l ∷ ls)) (complements-cons l ls) in
    let both = given-append (share_of (node i ∷ [])) (with_each l c ls) (pair_terms ls c) in
    omega (arith, ints, both, share-with_each i l c ls, share-pair_terms i ls c, whole, amount-first i e c l, amounts-more i e c l.negated ls)

-- in the closed form a complement counts one less
amount-closed : (i e : ℕ) (c : ℤ) (l : Literal) → cond l.negated 1 0 ≤ e
    → amount_at i e c l ≡ share_at i (literal_share e c l ∷ [])
amount-closed i e c l some = grind (arith, nat_tests, ints)

amounts-closed : (i e : ℕ) (c : ℤ) (ls : List Literal) → complements ls ≤ e
    → total_by (amount_at i e c) ls ≡ share_at i (map (literal_share e c) ls)
amounts-closed i e c [] some = refl
amounts-closed i e c (l ∷ ls) some =
    let count = complements-cons l ls in
    omega (arith, ints, amount-closed i e c l (omega (arith, count)), amounts-closed i e c ls (omega (arith, count)))

-- a new node gets as much from each complement
share-each_with : (i m : ℕ) (c : ℤ) (ls : List Literal)
    → given (share_of (node i ∷ [])) (each_with ls (node m) c)
    ≡ if_so (eqb i m) (c *ℤ pos (complements ls))
share-each_with i m c ls =
    over_each_with (share_of (node i ∷ [])) m c ls
    (λ (l : Literal). if_so l.negated (if_so (eqb i m) c)) (λ l. omega (arith, ints, share-pair i l (node m) c))
    ∙ total_by-if_so (λ (l : Literal). l.negated) (if_so (eqb i m) c) ls
    ∙ if_so-times (eqb i m) c (complements ls)

node-closed : (c : ℤ) (f k e : ℕ) → (f ≡ 1) ⊎ (f ≡ 2)
    → c *ℤ pos (f * (2 * k + 2) - 1) +ℤ neg_ℤ (c *ℤ pos f) *ℤ pos e
    ≡ c *ℤ (pos f *ℤ (pos (2 * k + 2) -ℤ pos e) -ℤ pos 1)
node-closed c f k e (inl one) =
    let value : pos (1 * (2 * k + 2) - 1) ≡ pos (2 * k + 2) -ℤ pos 1 = omega (arith, ints) in
    rw (one, value) (simp multiply_out (omega (arith, integers)))
node-closed c f k e (inr two) =
    let value : pos (2 * (2 * k + 2) - 1) ≡ pos 2 *ℤ pos (2 * k + 2) -ℤ pos 1 = omega (arith, ints) in
    rw (two, value) (simp multiply_out (omega (arith, integers)))

share-node_terms : (i : ℕ) (ls : List Literal) (c : ℤ) (n k : ℕ)
    → given (share_of (node i ∷ [])) (node_terms ls c n k)
    ≡ share_at i (node_shares (length ls) (complements ls) c n k)
share-node_terms i ls c n zero = refl
share-node_terms i ls c n (suc k) =
    let e = complements ls in
    let f = factor (length ls) k in
    let x = c *ℤ pos (f * (2 * k + 2) - 1) in
    let y = neg_ℤ (c *ℤ pos f) in
    let joined = sym (if_so-plus (eqb i (n + k)) x (y *ℤ pos e)) ∙ ap (if_so (eqb i (n + k))) (node-closed c f k e (factor_cases (length ls) k)) in
    simp total_by-append
    (omega (arith, ints, share-node_terms i ls c n k, share-one i (node (n + k)) x, share-each_with i (n + k) y ls, joined))

negative-closed : (c : ℤ) (d e : ℕ) → 1 ≤ d
    → neg_ℤ (c *ℤ pos (d - 1)) +ℤ c *ℤ pos e ≡ c *ℤ (pos (e + 1) -ℤ pos d)
negative-closed c d e some =
    let value : pos (e + 1) -ℤ pos d ≡ pos e -ℤ pos (d - 1) = omega (arith, ints) in
    rw value (simp multiply_out (omega (arith, integers)))

share-negative_terms : (i : ℕ) (ls : List Literal) (c : ℤ) (n : ℕ) → 1 ≤ length ls
    → given (share_of (node i ∷ [])) (negative_terms ls c n)
    ≡ share_at i ((n, c *ℤ (pos (complements ls + 1) -ℤ pos (length ls))) ∷ [])
share-negative_terms i ls c n some =
    grind (arith, nat_tests, ints, if_so-plus, negative-closed, share-one, share-each_with)

-- ---- the couplers

couplers-each_with : (i j m : ℕ) (c : ℤ) (ls : List Literal)
    → given (share_of (node i ∷ node j ∷ [])) (each_with ls (node m) c)
    ≡ total_by (λ (l : Literal). weight_for i j (node_coupler l c m)) ls
couplers-each_with i j m c ls =
    over_each_with (share_of (node i ∷ node j ∷ [])) m c ls
    (λ (l : Literal). weight_for i j (node_coupler l c m)) (λ l. pair-two i j l (node m) c)

-- the couplers of a literal with the first k new nodes
abbrev nodes_weight : ℕ → ℕ → ℕ → ℤ → ℕ → ℕ → Literal → ℤ
nodes_weight i j d c n k l = weight_at i j (node_couplers l d c n k)

couplers-node_terms : (i j : ℕ) (ls : List Literal) (c : ℤ) (n k : ℕ)
    → given (share_of (node i ∷ node j ∷ [])) (node_terms ls c n k)
    ≡ total_by (nodes_weight i j (length ls) c n k) ls
couplers-node_terms i j ls c n zero = sym (total-zero ls)
couplers-node_terms i j ls c n (suc k) =
    let d = length ls in
    let y = neg_ℤ (c *ℤ pos (factor d k)) in
    let own_node = λ (l : Literal). weight_for i j (node_coupler l y (n + k)) in
    let more : total_by (nodes_weight i j d c n (suc k)) ls
    ≡ total_by (nodes_weight i j d c n k) ls +ℤ total_by own_node ls =
    total_by-same (nodes_weight i j d c n (suc k)) (λ (l : Literal). nodes_weight i j d c n k l +ℤ own_node l) ls
    (λ l. total_by_push (weight_for i j) (node_couplers l d c n k) (node_coupler l y (n + k)))
    ∙ total_by-plus (nodes_weight i j d c n k) own_node ls in
    let one = pair-one i j (node (n + k)) (c *ℤ pos (factor d k * (2 * k + 2) - 1)) in
    simp total_by-append (omega (arith, ints, couplers-node_terms i j ls c n k, one, couplers-each_with i j (n + k) y ls, more))

couplers-with_each : (i j : ℕ) (l : Literal) (c : ℤ) (ks : List Literal)
    → given (share_of (node i ∷ node j ∷ [])) (with_each l c ks)
    ≡ weight_at i j (map (pair_coupler l c) ks)
couplers-with_each i j l c ks =
    grind (arith, nat_tests, ints, over_with_each, share_of, pair-two, total_by-map)

-- the places of a positive term have its pairs, and each literal with all nodes
places-positive : (i j d : ℕ) (c : ℤ) (n : ℕ) (ls : List Literal) → int_lt c (pos 0) ≡ false
    → weight_at i j (flat_map place_couplers (places_in ls d c n))
    ≡ given (share_of (node i ∷ node j ∷ [])) (pair_terms ls c)
    +ℤ total_by (nodes_weight i j d c n (nodes_for d)) ls
places-positive i j d c n [] sign = refl
places-positive i j d c n (l ∷ ls) sign =
    simp (sign, total_by-append) (omega (arith, ints, places-positive i j d c n ls sign, couplers-with_each i j l c ls))

-- those of a negative one each literal with its node
places-negative : (i j d : ℕ) (c : ℤ) (n : ℕ) (ls : List Literal) → int_lt c (pos 0) ≡ true
    → weight_at i j (flat_map place_couplers (places_in ls d c n))
    ≡ total_by (λ (l : Literal). weight_for i j (node_coupler l c n)) ls
places-negative i j d c n [] sign = refl
places-negative i j d c n (l ∷ ls) sign =
    grind (arith, nat_tests, ints, places-negative i j d c n ls sign)

-- ---- what stands for a long term

new_terms-long : (t : Term) (n : ℕ) → 3 ≤ length t.0 → new_terms t n
    ≡ (if int_lt t.1 (pos 0) then negative_terms t.0 t.1 n else positive_terms t.0 t.1 n)
new_terms-long t n long = grind (arith, nat_tests)

given-long : (ls : List Literal) (t : Term) (n : ℕ) → 3 ≤ length t.0
    → sum_for ls (new_terms t n) ≡ given (share_of ls)
    (if int_lt t.1 (pos 0) then negative_terms t.0 t.1 n else positive_terms t.0 t.1 n)
given-long ls t n long = grind (arith, nat_tests, sum_for-given, given, share_of, new_terms-long)

pub constants_close : (t : Term) (n : ℕ) → 3 ≤ length t.0
    → sum_for [] (new_terms t n) ≡ long_constant t
constants_close t n long =
    let nodes = constant-node_terms t.0 t.1 n (nodes_for (length t.0)) in
    let both = given-append (share_of []) (pair_terms t.0 t.1) (node_terms t.0 t.1 n (nodes_for (length t.0))) in
    let same = ap (λ k. t.1 *ℤ pos k) (pairs_among-is (complements t.0)) in
    rw (given-long [] t n long) (grind (arith, ints, constant-each_with t.0 n t.1, constant-pair_terms t.0 t.1, nodes, both, same))

pub shares_close : (t : Term) (n i : ℕ) → 3 ≤ length t.0
    → sum_for (node i ∷ []) (new_terms t n) ≡ share_at i (term_shares t n)
shares_close t n i long =
    let d = length t.0 in
    let e = complements t.0 in
    let closed = amounts-closed i e t.1 t.0 (omega arith) in
    let nodes = share-node_terms i t.0 t.1 n (nodes_for d) in
    rw (given-long (node i ∷ []) t n long) (elim (cases_Bool (int_lt t.1 (pos 0))) [
      | inl sign ↦ rw sign (share-negative_terms i t.0 t.1 n (omega (arith, long)))
      | inr sign ↦ rw sign (simp total_by-append (omega (arith, ints, share-pair_terms i t.0 t.1, closed, nodes)))
    ])

pub couplers_close : (t : Term) (n i j : ℕ) → 3 ≤ length t.0
    → sum_for (node i ∷ node j ∷ []) (new_terms t n)
    ≡ weight_at i j (flat_map place_couplers (term_places t n))
couplers_close t n i j long =
    let d = length t.0 in
    rw (given-long (node i ∷ node j ∷ []) t n long) (elim (cases_Bool (int_lt t.1 (pos 0))) [
      | inl sign ↦
          let one = pair-one i j (node n) (neg_ℤ (t.1 *ℤ pos (d - 1))) in
          rw sign (omega (arith, ints, one, couplers-each_with i j n t.1 t.0, places-negative i j d t.1 n t.0 sign))
      | inr sign ↦
          let nodes = couplers-node_terms i j t.0 t.1 n (nodes_for d) in
          rw sign (simp total_by-append (omega (arith, ints, nodes, places-positive i j d t.1 n t.0 sign)))
    ])
