-- The table of keys: where the word of a key is cut, and what holds of each row.
use Rattle.command_words.proofs.Common.{nat_tests, arith, ◌≡◌, ◌≢◌, ◌<◌, ◌≤◌, ◌+◌, ◌^◌, ℕ, suc, List, [], ◌∷◌, ◌++◌, length, take, drop, Bool, true, false, not, Option, Some, None, Ok, Err, refl, ap, sym, subst, ◌∙◌, ⊤, codes, bytes_eq, bytes_eq-Decides, if◌then◌else◌, option_map, option_map_or, option_and_then, cond, nat_lt, is_none, ◌&&◌, prefix_len, length-append, lt-ltb, le-leb, eqb-true, take-append_seam, drop-append-add, digits_number, Bound, Chaining, ChainStrength, Takers, TargetWord, Verb, Keys, Key, bound_of, cut, embed_of, is_equals, file_of, key, key_table, keys_from, listed, map_named, side_of, takes, with_key, with_pair, with_word, EachKeyStands, EachValueIsSaid, NoChainsStandTwice, key_word, ties_word, Clique, Map}
use Rattle.command_words.specs.declared.commands.TargetWord.TheVariants.{Chimera, Graph}
use Rattle.command_words.specs.declared.keys.Takers.TheVariants.{OnChimera, OnQubits}

-- ---- where the word of a key is cut

-- a byte that is no `=`
abbrev is_plain : ℕ → Bool
is_plain byte = not (is_equals byte)

-- no byte of a name is `=`
place : (name value : List ℕ) → prefix_len is_plain name ≡ length name
    → prefix_len is_plain (name ++ 61 ∷ value) ≡ length name
place [] value plain = refl
place (c ∷ name) value plain = grind (arith, nat_tests, place name value)

-- a place within a list
within : (p i n : ℕ) → p ≡ i → i < n → cond (nat_lt p n) (Some p) None ≡ Some i
within p i n e less = rw (e, lt-ltb i n less) refl

-- what stands before an index and behind it
abbrev parts_at : List ℕ → ℕ → List ℕ × List ℕ
parts_at word i = (take i word, drop (i + 1) word)

-- such a name stands before the first `=`
pub cut_key : (name value : List ℕ) → prefix_len is_plain name ≡ length name
    → cut (key_word name value) ≡ Some (name, value)
cut_key name value plain =
    let word = name ++ 61 ∷ value in
    let long = length-append name (61 ∷ value) in
    let parts : parts_at word (length name) ≡ (name, value) =
    rw (take-append_seam name (61 ∷ value), drop-append-add name (61 ∷ value) 1) refl in
    let found = within (prefix_len is_plain word) (length name) (length word)
    (place name value plain) (omega (arith, long)) in
    ap (option_map (parts_at word)) found ∙ ap Some parts

-- two texts that are not the same are told apart
pub differs : (xs ys : List ℕ) → xs ≢ ys → bytes_eq xs ys ≡ false
differs xs ys other = go (bytes_eq xs ys) refl
  where
    go : (same : Bool) → bytes_eq xs ys ≡ same → same ≡ false
    go true e = absurd (other ((bytes_eq-Decides xs ys).0 e))
    go false e = refl

-- ---- what holds of each row of a table

Each : {A : Type 0} → (List ℕ → A → Type 0) → List (List ℕ × A) → Type 0
Each P [] = ⊤
Each P (row ∷ rows) = P row.0 row.1 × Each P rows

-- it holds of what the table has beside a word
listed-has : {A : Type 0} (P : List ℕ → A → Type 0) (rows : List (List ℕ × A)) (word : List ℕ) (x : A)
    → Each P rows → listed rows word ≡ Some x → P word x
unfolding Each
listed-has P [] word x each e = absurd cc
listed-has {A} P (row ∷ rows) word x each e =
    go (λ f. listed-has P rows word x each.1 f) (bytes_eq word row.0) refl e
  where
    go : (listed rows word ≡ Some x → P word x) → (same : Bool) → bytes_eq word row.0 ≡ same
        → (if same then Some row.1 else listed rows word) ≡ Some x → P word x
    go rest true is f =
        let value : row.1 ≡ x = cc in
        subst (λ w. P w x) (sym ((bytes_eq-Decides word row.0).0 is)) (subst (P row.0) value each.0)
    go rest false is f = rest f

-- chains that are not those of a clique
abbrev pub NoClique : Option Chaining → Type 0
NoClique (Some Clique) = ⊥
NoClique chains = ⊤

-- What holds of each key: its word is cut behind its name, it is given with each value, and on a
-- graph in a file it chooses no clique.
record IsRow (name : List ℕ) (key : Key) : Type 0 where
  cuts : (value : List ℕ) → cut (key_word name value) ≡ Some (name, value)
  is_given : (keys : Keys) (value : List ℕ) (put : Keys → Keys)
      → key.put value ≡ Some put → key.is_free (put keys) ≡ false
  chains : (verb : Verb) (keys : Keys) (value : List ℕ) (put : Keys → Keys)
      → takes key.takers verb Graph ≡ true → key.put value ≡ Some put → NoClique keys.chains
      → NoClique (put keys).chains

-- a key with a value of its own that does not choose the chains
own : {A B : Type 0} {name : List ℕ} {who : Takers} (field : Keys → Option A)
    (value : List ℕ → Option B) (with : B → Keys → Keys) → prefix_len is_plain name ≡ length name
    → ((x : B) (keys : Keys) → is_none (field (with x keys)) ≡ false)
    → ((x : B) (keys : Keys) → (with x keys).chains ≡ keys.chains)
    → IsRow name (key who field value with)
own {A} {B} {name} {who} field value with plain has same = record {
  cuts = λ text. cut_key name text plain;
  is_given = λ keys text put e. given keys put (value text) e;
  chains = λ verb keys text put t e safe. chains keys put (value text) e safe;
} where
  given : (keys : Keys) (put : Keys → Keys) (o : Option B) → option_map with o ≡ Some put
      → is_none (field (put keys)) ≡ false
  given keys put None e = absurd cc
  given keys put (Some x) e =
      let one : with x ≡ put = cc in subst (λ p. is_none (field (p keys)) ≡ false) one (has x keys)

  chains : (keys : Keys) (put : Keys → Keys) (o : Option B) → option_map with o ≡ Some put
      → NoClique keys.chains → NoClique (put keys).chains
  chains keys put None e safe = absurd cc
  chains keys put (Some x) e safe =
      let one : with x ≡ put = cc in
      subst (λ p. NoClique (p keys).chains) one (subst NoClique (sym (same x keys)) safe)

-- the key of the chains of a clique is not taken on a graph in a file
embed : IsRow (codes "embed") (key OnChimera (λ k. k.chains) embed_of (λ x k. record k { chains = Some x }))
embed = record {
  cuts = λ text. cut_key (codes "embed") text refl;
  is_given = λ keys text put e. given keys put (embed_of text) e;
  chains = λ verb keys text put t e safe. absurd cc;
} where
  given : (keys : Keys) (put : Keys → Keys) (o : Option Chaining)
      → option_map (λ x (k : Keys). record k { chains = Some x }) o ≡ Some put
      → is_none (put keys).chains ≡ false
  given keys put None e = absurd cc
  given keys put (Some x) e =
      let one : (λ (k : Keys). record k { chains = Some x }) ≡ put = cc in
      subst (λ (p : Keys → Keys). is_none (p keys).chains ≡ false) one refl

-- that of a map chooses no clique
mapped : IsRow (codes "map") (key OnQubits (λ k. k.chains) map_named (λ x k. record k { chains = Some x }))
mapped = record {
  cuts = λ text. cut_key (codes "map") text refl;
  is_given = λ keys text put e.
      let one : (λ (k : Keys). record k { chains = Some (Map text) }) ≡ put = cc in
      subst (λ (p : Keys → Keys). is_none (p keys).chains ≡ false) one refl;
  chains = λ verb keys text put t e safe.
      let one : (λ (k : Keys). record k { chains = Some (Map text) }) ≡ put = cc in
      subst (λ (p : Keys → Keys). NoClique (p keys).chains) one tt;
}

and_rows : {A : Type 0} (P : List ℕ → A → Type 0) (first : List ℕ × A) (rows : List (List ℕ × A))
    → P first.0 first.1 → Each P rows → Each P (first ∷ rows)
unfolding Each
and_rows P first rows one rest = (one, rest)

no_rows : {A : Type 0} (P : List ℕ → A → Type 0) → Each P []
unfolding Each
no_rows P = tt

table : Each IsRow key_table
table =
    and_rows _ _ _ (own _ _ _ refl (λ x k. refl) (λ x k. refl))
    (and_rows _ _ _ (own _ _ _ refl (λ x k. refl) (λ x k. refl))
    (and_rows _ _ _ (own _ _ _ refl (λ x k. refl) (λ x k. refl))
    (and_rows _ _ _ (own _ _ _ refl (λ x k. refl) (λ x k. refl))
    (and_rows _ _ _ (own _ _ _ refl (λ x k. refl) (λ x k. refl))
    (and_rows _ _ _ (own _ _ _ refl (λ x k. refl) (λ x k. refl))
    (and_rows _ _ _ (own (λ k. k.order) file_of (λ x k. record k { order = Some x }) refl (λ x k. refl) (λ x k. refl))
    (and_rows _ _ _ (own _ _ _ refl (λ x k. refl) (λ x k. refl))
    (and_rows _ _ _ (own _ _ _ refl (λ x k. refl) (λ x k. refl))
    (and_rows _ _ _ (own _ _ _ refl (λ x k. refl) (λ x k. refl))
    (and_rows _ _ _ (own (λ k. k.dead) file_of (λ x k. record k { dead = Some x }) refl (λ x k. refl) (λ x k. refl))
    (and_rows _ _ _ embed
    (and_rows _ _ _ mapped
    (and_rows _ _ _ (own _ _ _ refl (λ x k. refl) (λ x k. refl))
    (and_rows _ _ _ (own (λ k. k.graph) file_of (λ x k. record k { graph = Some x }) refl (λ x k. refl) (λ x k. refl)) (no_rows IsRow)))))))))))))))

-- ---- each key stands once

-- a word goes by the row of its name
by_row : (verb : Verb) (target : TargetWord) (keys : Keys) (word name value : List ℕ)
    (key : Option Key) → cut word ≡ Some (name, value) → listed key_table name ≡ key
    → with_word verb target keys word
    ≡ option_and_then (with_key verb target keys value) key
by_row verb target keys word name value key c e =
    rw c (ap (option_and_then (with_key verb target keys value)) e)

not_both : (taken : Bool) (value : Option Keys) → (if taken && false then value else None) ≡ None
not_both true value = refl
not_both false value = refl

neither : {A : Type 0} (test : Bool) (value : Option A) → value ≡ None
    → (if test then value else None) ≡ None
neither true value e = e
neither false value e = refl

pub or_none : {A : Type 0} (test : Bool) (value : Option A) → value ≡ None
    → (if test then None else value) ≡ None
or_none true value e = refl
or_none false value e = e

pub each_key : EachKeyStands
each_key = record {
  each = λ name key e. let holds = listed-has IsRow key_table name key table e in record {
    stands = λ verb target keys value put t f p.
        by_row verb target keys (key_word name value) name value (Some key) (holds.cuts value) e ∙ rw (t, f, p) refl;
    is_given = holds.is_given;
    once = λ verb target keys f word value c.
        by_row verb target keys word name value (Some key) c e
        ∙ rw f (not_both (takes key.takers verb target) _);
    elsewhere = λ verb target keys t word value c.
        by_row verb target keys word name value (Some key) c e ∙ rw t refl;
    valued = λ verb target keys value p.
        by_row verb target keys (key_word name value) name value (Some key) (holds.cuts value) e
        ∙ neither (takes key.takers verb target && key.is_free keys) _ (rw p refl);
  };
  others = λ name none verb target keys word value c.
      by_row verb target keys word name value None c none;
}

pub no_chains_twice : NoChainsStandTwice
no_chains_twice = record {
  embed = λ verb target keys first given.
      (each_key.each (codes "embed") _ refl).once verb target keys (rw given refl);
  map = λ verb target keys first given.
      (each_key.each (codes "map") _ refl).once verb target keys (rw given refl);
}

-- ---- values

-- a number in digits is one of a graph from 1 to 2^20
pub side_of-digits : (value : List ℕ) (side : ℕ) → digits_number value ≡ Some side → 0 < side
    → side ≤ 2 ^ 20 → side_of value ≡ Some side
side_of-digits value side said some few = rw (said, lt-ltb 0 side some, le-leb side (2 ^ 20) few) refl

-- a `-` is no digit
minus_is_none : (cs : List ℕ) → digits_number (45 ∷ cs) ≡ None
unfolding digits_number
minus_is_none cs = rw (lt-ltb 0 (suc (length cs)) (omega arith)) refl

nothing_is_none : digits_number [] ≡ None
unfolding digits_number
nothing_is_none = refl

-- the bound of this size that is not negative
abbrev bound_with : ℕ → Bound
bound_with size = record { negative = false; size = size }

-- digits without a sign are a bound that is not negative
bound_of-digits : (value : List ℕ) (size : ℕ) → digits_number value ≡ Some size
    → bound_of value ≡ Some (bound_with size)
bound_of-digits value size said = grind (arith, nat_tests, nothing_is_none, eqb-true, minus_is_none)

pub each_value : EachValueIsSaid
each_value = record {
  normal = λ normal. grind (arith, nat_tests);
  high = λ high. grind (arith, nat_tests);
  unit = λ unit. grind (arith, nat_tests);
  bound = bound_of-digits;
  bound_below = λ value size said. rw said refl;
  slack = λ slack. grind (arith, nat_tests);
  penalty = λ scope. grind (arith, nat_tests);
  side = side_of-digits;
  clique = refl;
  ties = λ ties. grind (arith, nat_tests);
}

-- ---- keys of graphs

module _ (verb : Verb) (keys : Keys) where
  pub rows_stand : (value : List ℕ) (side : ℕ) → keys.rows ≡ None → side_of value ≡ Some side
      → with_word verb Chimera keys (key_word (codes "rows") value)
      ≡ Some (record keys { rows = Some side })
  rows_stand value side free said = rw (cut_key (codes "rows") value refl, free, said) refl

  pub cols_stand : (value : List ℕ) (side : ℕ) → keys.cols ≡ None → side_of value ≡ Some side
      → with_word verb Chimera keys (key_word (codes "cols") value)
      ≡ Some (record keys { cols = Some side })
  cols_stand value side free said = rw (cut_key (codes "cols") value refl, free, said) refl

  pub shore_stands : (value : List ℕ) (side : ℕ) → keys.shore ≡ None → side_of value ≡ Some side
      → with_word verb Chimera keys (key_word (codes "shore") value)
      ≡ Some (record keys { shore = Some side })
  shore_stands value side free said = rw (cut_key (codes "shore") value refl, free, said) refl

  pub clique_stands : keys.chains ≡ None → with_word verb Chimera keys (codes "embed=clique")
      ≡ Some (record keys { chains = Some Clique })
  clique_stands free = rw free refl

  pub dead_stands : (name : List ℕ) → keys.dead ≡ None
      → with_word verb Chimera keys (key_word (codes "dead") name)
      ≡ Some (record keys { dead = Some name })
  dead_stands name free = rw (cut_key (codes "dead") name refl, free) refl

  pub graph_stands : (name : List ℕ) → keys.graph ≡ None
      → with_word verb Graph keys (key_word (codes "graph") name)
      ≡ Some (record keys { graph = Some name })
  graph_stands name free = rw (cut_key (codes "graph") name refl, free) refl

  module _ (target : TargetWord) (taken : takes OnQubits verb target ≡ true) where
    pub map_stands : (name : List ℕ) → keys.chains ≡ None
        → with_word verb target keys (key_word (codes "map") name)
        ≡ Some (record keys { chains = Some (Map name) })
    map_stands name free = rw (cut_key (codes "map") name refl, taken, free) refl

    pub ties_stand : (ties : ChainStrength) → keys.ties ≡ None
        → with_word verb target keys (key_word (codes "chain") (ties_word ties))
        ≡ Some (record keys { ties = Some ties })
    ties_stand ties free =
        rw (cut_key (codes "chain") (ties_word ties) refl, taken, free, each_value.ties ties) refl

-- on a graph in a file no keys choose a clique
word_no_clique : (verb : Verb) (keys more : Keys) (word : List ℕ)
    → with_word verb Graph keys word ≡ Some more → NoClique keys.chains → NoClique more.chains
word_no_clique verb keys more word e safe = by_cut (cut word) e
  where
    by_put : (name value : List ℕ) (key : Key) → listed key_table name ≡ Some key → (taken : Bool)
        → takes key.takers verb Graph ≡ taken → (free : Bool) (o : Option (Keys → Keys))
        → key.put value ≡ o
        → (if taken && free then option_map (λ (put : Keys → Keys). put keys) o else None) ≡ Some more
        → NoClique more.chains
    by_put name value key is true t true (Some put) p f =
        let same : put keys ≡ more = cc in
        subst (λ k. NoClique k.chains) same
        ((listed-has IsRow key_table name key table is).chains verb keys value put t p safe)
    by_put name value key is taken t free o p f = absurd cc

    by_key : (name value : List ℕ) (o : Option Key) → listed key_table name ≡ o
        → option_and_then (with_key verb Graph keys value) o ≡ Some more → NoClique more.chains
    by_key name value None is f = absurd cc
    by_key name value (Some key) is f =
        by_put name value key is _ refl (key.is_free keys) (key.put value) refl f

    by_cut : (o : Option (List ℕ × List ℕ))
        → option_and_then (λ parts. with_pair verb Graph keys parts.0 parts.1) o ≡ Some more
        → NoClique more.chains
    by_cut None f = absurd cc
    by_cut (Some parts) f = by_key parts.0 parts.1 (listed key_table parts.0) refl f

pub no_clique : (verb : Verb) (keys more : Keys) (at : ℕ) (words : List (List ℕ))
    → keys_from verb Graph keys at words ≡ Ok more → NoClique keys.chains → NoClique more.chains
no_clique verb keys more at [] e safe = let same : keys ≡ more = cc in subst (λ k. NoClique k.chains) same safe
no_clique verb keys more at (word ∷ words) e safe =
    go (λ next kept f. no_clique verb next more (at + 1) words f kept) (with_word verb Graph keys word) refl e
  where
    go : ((next : Keys) → NoClique next.chains → keys_from verb Graph next (at + 1) words ≡ Ok more
        → NoClique more.chains) → (o : Option Keys) → with_word verb Graph keys word ≡ o
        → option_map_or (λ next. keys_from verb Graph next (at + 1) words) o (Err (at + 1)) ≡ Ok more
        → NoClique more.chains
    go rest None f g = absurd cc
    go rest (Some next) f g = rest next (word_no_clique verb keys next word f safe) g

-- a key is put once: keys with the value that it has are those that its row makes
pub put_once : {A : Type 0} (keys more : Keys) (given taken free : Bool) (said value once : Option A)
    (put : A → Keys → Keys) (x : A) → given ≡ taken → said ≡ value
    → once ≡ (if given && free then said else None) → once ≡ Some x → more ≡ put x keys
    → Some more ≡ (if taken && free then option_map (λ (f : Keys → Keys). f keys) (option_map put value)
    else None)
put_once keys more given taken free said value once put x t v o was same = grind (arith, nat_tests)
