-- The number of a name stays, however many names come after it.
use Rattle.poly_reader.proofs.Common.{nat_tests, ◌≡◌, ℕ, suc, ◌≤◌, Bool, true, false, ◌||◌, List, [], ◌∷◌, ◌++◌, length, map, refl, sym, ap, ◌∙◌, append-nil, append_assoc, arith, length-append, bytes_eq, if◌then◌else◌, list_any, AllByRecursion, or-true, bytes_eq-Decides, list_any-append, Named, with_name, names_after, number_of, literal_of}

-- the name is among these
abbrev pub has : List (List ℕ) → List ℕ → Bool
has names name = list_any (bytes_eq name) names

pub number_of-next : (n : List ℕ) (ns : List (List ℕ)) (name : List ℕ) → bytes_eq name n ≡ false
    → number_of (n ∷ ns) name ≡ suc (number_of ns name)
number_of-next n ns name e = rw e (omega arith)

-- ---- more names behind

pub has-append : (names more : List (List ℕ)) (name : List ℕ) → has names name ≡ true
    → has (names ++ more) name ≡ true
has-append names more name h =
    list_any-append (bytes_eq name) names more ∙ ap (λ b. b || has more name) h

pub number_of-append : (names more : List (List ℕ)) (name : List ℕ) → has names name ≡ true
    → number_of (names ++ more) name ≡ number_of names name
number_of-append [] more name h = absurd cc
number_of-append (n ∷ ns) more name h = grind (arith, nat_tests, number_of-append ns more name)

-- ---- one more name

bytes_eq-same : (name : List ℕ) → bytes_eq name name ≡ true
bytes_eq-same name = (bytes_eq-Decides name name).1 refl

has-last : (names : List (List ℕ)) (name : List ℕ) → has (names ++ name ∷ []) name ≡ true
has-last names name = grind (arith, nat_tests, list_any-append, bytes_eq-same, or-true)

-- a name that is not there would be the next one
pub number_of-last : (names : List (List ℕ)) (name : List ℕ) → has names name ≡ false
    → (number_of (names ++ name ∷ []) name ≡ length names) × (number_of names name ≡ length names)
number_of-last [] name h = (rw (bytes_eq-same name) refl, refl)
number_of-last (n ∷ ns) name h = grind (arith, nat_tests, number_of-last ns name)

-- a name that is put behind others has the place where it was looked for
pub number_of-with_name : (names : List (List ℕ)) (name : List ℕ)
    → number_of (with_name names name) name ≡ number_of names name
number_of-with_name names name = grind (arith, nat_tests, number_of-last)

pub has-with_name : (names : List (List ℕ)) (name : List ℕ) → has (with_name names name) name ≡ true
has-with_name names name = grind (arith, nat_tests, has-last)

-- names with some more behind them
abbrev pub Longer : List (List ℕ) → List (List ℕ) → Type 0
Longer names later = (more : List (List ℕ)) × (later ≡ names ++ more)

with_name-longer : (names : List (List ℕ)) (name : List ℕ) → Longer names (with_name names name)
with_name-longer names name = go (has names name)
  where
    go : (b : Bool) → Longer names (if b then names else names ++ name ∷ [])
    go true = ([], sym (append-nil names))
    go false = (name ∷ [], refl)

pub longer-le : (names later : List (List ℕ)) → Longer names later → length names ≤ length later
longer-le names later h = omega (arith, ap length h.1, length-append names h.0)

longer-longer : (names later last : List (List ℕ)) → Longer names later → Longer later last
    → Longer names last
longer-longer names later last h k =
    (h.0 ++ k.0, k.1 ∙ ap (λ ns. ns ++ k.0) h.1 ∙ append_assoc names h.0 k.0)

pub names_after-longer : (names : List (List ℕ)) (ls : List Named)
    → Longer names (names_after names ls)
names_after-longer names [] = ([], sym (append-nil names))
names_after-longer names (l ∷ ls) =
    let next = with_name names l.name in
    longer-longer names next (names_after next ls) (with_name-longer names l.name)
    (names_after-longer next ls)

pub with_name-le : (names : List (List ℕ)) (name : List ℕ)
    → length names ≤ length (with_name names name)
with_name-le names name = longer-le names (with_name names name) (with_name-longer names name)

-- ---- literals

pub has-longer : (names later : List (List ℕ)) (name : List ℕ) → Longer names later
    → has names name ≡ true → has later name ≡ true
has-longer names later name h k = rw h.1 (has-append names h.0 name k)

pub literal_of-longer : (names later : List (List ℕ)) (l : Named) → Longer names later
    → has names l.name ≡ true → literal_of later l ≡ literal_of names l
literal_of-longer names later l h k = grind (arith, nat_tests, number_of-append)

-- all names of the literals are there
abbrev pub HasAll : List (List ℕ) → List Named → Type 0
HasAll names ls = AllByRecursion (λ (l : Named). has names l.name ≡ true) ls

pub names_after-all : (names : List (List ℕ)) (ls : List Named) → HasAll (names_after names ls) ls
names_after-all names [] = tt
names_after-all names (l ∷ ls) =
    let next = with_name names l.name in (
      has-longer next (names_after next ls) l.name (names_after-longer next ls) (has-with_name names l.name),
      names_after-all next ls,
    )

pub literals_of-longer : (names later : List (List ℕ)) (ls : List Named) → Longer names later
    → HasAll names ls → map (literal_of later) ls ≡ map (literal_of names) ls
literals_of-longer names later [] h k = refl
literals_of-longer names later (l ∷ ls) h k =
    λ i. literal_of-longer names later l h k.0 i ∷ literals_of-longer names later ls h k.1 i
