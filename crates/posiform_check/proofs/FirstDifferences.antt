-- The difference of two ascending lists without zeros is the first set whose coefficients differ.
--
-- The tables of a model and of a certificate have the coefficients of their bit forms, so the first
-- difference of the one is that of the other.
use Rattle.posiform_check.proofs.Common.{nat_tests, ◌≡◌, ◌≢◌, Bool, true, false, List, [], ◌∷◌, ℤ, pos, Option, Some, None, refl, sym, subst, ◌∙◌, arith, All, if◌then◌else◌, IsStrictlySortedBy, int_eq, is_eq, match_ordering, Ordering, ints, Decides-int_eq, All-head, All-tail, if_so, Literal, Term, set_cmp, coefficient_of, Ascends, same_set, Under, Under-further, greater_back, DifferAt, difference, AreSameForms, IsNonzero, coefficient_of-under, coefficient_of-first, elements, ◌+ℤ◌, ◌≤ℤ◌, flat_map, AllByRecursion, All-from_recursion, recursion_from_All, total_by, total_by-append, Entry, Kind, Written, with_additions, if_so-plus, weight-in_front, coefficient_of-with_additions, OfSet, All-with_additions, nonzero-in_front, nonzero-with_additions, Ascends-in_front, Ascends-with_additions, Line, CertificateContent, entry_constant, entry_sets, entry_terms, model_list, model_terms, certificate_terms, first_negative, FaultsProveNothing, certificate_list}
use Rattle.std.specs.declared.cmp.Ordering.TheVariants.{Less, Equal, Greater}

-- ---- the first set of the one list alone

before_first : (ls : List Literal) (t : Term) (ts : List Term) → set_cmp ls t.0 ≡ Less
    → Under t.0 ts → coefficient_of ls (t ∷ ts) ≡ pos 0
before_first ls t ts less under = coefficient_of-under ls (t ∷ ts) (less, Under-further ls t.0 ts less under)

-- the other list has only later sets
left_alone : (t : Term) (ts us : List Term) → IsNonzero t → Under t.0 ts → Under t.0 us
    → DifferAt (t ∷ ts) us t.1 (pos 0)
left_alone t ts us nonzero under later = (
  t.0,
  record {
    differs = λ same. nonzero (sym (coefficient_of-first t ts under) ∙ same ∙ coefficient_of-under t.0 us later);
    first = λ ls less. before_first ls t ts less under
        ∙ sym (coefficient_of-under ls us (Under-further ls t.0 us less later));
  },
  coefficient_of-first t ts under,
  coefficient_of-under t.0 us later,
)

-- what differs, the other way round
turned : (ts us : List Term) (a b : ℤ) → DifferAt ts us a b → DifferAt us ts b a
turned ts us a b d = (
  d.0,
  record { differs = λ e. d.1.differs (sym e); first = λ ls less. sym (d.1.first ls less) },
  d.3,
  d.2,
)

-- ---- the first set of both lists

both_differ : (t u : Term) (ts us : List Term) → t.0 ≡ u.0 → t.1 ≢ u.1 → Under t.0 ts
    → Under u.0 us → DifferAt (t ∷ ts) (u ∷ us) t.1 u.1
both_differ t u ts us set other a b = grind (arith, nat_tests, coefficient_of-first, before_first)

-- a set whose coefficients differ further on is not the first one
is_other : (ls ks : List Literal) (c : ℤ) → ls ≢ ks → if_so (is_eq (set_cmp ls ks)) c ≡ pos 0
is_other ls ks c apart = grind (arith, nat_tests, ints, same_set)

-- ---- all

-- what the difference says of two lists
abbrev pub Says : Option (ℤ × ℤ) → List Term → List Term → Type 0
Says None ts us = AreSameForms ts us
Says (Some found) ts us = DifferAt ts us found.0 found.1

-- it says the same of other lists with their coefficients
pub says_alike : (d : Option (ℤ × ℤ)) (ts us ts' us' : List Term) → AreSameForms ts ts'
    → AreSameForms us us' → Says d ts us → Says d ts' us'
says_alike None ts us ts' us' s s' d = λ set. sym (s set) ∙ d set ∙ s' set
says_alike (Some found) ts us ts' us' s s' d = grind (arith, nat_tests, ints)

-- and nothing of lists without a difference
pub none_said : (d : Option (ℤ × ℤ)) (ts us : List Term) → AreSameForms ts us → Says d ts us
    → None ≡ d
none_said None ts us same d = refl
none_said (Some found) ts us same d = absurd (d.1.differs (same d.0))

says_later : (d : Option (ℤ × ℤ)) (t u : Term) (ts us : List Term) → t ≡ u → Under t.0 ts
    → Under t.0 us → Says d ts us → Says d (t ∷ ts) (u ∷ us)
says_later None t u ts us same under_t under_u later = λ set. grind (arith, nat_tests, ints)
says_later (Some found) t u ts us same under_t under_u later =
    grind (arith, nat_tests, ints, coefficient_of-under, is_other)

pub difference_says : (ts us : List Term) → Ascends ts → Ascends us → All IsNonzero ts
    → All IsNonzero us → Says (difference ts us) ts us
unfolding IsStrictlySortedBy
difference_says [] [] a b m n = λ set. refl
difference_says [] (u ∷ us) a b m n =
    turned (u ∷ us) [] u.1 (pos 0) (left_alone u us [] (All-head IsNonzero u us n) b.0 tt)
difference_says (t ∷ ts) [] a b m n = left_alone t ts [] (All-head IsNonzero t ts m) a.0 tt
difference_says (t ∷ ts) (u ∷ us) a b m n =
    go (set_cmp t.0 u.0) refl
    (difference_says ts us a.1 b.1 (All-tail IsNonzero t ts m) (All-tail IsNonzero u us n))
  where
    equal : (same : Bool) → int_eq t.1 u.1 ≡ same → t.0 ≡ u.0 → Says (difference ts us) ts us
        → Says (if same then difference ts us else Some (t.1, u.1)) (t ∷ ts) (u ∷ us)
    equal false e set rest =
        both_differ t u ts us set
        (λ same. let h = (Decides-int_eq t.1 u.1).1 same in absurd cc) a.0 b.0
    equal true e set rest =
        says_later (difference ts us) t u ts us (λ i. (set i, (Decides-int_eq t.1 u.1).0 e i)) a.0
        (subst (λ (ls : List Literal). Under ls us) (sym set) b.0) rest

    go : (o : Ordering) → set_cmp t.0 u.0 ≡ o → Says (difference ts us) ts us
        → Says (match_ordering o (Some (t.1, pos 0))
        (if int_eq t.1 u.1 then difference ts us else Some (t.1, u.1)) (Some (pos 0, u.1)))
        (t ∷ ts) (u ∷ us)
    go Less e rest =
        left_alone t ts (u ∷ us) (All-head IsNonzero t ts m) a.0 (e, Under-further t.0 u.0 us e b.0)
    go Equal e rest = equal (int_eq t.1 u.1) refl (same_set t.0 u.0 e) rest
    go Greater e rest =
        let back = greater_back t.0 u.0 e in
        turned (u ∷ us) (t ∷ ts) u.1 (pos 0)
        (left_alone u us (t ∷ ts) (All-head IsNonzero u us n) b.0 (back, Under-further u.0 t.0 ts back a.0))

-- ---- the constant apart from the sets

-- the set is the empty one
abbrev is_none : List Literal → Bool
is_none set = is_eq (set_cmp set [])

apart : (kind : Kind) (set : List Literal) (es : List Entry)
    → coefficient_of set (flat_map (entry_terms kind) es)
    ≡ if_so (is_none set) (total_by (entry_constant kind) es)
    +ℤ coefficient_of set (flat_map (entry_sets kind) es)
apart kind set [] = grind (arith, nat_tests, ints, elements)
apart kind set (e ∷ es) =
    let share : Term → ℤ = λ (t : Term). if_so (is_eq (set_cmp set t.0)) t.1 in
    let total = total_by-append share (entry_terms kind e) (flat_map (entry_terms kind) es) in
    let total_append = total_by-append share (entry_sets kind e) (flat_map (entry_sets kind) es) in
    let same = if_so-plus (is_none set) (entry_constant kind e) (total_by (entry_constant kind) es) in
    omega (arith, ints, apart kind set es)

pub model_list-coefficients : (m : Written) (set : List Literal)
    → coefficient_of set (model_list m) ≡ coefficient_of set (model_terms m)
model_list-coefficients m set =
    grind (arith, nat_tests, elements, weight-in_front, coefficient_of-with_additions, apart)

-- ---- the constant stands before the sets

abbrev IsAfterNone : List Literal → Type 0
IsAfterNone ls = set_cmp [] ls ≡ Less

all_after : (kind : Kind) (es : List Entry)
    → AllByRecursion (OfSet IsAfterNone) (flat_map (entry_sets kind) es)
all_after kind [] = tt
all_after kind (e ∷ es) = grind (arith, nat_tests, all_after kind es)

under_keys : (ts : List Term) → AllByRecursion (OfSet IsAfterNone) ts → Under [] ts
under_keys [] h = tt
under_keys (t ∷ ts) h = (h.0, under_keys ts h.1)

none_under : (kind : Kind) (es : List Entry)
    → Under [] (with_additions [] (flat_map (entry_sets kind) es))
none_under kind es =
    let sets = flat_map (entry_sets kind) es in
    under_keys (with_additions [] sets)
    (recursion_from_All (OfSet IsAfterNone) (with_additions [] sets)
    (All-with_additions IsAfterNone sets
    (All-from_recursion (OfSet IsAfterNone) sets (all_after kind es))))

-- ---- the first difference

-- what the comparison says of a model and of a certificate
pub comparison_says : (m : Written) (c : CertificateContent)
    → Says (difference (model_list m) (certificate_list c)) (model_terms m) (certificate_terms c)
comparison_says m c =
    let ts = certificate_terms c in
    let sets = flat_map (entry_sets m.kind) m.entries in
    let rest = with_additions [] sets in
    let constant = total_by (entry_constant m.kind) m.entries in
    says_alike _ (model_list m) (certificate_list c) (model_terms m) ts (model_list-coefficients m)
    (λ set. coefficient_of-with_additions set ts)
    (difference_says (model_list m) (certificate_list c)
    (Ascends-in_front [] constant rest (none_under m.kind m.entries) (Ascends-with_additions sets))
    (Ascends-with_additions ts) (nonzero-in_front [] constant rest (nonzero-with_additions sets))
    (nonzero-with_additions ts))

-- ---- signs

none_negative : (ls : List Line) → first_negative ls ≡ None
    → AllByRecursion (λ (l : Line). pos 0 ≤ℤ l.coefficient) ls
none_negative [] e = tt
none_negative (l ∷ ls) e = grind (arith, nat_tests, ints, none_negative ls)

pub signs : (ls : List Line) → first_negative ls ≡ None
    → All (λ (l : Line). pos 0 ≤ℤ l.coefficient) ls
signs ls e = All-from_recursion (λ (l : Line). pos 0 ≤ℤ l.coefficient) ls (none_negative ls e)

-- ---- a fault

first_none : (ls : List Line) → AllByRecursion (λ (l : Line). pos 0 ≤ℤ l.coefficient) ls
    → first_negative ls ≡ None
first_none [] h = refl
first_none (l ∷ ls) h = grind (arith, nat_tests, ints, first_none ls h.1)

pub faults_prove_nothing : FaultsProveNothing
faults_prove_nothing m c y is fault p = grind (arith, nat_tests, first_none, recursion_from_All)
