-- Terms of degree 3 or more as they are kept: the term at a place, one more term, and a term whose
-- first two literals are replaced.
use Rattle.rosenberg_layer.proofs.Common.{nat_tests, elements, ◌≡◌, ℕ, zero, suc, ◌+◌, ◌*◌, ◌/◌, ◌%◌, ◌<◌, ◌≤◌, List, [], ◌∷◌, ◌++◌, length, map, get_or, set, take, drop, refl, sym, ap, ◌∙◌, arith, ℤ, pos, ◌==◌, AllZip, AllZip-long, append_assoc, append-nil, map-append, drop-map, length-map, length-set, length-append, length-drop, length-take-le, get_or-drop, set-append_left, drop-append-le, drop-set-lt, drop-drop, take_more_set, Literal, code_of, literal_of, Term, node, front_term, pair_of, literals_left, terms_in, term_at, code_at, HasTwo}

-- ---- codes

pub literal_of-code_of : (l : Literal) → literal_of (code_of l) ≡ l
literal_of-code_of l = grind (arith, nat_tests)

pub code_of-literal_of : (n : ℕ) → code_of (literal_of n) ≡ n
code_of-literal_of n = grind (arith, nat_tests)

pub literal_of-node : (n : ℕ) → literal_of (2 * n) ≡ node n
literal_of-node n =
    let half : (2 * n) / 2 ≡ n = omega arith in
    let rest : (2 * n) % 2 ≡ 0 = omega arith in
    (λ i. record { variable = half i; negated = rest i == 1 })

literals-codes : (ls : List Literal) → map literal_of (map code_of ls) ≡ ls
literals-codes [] = refl
literals-codes (l ∷ ls) = λ i. literal_of-code_of l i ∷ literals-codes ls i

codes-literals : (ns : List ℕ) → map code_of (map literal_of ns) ≡ ns
codes-literals [] = refl
codes-literals (n ∷ ns) = λ i. code_of-literal_of n i ∷ codes-literals ns i

-- the first two literals, from their codes
pub pair-codes : (t : Term) (first second : ℕ) → 2 ≤ length t.0 → first ≡ code_at t 0
    → second ≡ code_at t 1 → (literal_of first, literal_of second) ≡ pair_of t.0
pair-codes t first second two one other = grind (arith, nat_tests)

-- ---- what is left of a ring

length-left : (ring : List ℕ) (turns : ℕ) → turns + 2 ≤ length ring
    → length (ring ++ take turns ring) ≡ length ring + turns
length-left ring turns two =
    length-append ring (take turns ring)
    ∙ ap (λ n. length ring + n) (length-take-le turns ring (omega (arith, two)))

pub degree-left : (ring : List ℕ) (turns : ℕ) → turns + 2 ≤ length ring
    → length (literals_left ring turns) + turns ≡ length ring
degree-left ring turns two = grind (arith, nat_tests, length-map, length-drop, length-left)

pub code-left : (ring : List ℕ) (turns : ℕ) (c : ℤ) (place : ℕ)
    → code_at (literals_left ring turns, c) place
    ≡ get_or (ring ++ take turns ring) (2 * turns + place) 0
code-left ring turns c place = rw codes-literals (get_or-drop (2 * turns) (ring ++ take turns ring) place 0)

-- a ring that no replacing touched
pub untouched : (ls : List Literal) → literals_left (map code_of ls) 0 ≡ ls
untouched ls = ap (map literal_of) (append-nil (map code_of ls)) ∙ literals-codes ls

-- .. and one more replacing
pub replaced-left : (ring : List ℕ) (turns n : ℕ) → turns + 3 ≤ length ring
    → literals_left (set ring turns (2 * n)) (turns + 1)
    ≡ drop 2 (literals_left ring turns) ++ node n ∷ []
replaced-left ring turns n three =
    let w = 2 * n in
    let all = ring ++ take turns ring in
    let inside : turns < length ring = omega (arith, three) in
    let more = take_more_set ring turns w inside in
    let left = set-append_left ring (take turns ring) turns w inside in
    let count = length-left ring turns (omega (arith, three)) in
    let cut = drop-append-le (2 * (turns + 1)) (set all turns w) (w ∷ []) in
    let past = drop-set-lt (2 * (turns + 1)) all turns w (omega arith) in
    let two = drop-drop 2 (2 * turns) all in
    grind (arith, nat_tests, append_assoc, length-set, map-append, drop-map, literal_of-node)

-- ---- the terms

pub length-terms : (rings : List (List ℕ)) (turns : List ℕ) (cs : List ℤ) → AllZip HasTwo rings turns
    → length cs ≡ length turns → length (terms_in rings turns cs) ≡ length turns
length-terms [] [] cs two same = refl
length-terms [] (j ∷ js) cs two same = absurd two
length-terms (r ∷ rs) [] cs two same = absurd two
length-terms (r ∷ rs) (j ∷ js) [] two same = absurd (omega (arith, same))
length-terms (r ∷ rs) (j ∷ js) (c ∷ cs) two same =
    ap suc (length-terms rs js cs two.1 (omega (arith, same)))

pub two-at : (rings : List (List ℕ)) (turns : List ℕ) (i : ℕ) → AllZip HasTwo rings turns
    → i < length turns → HasTwo (get_or rings i []) (get_or turns i 0)
two-at [] [] i two within = absurd (omega (arith, within))
two-at [] (j ∷ js) i two within = absurd two
two-at (r ∷ rs) [] i two within = absurd two
two-at (r ∷ rs) (j ∷ js) zero two within = two.0
two-at (r ∷ rs) (j ∷ js) (suc i) two within = two-at rs js i two.1 (omega (arith, within))

pub two-set : (rings : List (List ℕ)) (turns : List ℕ) (i : ℕ) (ring : List ℕ) (j : ℕ)
    → AllZip HasTwo rings turns → HasTwo ring j → AllZip HasTwo (set rings i ring) (set turns i j)
two-set [] [] i ring j two one = tt
two-set [] (k ∷ ks) i ring j two one = absurd two
two-set (r ∷ rs) [] i ring j two one = absurd two
two-set (r ∷ rs) (k ∷ ks) zero ring j two one = (one, two.1)
two-set (r ∷ rs) (k ∷ ks) (suc i) ring j two one = (two.0, two-set rs ks i ring j two.1 one)

pub two-push : (rings : List (List ℕ)) (turns : List ℕ) (ring : List ℕ) (j : ℕ)
    → AllZip HasTwo rings turns → HasTwo ring j
    → AllZip HasTwo (rings ++ ring ∷ []) (turns ++ j ∷ [])
two-push [] [] ring j two one = (one, tt)
two-push [] (k ∷ ks) ring j two one = absurd two
two-push (r ∷ rs) [] ring j two one = absurd two
two-push (r ∷ rs) (k ∷ ks) ring j two one = (two.0, two-push rs ks ring j two.1 one)

pub terms-at : (rings : List (List ℕ)) (turns : List ℕ) (cs : List ℤ) (i : ℕ)
    → AllZip HasTwo rings turns → length cs ≡ length turns → i < length turns
    → term_at (terms_in rings turns cs) i
    ≡ (literals_left (get_or rings i []) (get_or turns i 0), get_or cs i (pos 0))
terms-at [] [] cs i two same within = absurd (omega (arith, within))
terms-at [] (j ∷ js) cs i two same within = absurd two
terms-at (r ∷ rs) [] cs i two same within = absurd two
terms-at (r ∷ rs) (j ∷ js) [] i two same within = absurd (omega (arith, same))
terms-at (r ∷ rs) (j ∷ js) (c ∷ cs) zero two same within = refl
terms-at (r ∷ rs) (j ∷ js) (c ∷ cs) (suc i) two same within =
    terms-at rs js cs i two.1 (omega (arith, same)) (omega (arith, within))

pub terms-push : (rings : List (List ℕ)) (turns : List ℕ) (cs : List ℤ) (ring : List ℕ) (j : ℕ) (c : ℤ)
    → AllZip HasTwo rings turns → length cs ≡ length turns
    → terms_in (rings ++ ring ∷ []) (turns ++ j ∷ []) (cs ++ c ∷ [])
    ≡ terms_in rings turns cs ++ (literals_left ring j, c) ∷ []
terms-push [] [] [] ring j c two same = refl
terms-push [] [] (d ∷ ds) ring j c two same = absurd (omega (arith, same))
terms-push [] (k ∷ ks) cs ring j c two same = absurd two
terms-push (r ∷ rs) [] cs ring j c two same = absurd two
terms-push (r ∷ rs) (k ∷ ks) [] ring j c two same = absurd (omega (arith, same))
terms-push (r ∷ rs) (k ∷ ks) (d ∷ ds) ring j c two same =
    ap (λ ts. (literals_left r k, d) ∷ ts) (terms-push rs ks ds ring j c two.1 (omega (arith, same)))

pub terms-set : (rings : List (List ℕ)) (turns : List ℕ) (cs : List ℤ) (i : ℕ) (ring : List ℕ) (j : ℕ)
    → AllZip HasTwo rings turns → length cs ≡ length turns
    → terms_in (set rings i ring) (set turns i j) cs
    ≡ set (terms_in rings turns cs) i (literals_left ring j, get_or cs i (pos 0))
terms-set [] [] cs i ring j two same = refl
terms-set [] (k ∷ ks) cs i ring j two same = absurd two
terms-set (r ∷ rs) [] cs i ring j two same = absurd two
terms-set (r ∷ rs) (k ∷ ks) [] i ring j two same = absurd (omega (arith, same))
terms-set (r ∷ rs) (k ∷ ks) (d ∷ ds) zero ring j two same = refl
terms-set (r ∷ rs) (k ∷ ks) (d ∷ ds) (suc i) ring j two same =
    ap (λ ts. (literals_left r k, d) ∷ ts) (terms-set rs ks ds i ring j two.1 (omega (arith, same)))

-- ---- what is kept of the term at a place

pub record IsKept (rings : List (List ℕ)) (turns : List ℕ) (cs : List ℤ) (ts : List Term) (i : ℕ)
    : Type 0 where
  pub rings_within : i < length rings
  pub turns_within : i < length turns
  pub two : HasTwo (get_or rings i []) (get_or turns i 0)
  pub term : term_at ts i ≡ (literals_left (get_or rings i []) (get_or turns i 0), get_or cs i (pos 0))
  pub degree : length (term_at ts i).0 + get_or turns i 0 ≡ length (get_or rings i [])

pub kept_at : (rings : List (List ℕ)) (turns : List ℕ) (cs : List ℤ) (ts : List Term) (i : ℕ)
    → AllZip HasTwo rings turns → length cs ≡ length turns → terms_in rings turns cs ≡ ts
    → i < length ts → IsKept rings turns cs ts i
kept_at rings turns cs ts i two same is within =
    let count = length-terms rings turns cs two same in
    let inside : i < length turns = omega (arith, within, count, ap length is) in
    let own = two-at rings turns i two inside in
    let at = rw is at (terms-at rings turns cs i two same inside) in
    record {
      rings_within = omega (arith, inside, AllZip-long HasTwo rings turns two);
      turns_within = inside;
      two = own;
      term = at;
      degree = rw at (degree-left (get_or rings i []) (get_or turns i 0) own.0);
    }

-- the code of one of the first two literals
pub kept_code : (rings : List (List ℕ)) (turns : List ℕ) (cs : List ℤ) (ts : List Term) (i place : ℕ)
    → IsKept rings turns cs ts i
    → get_or (get_or rings i [] ++ take (get_or turns i 0) (get_or rings i []))
    (2 * get_or turns i 0 + place) 0 ≡ code_at (term_at ts i) place
kept_code rings turns cs ts i place kept =
    cc (code-left (get_or rings i []) (get_or turns i 0) (get_or cs i (pos 0)) place, kept.term)

-- ---- the term at a place is replaced

pub replaced_two : (rings rings' : List (List ℕ)) (turns turns' : List ℕ) (i n j j' : ℕ)
    → AllZip HasTwo rings turns → HasTwo (get_or rings i []) j
    → j + 3 ≤ length (get_or rings i []) → j' ≡ j + 1
    → rings' ≡ set rings i (set (get_or rings i []) j (2 * n)) → turns' ≡ set turns i j'
    → AllZip HasTwo rings' turns'
replaced_two rings rings' turns turns' i n j j' two own three next new_rings new_turns =
    grind (arith, nat_tests, elements, length-set, two-set)

pub replaced_terms : (rings rings' : List (List ℕ)) (turns turns' : List ℕ) (cs : List ℤ)
    (ts : List Term) (i n j j' : ℕ) → AllZip HasTwo rings turns → length cs ≡ length turns
    → terms_in rings turns cs ≡ ts → IsKept rings turns cs ts i → j ≡ get_or turns i 0
    → j + 3 ≤ length (get_or rings i []) → j' ≡ j + 1
    → rings' ≡ set rings i (set (get_or rings i []) j (2 * n)) → turns' ≡ set turns i j'
    → terms_in rings' turns' cs ≡ set ts i (front_term (node n) (term_at ts i))
replaced_terms rings rings' turns turns' cs ts i n j j' two same is kept at three next new_rings
    new_turns =
    let ring = get_or rings i [] in
    let term : (literals_left (set ring j (2 * n)) (j + 1), get_or cs i (pos 0))
    ≡ front_term (node n) (term_at ts i) =
    ap (λ ls. (ls, get_or cs i (pos 0)))
    (replaced-left ring j n three ∙ ap (λ k. drop 2 (literals_left ring k) ++ node n ∷ []) at)
    ∙ ap (front_term (node n)) (sym kept.term) in
    (λ k. terms_in (new_rings k) ((new_turns ∙ ap (set turns i) next) k) cs)
    ∙ terms-set rings turns cs i (set ring j (2 * n)) (j + 1) two same
    ∙ (λ k. set (is k) i (term k))
