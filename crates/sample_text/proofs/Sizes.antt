-- The bytes of a text: a clause of a lawful sample has at most 38.
use Rattle.sample_text.proofs.Common.{nat_tests, ints, ◌≡◌, ℕ, zero, suc, ◌+◌, ◌*◌, ◌^◌, ◌<◌, ◌≤◌, Bool, true, false, cond, pos, neg_ℤ, List, [], ◌∷◌, ◌++◌, length, arith, length-append, mag, mod-lt, codes, flat_map, decimal, signed_decimal, length-decimal-le, length_signed_le, after, drawn_weight, drawn_literal, line, clause_words, drawn_clauses, header_words, sample_text}

-- ---- lines

length-two : (a b : List ℕ) → length (a ++ 32 ∷ b) ≡ length a + length b + 1
length-two a b = omega (arith, length-append a (32 ∷ b))

length-clause : (a b c d : List ℕ)
    → length (line (a ∷ b ∷ c ∷ d ∷ codes "0" ∷ [])) ≡ length a + length b + length c + length d + 6
length-clause a b c d = grind (arith, nat_tests, length-append, length-two)

length-header : (a b c : List ℕ)
    → length (line (codes "p" ∷ codes "wcnf" ∷ a ∷ b ∷ c ∷ [])) ≡ length a + length b + length c + 10
length-header a b c = grind (arith, nat_tests, length-append, length-two)

-- ---- numbers

pub weight_small : (top state : ℕ) → drawn_weight top state ≤ top + 9
weight_small top state = grind (arith, nat_tests)

number_short : (n : ℕ) → n < 10 ^ 8 → length (decimal n) ≤ 8
number_short n h = length-decimal-le 8 n (omega arith) h (omega arith)

mag-negated : (n : ℕ) → mag (neg_ℤ (pos (1 + n))) ≡ n
mag-negated n = grind (arith, nat_tests, ints)

signed_short : (b : Bool) (n : ℕ) → n < 100000
    → length (signed_decimal (cond b (neg_ℤ (pos (1 + n))) (pos (1 + n)))) ≤ 8
signed_short true n h =
    length_signed_le 7 (neg_ℤ (pos (1 + n))) (omega (arith, mag-negated n))
    (omega (arith, mag-negated n))
signed_short false n h = length_signed_le 7 (pos (1 + n)) (omega arith) (omega arith)

literal_short : (variables state : ℕ) → 0 < variables → variables ≤ 100000
    → length (signed_decimal (drawn_literal variables state)) ≤ 8
literal_short variables state h k = grind (arith, nat_tests, signed_short, mod-lt)

-- ---- clauses

clause_short : (variables top state : ℕ) → 0 < variables → variables ≤ 100000 → top ≤ 1000001
    → length (line (clause_words variables top state)) ≤ 38
clause_short variables top state h k m =
    grind (arith, nat_tests, weight_small, length-clause, number_short, literal_short)

clauses_short : (count variables top state : ℕ) → 0 < variables → variables ≤ 100000 → top ≤ 1000001
    → length (flat_map line (drawn_clauses count variables top state)) ≤ 38 * count
clauses_short zero variables top state h k m = omega arith
clauses_short (suc count) variables top state h k m =
    grind (arith, nat_tests, clauses_short count variables top (after 7 state) h k m, length-append, clause_short)

header_short : (variables clauses top : ℕ) → variables < 10 ^ 8 → clauses < 10 ^ 8 → top < 10 ^ 8
    → length (line (header_words variables clauses top)) ≤ 34
header_short variables clauses top h k m = omega (arith, length-header, number_short)

pub text_short : (number clauses : ℕ) → clauses ≤ 100000 → length (sample_text number clauses) ≤ 2 ^ 24
unfolding sample_text
text_short number clauses h = grind (arith, nat_tests, length-append, header_short, clauses_short)
