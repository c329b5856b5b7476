-- The words of a sample text are read: its header, its clauses, and nothing more.
use Rattle.sample_text.proofs.Common.{nat_tests, ints, ◌≡◌, ℕ, zero, suc, ◌+◌, ◌<◌, ◌≤◌, ◌^◌, ℤ, pos, List, [], ◌∷◌, ◌++◌, map, Some, Result, Ok, refl, sym, ap, ◌∙◌, arith, nat_abs, codes, decimal, signed_decimal, digits, ne_eqb, le-leb, TextFault, Word, word, tokens_of, ◌>>=◌, IsInk, AreInk, tokens_after, no_lines, words_then, decimal_ink, signed_ink, number_first, integer_again, natural_again, Header, Listed, Wcnf, literal_at, literals_at, clause_at, wanted_word, header_number, at_line_end, top_at, header_at, clauses_at, older_of, reading_of_words, reading, seed, after, drawn_weight, drawn_literal, clause_words, drawn_clauses, header_words, variables_of, top_of, sample_text}
use Rattle.whole_text.specs.declared.token.Style.TheVariants.{Plain}
use Rattle.wcnf_reader.specs.declared.layout.ClauseLayout.TheVariants.{Older}
use Rattle.sample_text.proofs.Sizes.{weight_small}

-- ---- literals

zero_text : signed_decimal (pos 0) ≡ codes "0"
unfolding digits
zero_text = refl

-- a literal of one of so many variables
abbrev pub IsDrawn : ℕ → ℤ → Type 0
IsDrawn variables z = (0 < nat_abs z) × (nat_abs z ≤ variables)

literal_drawn : (variables state : ℕ) → 0 < variables
    → IsDrawn variables (drawn_literal variables state)
literal_drawn variables state some = grind (arith, nat_tests)

literal_again : (variables line : ℕ) (z : ℤ) → nat_abs z ≤ variables → variables < 2 ^ 64
    → literal_at (Some variables) (word line (signed_decimal z)) ≡ Ok z
unfolding literal_at
literal_again variables line z within small = grind (arith, nat_tests, ints, integer_again, le-leb)

-- literals, and what is left
abbrev Literals : Type 0
Literals = Result (List ℤ × List Word) TextFault

abbrev with_literal : ℤ → List ℤ × List Word → Literals
with_literal z more = Ok (z ∷ more.0, more.1)

literal_then : (variables end line : ℕ) (z : ℤ) (ws : List Word) → IsDrawn variables z
    → variables < 2 ^ 64 → literals_at (Some variables) end (word line (signed_decimal z) ∷ ws)
    ≡ literals_at (Some variables) end ws >>= with_literal z
unfolding literals_at
literal_then variables end line z ws d small = grind (arith, nat_tests, ints, ne_eqb, literal_again)

zero_then : (variables end line : ℕ) (ws : List Word) → variables < 2 ^ 64
    → literals_at (Some variables) end (word line (codes "0") ∷ ws) ≡ Ok ([], ws)
unfolding literals_at
zero_then variables end line ws small =
    let none : literal_at (Some variables) (word line (codes "0")) ≡ Ok (pos 0) =
    ap (λ (bs : List ℕ). literal_at (Some variables) (word line bs)) (sym zero_text)
    ∙ literal_again variables line (pos 0) (omega arith) small in
    rw none refl

-- three literals and the 0 that ends them
abbrev literal_words : ℤ → ℤ → ℤ → List (List ℕ)
literal_words a b c = signed_decimal a ∷ signed_decimal b ∷ signed_decimal c ∷ codes "0" ∷ []

literals_again : (variables end line : ℕ) (a b c : ℤ) (ws : List Word) → IsDrawn variables a
    → IsDrawn variables b → IsDrawn variables c → variables < 2 ^ 64
    → literals_at (Some variables) end (map (word line) (literal_words a b c) ++ ws)
    ≡ Ok (a ∷ b ∷ c ∷ [], ws)
literals_again variables end line a b c ws in_a in_b in_c small =
    grind (arith, nat_tests, ints, literal_then, zero_then)

-- ---- clauses

-- the clause that is drawn from a state
abbrev pub listed_clause : ℕ → ℕ → ℕ → Listed
listed_clause variables top state = record {
  weight = Some (drawn_weight top state);
  literals = drawn_literal variables (after 1 state) ∷ drawn_literal variables (after 3 state)
      ∷ drawn_literal variables (after 5 state) ∷ [];
}

-- so many clauses, each drawn from the state that the one before leaves
abbrev pub listed_clauses : ℕ → ℕ → ℕ → ℕ → List Listed
listed_clauses zero variables top state = []
listed_clauses (suc count) variables top state =
    listed_clause variables top state ∷ listed_clauses count variables top (after 7 state)

-- their words, from the line n on
abbrev pub clause_tokens : ℕ → ℕ → ℕ → ℕ → ℕ → List Word
clause_tokens n zero variables top state = []
clause_tokens n (suc count) variables top state =
    map (word n) (clause_words variables top state)
    ++ clause_tokens (n + 1) count variables top (after 7 state)

-- numbers of a lawful sample
pub record IsLawful (variables top : ℕ) : Type 0 where
  pub some : 0 < variables
  pub few : variables ≤ 100000
  pub light : top ≤ 1000001

zero_ink : IsInk (codes "0")
zero_ink = record { filled = omega arith; blank = (refl, tt); feed = (refl, tt) }

literal_ink : (variables top state : ℕ) → IsLawful variables top
    → IsInk (signed_decimal (drawn_literal variables state))
literal_ink variables top state h =
    signed_ink (drawn_literal variables state)
    (omega (arith, (literal_drawn variables state h.some).1, h.few))

clause_ink : (variables top state : ℕ) → IsLawful variables top
    → AreInk (clause_words variables top state)
clause_ink variables top state h = (
  decimal_ink (drawn_weight top state) (omega (arith, weight_small top state, h.light)),
  (
    literal_ink variables top (after 1 state) h,
    (
      literal_ink variables top (after 3 state) h,
      (literal_ink variables top (after 5 state) h, (zero_ink, tt)),
    ),
  ),
)

-- the words of a clause after its weight
abbrev later_words : ℕ → ℕ → List (List ℕ)
later_words variables state =
    let first = drawn_literal variables (after 1 state) in
    let second = drawn_literal variables (after 3 state) in
    literal_words first second (drawn_literal variables (after 5 state))

-- the tokens of the clauses' lines are these words
tokens_again : (n count variables top state : ℕ) → IsLawful variables top
    → tokens_after n (drawn_clauses count variables top state)
    ≡ clause_tokens n count variables top state
tokens_again n zero variables top state h = no_lines n
tokens_again n (suc count) variables top state h =
    words_then n (decimal (drawn_weight top state)) (later_words variables state)
    (drawn_clauses count variables top (after 7 state)) (clause_ink variables top state h)
    (grind (arith, nat_tests, number_first, weight_small))
    ∙ ap (λ (rest : List Word). map (word n) (clause_words variables top state) ++ rest)
    (tokens_again (n + 1) count variables top (after 7 state) h)

clause_again : (variables top state end n : ℕ) (ws : List Word) → IsLawful variables top
    → clause_at (Older (Some top)) (Some variables) end (word n (decimal (drawn_weight top state)))
    (map (word n) (later_words variables state) ++ ws) ≡ Ok (listed_clause variables top state, ws)
unfolding clause_at
clause_again variables top state end n ws h =
    grind (arith, nat_tests, natural_again, weight_small, literals_again, literal_drawn)

-- the numbers of a header
abbrev header_numbers : ℕ → ℕ → ℕ → Header
header_numbers variables clauses top =
    record { variables = variables; clauses = clauses; top = Some top }

clauses_again : (count n variables clauses top state end : ℕ) → IsLawful variables top
    → clauses_at count (header_numbers variables clauses top) end
    (clause_tokens n count variables top state) ≡ Ok (listed_clauses count variables top state, [])
unfolding clauses_at
clauses_again zero n variables clauses top state end h = refl
clauses_again (suc count) n variables clauses top state end h =
    grind (arith, nat_tests, clauses_again count (n + 1) variables clauses top (after 7 state) end h, clause_again)

-- ---- the header

-- the header's words after `p`
abbrev header_rest : ℕ → ℕ → ℕ → List (List ℕ)
header_rest variables clauses top =
    codes "wcnf" ∷ decimal variables ∷ decimal clauses ∷ decimal top ∷ []

-- clauses begin on another line than the header
line_ended : {A : Type 0} (x : A) (count variables top state : ℕ)
    → at_line_end 1 x (clause_tokens 2 count variables top state)
    ≡ Ok (x, clause_tokens 2 count variables top state)
unfolding at_line_end
line_ended x count variables top state = grind (arith, nat_tests)

header_again : (variables clauses top end : ℕ) (ws : List Word) → IsLawful variables top
    → clauses ≤ 100000 → 1 ≤ top → at_line_end 1 (Some top) ws ≡ Ok (Some top, ws)
    → header_at 1 end (map (word 1) (header_rest variables clauses top) ++ ws)
    ≡ Ok (header_numbers variables clauses top, ws)
unfolding header_at wanted_word header_number top_at
header_again variables clauses top end ws h few heavy ended =
    grind (arith, nat_tests, natural_again)

p_ink : IsInk (codes "p")
p_ink = record { filled = omega arith; blank = (refl, tt); feed = (refl, tt) }

wcnf_ink : IsInk (codes "wcnf")
wcnf_ink = record {
  filled = omega arith;
  blank = (refl, (refl, (refl, (refl, tt))));
  feed = (refl, (refl, (refl, (refl, tt))));
}

header_ink : (variables clauses top : ℕ) → IsLawful variables top → clauses ≤ 100000
    → AreInk (header_words variables clauses top)
header_ink variables clauses top h few = (
  p_ink,
  (
    wcnf_ink,
    (
      decimal_ink variables (omega (arith, h.few)),
      (decimal_ink clauses (omega arith), (decimal_ink top (omega (arith, h.light)), tt)),
    ),
  ),
)

-- ---- the whole

-- what a sample text says
abbrev pub sample : ℕ → ℕ → Wcnf
sample number clauses = record {
  layout = Older (Some (top_of clauses));
  variables = variables_of clauses;
  clauses = listed_clauses clauses (variables_of clauses) (top_of clauses) (seed number);
}

lawful : (clauses : ℕ) → clauses ≤ 100000 → IsLawful (variables_of clauses) (top_of clauses)
lawful clauses few = record { some = omega arith; few = omega arith; light = omega arith }

-- the words of a sample text
abbrev sample_tokens : ℕ → ℕ → List Word
sample_tokens number clauses =
    map (word 1) (header_words (variables_of clauses) clauses (top_of clauses))
    ++ clause_tokens 2 clauses (variables_of clauses) (top_of clauses) (seed number)

sample_cut : (number clauses : ℕ) → clauses ≤ 100000
    → tokens_of Plain (sample_text number clauses) ≡ sample_tokens number clauses
unfolding tokens_of sample_text
sample_cut number clauses few =
    let variables = variables_of clauses in
    let top = top_of clauses in
    let h = lawful clauses few in
    words_then 1 (codes "p") (header_rest variables clauses top)
    (drawn_clauses clauses variables top (seed number))
    (header_ink variables clauses top h few) refl
    ∙ ap (λ (rest : List Word). map (word 1) (header_words variables clauses top) ++ rest)
    (tokens_again 2 clauses variables top (seed number) h)

words_again : (number clauses end : ℕ) → clauses ≤ 100000 → older_of 1 end
    (map (word 1) (header_rest (variables_of clauses) clauses (top_of clauses))
    ++ clause_tokens 2 clauses (variables_of clauses) (top_of clauses) (seed number))
    ≡ Ok (sample number clauses)
unfolding older_of
words_again number clauses end few =
    grind (arith, nat_tests, lawful, header_again, line_ended, clauses_again)

pub sample_again : (number clauses : ℕ) → clauses ≤ 100000
    → reading (sample_text number clauses) ≡ Ok (sample number clauses)
unfolding reading reading_of_words
sample_again number clauses few = grind (arith, nat_tests, sample_cut, words_again)
