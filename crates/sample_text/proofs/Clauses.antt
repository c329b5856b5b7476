-- The words of a clause, and clauses, appended one after another.
use Rattle.sample_text.proofs.Common.{nat_tests, arith, ◌≡◌, ℕ, suc, List, [], ◌∷◌, ◌++◌, sym, ap, ◌∙◌, append_assoc, append-nil, codes, flat_map, after, clause_words, drawn_clauses, line}

-- ---- the words of one clause

words_joined : (old w a b c : List ℕ)
    → ((((old ++ w) ++ 32 ∷ a) ++ 32 ∷ b) ++ 32 ∷ c) ++ 32 ∷ 48 ∷ 10 ∷ []
    ≡ old ++ line (w ∷ a ∷ b ∷ c ∷ codes "0" ∷ [])
words_joined old w a b c = simp append_assoc

pub words_added : (old first second third fourth text w a b c : List ℕ) → first ≡ old ++ w → second ≡ first ++ 32 ∷ a
    → third ≡ second ++ 32 ∷ b → fourth ≡ third ++ 32 ∷ c → text ≡ fourth ++ 32 ∷ 48 ∷ 10 ∷ []
    → text ≡ old ++ line (w ∷ a ∷ b ∷ c ∷ codes "0" ∷ [])
words_added old first second third fourth text w a b c weight one two three zero =
    grind (arith, nat_tests, words_joined)

-- ---- clauses one after another

-- the text and the clauses that are left, of which one is appended
pub clause_added : (text more whole : List ℕ) (left rest variables top state moved : ℕ) → left ≡ suc rest
    → text ++ flat_map line (drawn_clauses left variables top state) ≡ whole
    → more ≡ text ++ line (clause_words variables top state) → moved ≡ after 7 state
    → more ++ flat_map line (drawn_clauses rest variables top moved) ≡ whole
clause_added text more whole left rest variables top state moved is so_far added moves =
    (λ k. added k ++ flat_map line (drawn_clauses rest variables top (moves k)))
    ∙ append_assoc text (line (clause_words variables top state)) _
    ∙ ap (λ n. text ++ flat_map line (drawn_clauses n variables top state)) (sym is) ∙ so_far

pub clauses_done : (text whole : List ℕ) (left variables top state : ℕ) → left ≡ 0
    → text ++ flat_map line (drawn_clauses left variables top state) ≡ whole → text ≡ whole
clauses_done text whole left variables top state none so_far = grind (arith, nat_tests, append-nil)
