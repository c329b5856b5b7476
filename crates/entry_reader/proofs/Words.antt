-- Entries as their words give them: three words each, up to the end.
use Rattle.entry_reader.proofs.Common.{nat_tests, arith, ◌≡◌, ℕ, ℤ, List, [], ◌∷◌, Result, Ok, Err, sym, ap, ◌∙◌, TextFault, Word, ◌>>=◌, integer_at, Counts, Listed, node_at, counted, entry_at, entries_at}

-- an entry, and what may come after it
abbrev pub Entered : Type 0
Entered = Listed × Counts

-- with what is left
abbrev pub leaving : List Word → Entered → Result (Listed × Counts × List Word) TextFault
leaving ws x = Ok (x.0, x.1, ws)

-- from the parts of the entry
abbrev weighed : ℕ → ℕ → Counts → ℤ → Result Entered TextFault
weighed i j fewer weight = Ok (record { first = i; second = j; weight = weight }, fewer)

abbrev pub three : Counts → Word → Word → Word → Result Entered TextFault
three c i j w =
    node_at c.nodes i >>= λ a. node_at c.nodes j >>= λ b. counted j.line c a b
    >>= λ fewer. integer_at w >>= weighed a b fewer

pub three_words : (end : ℕ) (c : Counts) (i j w : Word) (ws : List Word)
    → entry_at end c (i ∷ j ∷ w ∷ ws) ≡ (three c i j w >>= leaving ws)
unfolding entry_at
three_words end c i j w ws = grind (arith, nat_tests)

-- an entry before the others
abbrev pub with_first : Listed → List Listed → Result (List Listed) TextFault
with_first e es = Ok (e ∷ es)

-- ---- an entry that is read, and the others

-- fewer than three words are no entry
no_word : (end : ℕ) (c : Counts) (x : Listed × Counts × List Word) → entry_at end c [] ≡ Ok x → ⊥
unfolding entry_at
no_word end c x h = cc

one_word : (end : ℕ) (c : Counts) (i : Word) (x : Listed × Counts × List Word)
    → entry_at end c (i ∷ []) ≡ Ok x → ⊥
unfolding entry_at
one_word end c i x h = grind (arith, nat_tests)

two_words : (end : ℕ) (c : Counts) (i j : Word) (x : Listed × Counts × List Word)
    → entry_at end c (i ∷ j ∷ []) ≡ Ok x → ⊥
unfolding entry_at
two_words end c i j x h = grind (arith, nat_tests)

-- what three words and the words after them give
abbrev pub others_after : ℕ → List Word → Listed × Counts × List Word → Result (List Listed) TextFault
others_after end ws x = entries_at end x.1 ws >>= with_first x.0

entered : (end : ℕ) (ws rest : List Word) (e : Listed) (fewer : Counts)
    (read : Result Entered TextFault) → read >>= leaving ws ≡ Ok (e, fewer, rest)
    → (read >>= leaving []) >>= others_after end ws ≡ (entries_at end fewer rest >>= with_first e)
entered end ws rest e fewer read h = grind (arith, nat_tests)

pub entry_then : (end : ℕ) (c fewer : Counts) (ws rest : List Word) (e : Listed)
    → entry_at end c ws ≡ Ok (e, fewer, rest)
    → entries_at end c ws ≡ (entries_at end fewer rest >>= with_first e)
unfolding entries_at
entry_then end c fewer [] rest e h = absurd (no_word end c (e, fewer, rest) h)
entry_then end c fewer (i ∷ []) rest e h = absurd (one_word end c i (e, fewer, rest) h)
entry_then end c fewer (i ∷ j ∷ []) rest e h = absurd (two_words end c i j (e, fewer, rest) h)
entry_then end c fewer (i ∷ j ∷ w ∷ ws) rest e h =
    ap (λ r. r >>= others_after end ws) (three_words end c i j w [])
    ∙ entered end ws rest e fewer (three c i j w) (sym (three_words end c i j w ws) ∙ h)

-- ---- an entry with a fault

pub entry_fails : (end : ℕ) (c : Counts) (i : Word) (ws : List Word) (f : TextFault)
    → entry_at end c (i ∷ ws) ≡ Err f → entries_at end c (i ∷ ws) ≡ Err f
unfolding entries_at
entry_fails end c i ws f h = grind (arith, nat_tests, three_words)
