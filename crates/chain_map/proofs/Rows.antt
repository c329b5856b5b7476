-- The words of a text by lines, and what their readings are made of.
use Rattle.chain_map.proofs.Common.{elements, nat_tests, ◌≡◌, ℕ, ◌+◌, ◌<◌, List, [], ◌∷◌, ◌++◌, length, get_or, Ok, Err, refl, ap, arith, Result, TextFault, Word, tokens_of_line, ◌>>=◌, natural_at, Fails, TextAnswer, append_assoc, append-nil, length-append, rows_from, node_at, each, chain_at, chains_at, after_front, Plain}
use Rattle.whole_text.specs.declared.faults.TextAnswer.TheVariants.{Bad, NoMemory}

-- ---- readings

joined_go : {X : Type 0} (front more : List X) (rest : Result (List X) TextFault)
    → after_front front (rest >>= (λ others. Ok (more ++ others))) ≡ after_front (front ++ more) rest
joined_go front more rest = grind (arith, nat_tests, append_assoc)

-- one qubit more
pub qubits_more : (front : List ℕ) (w : Word) (ws : List Word) (q : ℕ) → natural_at 0 w ≡ Ok q
    → after_front front (each (natural_at 0) (w ∷ ws)) ≡ after_front (front ++ q ∷ []) (each (natural_at 0) ws)
unfolding each
qubits_more front w ws q read = rw read (joined_go front (q ∷ []) (each (natural_at 0) ws))

pub qubits_fail : (front : List ℕ) (w : Word) (ws : List Word) (f : TextFault) → natural_at 0 w ≡ Err f
    → after_front front (each (natural_at 0) (w ∷ ws)) ≡ Err f
unfolding each
qubits_fail front w ws f read = rw read refl

pub qubits_end : (front : List ℕ) → after_front front (each (natural_at 0) []) ≡ Ok front
unfolding each
qubits_end front = ap Ok (append-nil front)

-- the chain of a line
pub chain_none : (m : List (List ℕ)) (node : ℕ) → after_front m (chain_at node []) ≡ Ok m
unfolding chain_at
chain_none m node = ap Ok (append-nil m)

pub chain_fail : (m : List (List ℕ)) (node : ℕ) (w : Word) (ws : List Word) (f : TextFault)
    → node_at node w ≡ Err f → after_front m (chain_at node (w ∷ ws)) ≡ Err f
unfolding chain_at
chain_fail m node w ws f read = rw read refl

-- its number is right, and its qubits cannot be read
pub chain_unread : (m : List (List ℕ)) (node : ℕ) (w : Word) (ws : List Word) (e : TextAnswer)
    → node_at node w ≡ Ok node → Fails e (each (natural_at 0) ws)
    → Fails e (after_front m (chain_at node (w ∷ ws)))
unfolding chain_at
chain_unread m node w ws NoMemory read unread = tt
chain_unread m node w ws (Bad f) read unread = rw (read, unread) refl

pub chain_one : (m : List (List ℕ)) (node : ℕ) (w : Word) (ws : List Word) (qubits : List ℕ)
    → node_at node w ≡ Ok node → each (natural_at 0) ws ≡ Ok qubits
    → after_front m (chain_at node (w ∷ ws)) ≡ Ok (m ++ qubits ∷ [])
unfolding chain_at
chain_one m node w ws qubits read said = rw (read, said) refl

-- a place inside a list has no default
pub default_free : {X : Type 0} (xs : List X) (i : ℕ) (d e : X) → i < length xs
    → get_or xs i d ≡ get_or xs i e
default_free xs i d e below = grind (arith, nat_tests, elements)

-- ---- lines

-- what one line says, and then the others
pub row_more : (front next : List (List ℕ)) (row : List Word) (rows : List (List Word))
    → after_front front (chain_at (length front) row) ≡ Ok next
    → after_front front (chains_at (length front) (row ∷ rows)) ≡ after_front next (chains_at (length next) rows)
unfolding chains_at
row_more front next row rows read = go (chain_at (length front) row) read
  where
    go : (said : Result (List (List ℕ)) TextFault) → after_front front said ≡ Ok next
        → after_front front (said >>= (λ chain. chains_at (length front + length chain) rows >>= (λ others. Ok (chain ++ others))))
        ≡ after_front next (chains_at (length next) rows)
    go (Ok chain) read =
        let same : front ++ chain ≡ next = cc read in
        let len = length-append front chain in
        cc (joined_go front chain (chains_at (length front + length chain) rows))
    go (Err f) read = absurd cc

-- a fault of one line
pub row_fails : (front : List (List ℕ)) (row : List Word) (rows : List (List Word)) (e : TextAnswer)
    → Fails e (after_front front (chain_at (length front) row))
    → Fails e (after_front front (chains_at (length front) (row ∷ rows)))
unfolding chains_at
row_fails front row rows e fails = grind (arith, nat_tests)

-- after the last line there is nothing
pub rows_end : (front : List (List ℕ)) (node : ℕ) → after_front front (chains_at node []) ≡ Ok front
unfolding chains_at
rows_end front node = ap Ok (append-nil front)

-- the rows of the next line and of those after it
pub rows_next : (n : ℕ) (line : List ℕ) (before after : List (List ℕ)) → before ≡ line ∷ after
    → rows_from n before ≡ tokens_of_line Plain n line ∷ rows_from (n + 1) after
unfolding rows_from
rows_next n line before after cut = ap (rows_from n) cut

pub rows_last : (n : ℕ) (line : List ℕ) (before : List (List ℕ)) → before ≡ line ∷ []
    → rows_from n before ≡ tokens_of_line Plain n line ∷ []
unfolding rows_from
rows_last n line before cut = ap (rows_from n) cut

pub front_none : {X : Type 0} (rest : Result (List X) TextFault) → after_front [] rest ≡ rest
front_none rest = grind (arith, nat_tests)
