-- What is read again and again: one more is read, or it ends.
use Rattle.opb_reader.proofs.Common.{nat_tests, ◌≡◌, ℕ, zero, suc, ◌≤◌, Bool, true, false, List, [], ◌∷◌, ◌++◌, length, fold, append-nil, append_assoc, Result, Ok, IfOk, refl, sym, ap, ◌∙◌, arith, TextFault, TextAnswer, Word, ◌>>=◌, Fails, many, put, put_all}

-- what reads one thing, from its first word and those after it
abbrev pub Reader : Type 0 → Type 0
Reader A = Word → List Word → Result (A × List Word) TextFault

-- no more words are left than this
abbrev pub Leaves : {A : Type 0} → ℕ → A × List Word → Type 0
Leaves most x = length x.1 ≤ most

-- it leaves no more words than there were
pub record Shrinks {A : Type 0} (read : Reader A) : Type 0 where
  pub leaves : (w : Word) (ws : List Word) → IfOk (read w ws) (Leaves (length ws))

abbrev with_first : {A : Type 0} → A → List A × List Word → Result (List A × List Word) TextFault
with_first a y = Ok (a ∷ y.0, y.1)

-- what is read first, before the others
abbrev others : {A : Type 0} → (List Word → Result (List A × List Word) TextFault)
    → A × List Word → Result (List A × List Word) TextFault
others more x = more x.1 >>= with_first x.0

-- ---- as many as there are words are enough

same_others : {A : Type 0} (most : ℕ) (f g : List Word → Result (List A × List Word) TextFault)
    (first : Result (A × List Word) TextFault) → IfOk first (Leaves most)
    → ((ws : List Word) → length ws ≤ most → f ws ≡ g ws) → first >>= others f ≡ first >>= others g
same_others most f g first h same = grind (arith, nat_tests)

pub many_enough : {A : Type 0} (ends : List ℕ → Bool) (read : Reader A) → Shrinks read
    → (n m : ℕ) (ws : List Word) → length ws ≤ n → length ws ≤ m
    → many ends read n ws ≡ many ends read m ws
unfolding many
many_enough ends read h n m [] hn hm = refl
many_enough ends read h zero m (w ∷ ws) hn hm = absurd (omega (arith, hn))
many_enough ends read h (suc n) zero (w ∷ ws) hn hm = absurd (omega (arith, hm))
many_enough ends read h (suc n) (suc m) (w ∷ ws) hn hm =
    rw (same_others (length ws) (many ends read n) (many ends read m) (read w ws) (h.leaves w ws)
    (λ rest le. many_enough ends read h n m rest (omega (arith, hn, le)) (omega (arith, hm, le)))) refl

-- ---- no more words are left than there were

others_leave : {A : Type 0} (most : ℕ) (f : List Word → Result (List A × List Word) TextFault)
    (first : Result (A × List Word) TextFault) → IfOk first (Leaves most)
    → ((ws : List Word) → IfOk (f ws) (Leaves (length ws)))
    → IfOk (first >>= others f) (Leaves (suc most))
others_leave most f first h all = grind (arith, nat_tests)

pub many_leaves : {A : Type 0} (ends : List ℕ → Bool) (read : Reader A) → Shrinks read
    → (n : ℕ) (ws : List Word) → IfOk (many ends read n ws) (Leaves (length ws))
unfolding many
many_leaves ends read h n [] = omega arith
many_leaves ends read h zero (w ∷ ws) = omega arith
many_leaves ends read h (suc n) (w ∷ ws) =
    let rest = many_leaves ends read h n in
    let all = others_leave (length ws) (many ends read n) (read w ws) (h.leaves w ws) rest in
    grind (arith, nat_tests)

-- ---- one more, put to what is there

-- all that is read of these words
abbrev pub all_of : {A : Type 0} → (List ℕ → Bool) → Reader A → List Word
    → Result (List A × List Word) TextFault
all_of ends read ws = many ends read (length ws) ws

-- a value that is read
abbrev read_as : {A : Type 0} → A → Result A TextFault
read_as a = Ok a

pub two_parts : {A B : Type 0} (p q : A × B) → read_as p ≡ read_as q → (p.0 ≡ q.0) × (p.1 ≡ q.1)
two_parts p q h = let same : p ≡ q = cc in (ap (λ x. x.0) same, ap (λ x. x.1) same)

one_put : {A B : Type 0} (step : B → A → B) (b b' : B) (rest : List Word)
    (f : List Word → Result (List A × List Word) TextFault) (first : Result (A × List Word) TextFault)
    → put step b first ≡ Ok (b', rest)
    → put_all step b (first >>= others f) ≡ put_all step b' (f rest)
one_put step b b' rest f first h = grind (arith, nat_tests)

one_fails : {A B : Type 0} (e : TextAnswer) (step : B → A → B) (b : B)
    (f : List Word → Result (List A × List Word) TextFault) (first : Result (A × List Word) TextFault)
    → Fails e (put step b first) → Fails e (put_all step b (first >>= others f))
one_fails e step b f first h = grind (arith, nat_tests)

pub many_go_on : {A B : Type 0} (step : B → A → B) (b b' : B) (ends : List ℕ → Bool)
    (read : Reader A) (w : Word) (ws rest : List Word) → Shrinks read → ends w.bytes ≡ false
    → length rest ≤ length ws → put step b (read w ws) ≡ Ok (b', rest)
    → put_all step b (all_of ends read (w ∷ ws)) ≡ put_all step b' (all_of ends read rest)
unfolding many
many_go_on step b b' ends read w ws rest h going le one =
    let enough = many_enough ends read h (length ws) (length rest) rest le (omega arith) in
    rw (going, ← enough) (one_put step b b' rest (many ends read (length ws)) (read w ws) one)

pub many_fail : {A B : Type 0} (e : TextAnswer) (step : B → A → B) (b : B) (ends : List ℕ → Bool)
    (read : Reader A) (w : Word) (ws : List Word) → ends w.bytes ≡ false
    → Fails e (put step b (read w ws)) → Fails e (put_all step b (all_of ends read (w ∷ ws)))
unfolding many
many_fail e step b ends read w ws going fails =
    rw going (one_fails e step b (many ends read (length ws)) (read w ws) fails)

pub many_stop : {A B : Type 0} (step : B → A → B) (b : B) (ends : List ℕ → Bool)
    (read : Reader A) (w : Word) (ws : List Word) → ends w.bytes ≡ true
    → put_all step b (all_of ends read (w ∷ ws)) ≡ Ok (b, w ∷ ws)
unfolding many
many_stop step b ends read w ws stops = rw stops refl

pub many_end : {A B : Type 0} (step : B → A → B) (b : B) (ends : List ℕ → Bool) (read : Reader A)
    → put_all step b (all_of ends read []) ≡ Ok (b, [])
unfolding many
many_end step b ends read = refl

-- one thing more behind the others
abbrev pub push : {A : Type 0} → List A → A → List A
push xs x = xs ++ x ∷ []

pub fold-push : {A : Type 0} (xs ys : List A) → fold push xs ys ≡ xs ++ ys
fold-push xs [] = sym (append-nil xs)
fold-push xs (y ∷ ys) = fold-push (xs ++ y ∷ []) ys ∙ append_assoc xs (y ∷ []) ys

-- what is put behind nothing is what is read
pub put_none : {A : Type 0} (read : Result (List A × List Word) TextFault)
    → put_all push [] read ≡ read
put_none read = grind (arith, nat_tests, fold-push)

-- ---- where nothing ends it

others_none : {A : Type 0} (most : ℕ) (f : List Word → Result (List A × List Word) TextFault)
    (first : Result (A × List Word) TextFault) → IfOk first (Leaves most)
    → ((ws : List Word) → length ws ≤ most → IfOk (f ws) (λ x. x.1 ≡ []))
    → IfOk (first >>= others f) (λ x. x.1 ≡ [])
others_none most f first h all = grind (arith, nat_tests)

-- no word is left
pub many_all : {A : Type 0} (ends : List ℕ → Bool) (read : Reader A) → Shrinks read
    → ((bytes : List ℕ) → ends bytes ≡ false) → (n : ℕ) (ws : List Word) → length ws ≤ n
    → IfOk (many ends read n ws) (λ x. x.1 ≡ [])
unfolding many
many_all ends read h never n [] le = refl
many_all ends read h never zero (w ∷ ws) le = absurd (omega (arith, le))
many_all ends read h never (suc n) (w ∷ ws) le =
    rw (never w.bytes) (others_none (length ws) (many ends read n) (read w ws) (h.leaves w ws)
    (λ rest less. many_all ends read h never n rest (omega (arith, le, less))))
