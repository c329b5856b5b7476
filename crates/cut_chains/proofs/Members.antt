-- Lists of qubits that others are appended to: which qubits are in them, and that none is twice.
use Rattle.cut_chains.proofs.Common.{◌≡◌, ℕ, ◌+◌, ◌<◌, false, ◌||◌, List, [], ◌∷◌, ◌++◌, length, take, get_or, refl, ap, ◌∙◌, ◌==◌, reverse, or_comm, or-false, reverse-append, take_more, is_in, Once, list_any-append, arith, nat_tests}

-- ---- which qubits are in a list

pub is_in-append : (qs rs : List ℕ) (q : ℕ) → is_in (qs ++ rs) q ≡ (is_in qs q || is_in rs q)
is_in-append qs rs q = list_any-append (λ p. p == q) qs rs

pub is_in-push : (qs : List ℕ) (p q : ℕ) → is_in (qs ++ p ∷ []) q ≡ (is_in qs q || (p == q))
is_in-push qs p q = is_in-append qs (p ∷ []) q ∙ ap (λ b. is_in qs q || b) (or-false (p == q))

is_in-reverse : (qs : List ℕ) (q : ℕ) → is_in (reverse qs) q ≡ is_in qs q
is_in-reverse [] q = refl
is_in-reverse (p ∷ ps) q =
    ap (λ rs. is_in rs q) (reverse-append (p ∷ []) ps) ∙ is_in-push (reverse ps) p q
    ∙ ap (λ b. b || (p == q)) (is_in-reverse ps q) ∙ or_comm (is_in ps q) (p == q)

-- a list, and another from its end on
pub is_in-listed : (order path : List ℕ) (q : ℕ)
    → is_in (order ++ reverse path) q ≡ (is_in order q || is_in path q)
is_in-listed order path q =
    is_in-append order (reverse path) q ∙ ap (λ b. is_in order q || b) (is_in-reverse path q)

-- one more of the first qubits of a list
pub in_more : (order : List ℕ) (i q : ℕ) → i < length order
    → is_in (take (i + 1) order) q ≡ (is_in (take i order) q || (get_or order i 0 == q))
in_more order i q within =
    ap (λ qs. is_in qs q) (take_more order i 0 within)
    ∙ is_in-push (take i order) (get_or order i 0) q

-- ---- none twice

pub once_more : (qs : List ℕ) (q : ℕ) → Once qs → is_in qs q ≡ false → Once (qs ++ q ∷ [])
once_more [] q once out = (refl, tt)
once_more (r ∷ rs) q once out =
    let pushed = is_in-push rs q r in
    (grind (arith, nat_tests), once_more rs q once.1 (grind (arith, nat_tests)))
