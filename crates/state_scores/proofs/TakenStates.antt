-- States that are taken off the front of others, and what is known after one of them.
use Rattle.state_scores.proofs.Common.{nat_tests, ◌≡◌, ◌≤◌, ◌<◌, ◌^◌, ℕ, ◌+◌, List, [], ◌∷◌, ◌++◌, All, length, take, get_or, arith, refl, ap, ◌∙◌, subst, append_assoc, All-tail, Bool, StateLine, Judgement, score_of, zip, get_or_append_left, length-append, take_all, take_more, get_or-zip, length-zip, Standing, after_score, after_states}

zip_more : (lines : List ℕ) (states : List (List Bool)) (line : ℕ) (state : List Bool)
    → length lines ≡ length states
    → zip (lines ++ line ∷ []) (states ++ state ∷ []) ≡ zip lines states ++ (line, state) ∷ []
zip_more [] [] line state even = refl
zip_more [] (s ∷ states) line state even = absurd (omega (arith, even))
zip_more (l ∷ lines) [] line state even = absurd (omega (arith, even))
zip_more (l ∷ lines) (s ∷ states) line state even =
    ap (λ (rest : List StateLine). (l, s) ∷ rest) (zip_more lines states line state (omega (arith, even)))

-- one state more is taken
pub taken_more : (before after rest : List StateLine) (lines more : List ℕ) (states others : List (List Bool))
    (line : ℕ) (state : List Bool) → length lines ≡ length states → before ≡ zip lines states ++ after
    → after ≡ (line, state) ∷ rest → more ≡ lines ++ line ∷ [] → others ≡ states ++ state ∷ []
    → before ≡ zip more others ++ rest
taken_more before after rest lines more states others line state even front next numbered stated =
    grind (arith, nat_tests, append_assoc, zip_more)

-- what is known after one state more
pub after_more : (j : Judgement) (s : Standing) (states : List StateLine) (state : StateLine)
    → after_states j s (states ++ state ∷ []) ≡ after_score (after_states j s states) (score_of j state) state.1
after_more j s [] state = refl
after_more j s (first ∷ states) state =
    after_more j (after_score s (score_of j first) first.1) states state

pub after_place : (j : Judgement) (s : Standing) (lines : List ℕ) (states : List (List Bool)) (k : ℕ)
    → length lines ≡ length states → k < length lines
    → after_states j s (take (k + 1) (zip lines states))
    ≡ after_score (after_states j s (take k (zip lines states)))
    (score_of j (get_or lines k 0, get_or states k [])) (get_or states k [])
after_place j s lines states k even within =
    let all = zip lines states in
    let blank : StateLine = (0, []) in
    let inside : k < length all = omega (arith, length-zip lines states, even, within) in
    ap (after_states j s) (take_more all k blank inside)
    ∙ after_more j s (take k all) (get_or all k blank)
    ∙ ap (λ (state : StateLine). after_score (after_states j s (take k all)) (score_of j state) state.1)
    (get_or-zip lines states k blank within (omega (arith, even, within)))

pub low_line : (lines : List ℕ) (states : List (List Bool)) (k line : ℕ) → length lines ≡ length states
    → k < length lines → line ≡ get_or lines k 0 → All (λ s. s.0 < 2 ^ 32) (zip lines states) → line < 2 ^ 32
low_line lines states k line even within is low =
    let blank : StateLine = (0, []) in
    let here = low k blank (omega (arith, length-zip lines states, even, within)) in
    grind (arith, nat_tests, get_or-zip)

pub all_taken : (lines : List ℕ) (states : List (List Bool)) (k : ℕ) → length lines ≡ length states
    → length lines ≤ k → take k (zip lines states) ≡ zip lines states
all_taken lines states k even all = grind (arith, nat_tests, take_all, length-zip)

-- the numbers of those that were taken, and of those that are left
pub low_taken : (before front after : List StateLine) → before ≡ front ++ after
    → All (λ s. s.0 < 2 ^ 32) before → All (λ s. s.0 < 2 ^ 32) front
low_taken before front after cut low = λ k d within.
    let here = low k d (omega (arith, ap length cut, length-append front after, within)) in
    let at = ap (λ (l : List StateLine). (get_or l k d).0) cut ∙ ap (λ (s : StateLine). s.0) (get_or_append_left front after d k within) in
    omega (arith, here, at)

pub low_left : (before front after : List StateLine) → before ≡ front ++ after
    → All (λ s. s.0 < 2 ^ 32) before → All (λ s. s.0 < 2 ^ 32) after
low_left before [] after cut low = subst (λ (l : List StateLine). All (λ s. s.0 < 2 ^ 32) l) cut low
low_left before (s ∷ front) after cut low =
    low_left (front ++ after) front after refl
    (All-tail (λ (s : StateLine). s.0 < 2 ^ 32) s (front ++ after)
    (subst (λ (l : List StateLine). All (λ s. s.0 < 2 ^ 32) l) cut low))

-- fewer are left where some were taken
pub fewer_left : (before after : List StateLine) (lines : List ℕ) (states : List (List Bool))
    → before ≡ zip lines states ++ after → length lines ≡ length states → 0 < length lines
    → length after < length before
fewer_left before after lines states cut even some =
    omega (arith, ap length cut, length-append (zip lines states) after, length-zip lines states, even, some)

-- where none was taken, there were none
pub none_left : (before after : List StateLine) (lines : List ℕ) (states : List (List Bool))
    → before ≡ zip lines states ++ after → length lines ≡ length states → length lines ≡ 0
    → (states ≡ [] → after ≡ []) → before ≡ []
none_left before after [] [] cut even none all = cut ∙ all refl
none_left before after [] (s ∷ states) cut even none all = absurd (omega (arith, even))
none_left before after (l ∷ lines) states cut even none all = absurd (omega (arith, none))
