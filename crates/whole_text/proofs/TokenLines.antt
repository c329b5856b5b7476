-- The line of a token: how many line feeds stand before it.
use Rattle.whole_text.proofs.Common.{nat_tests, ◌≡◌, ℕ, ◌+◌, ◌-◌, ◌<◌, ◌≤◌, true, false, cases_Bool, inl, inr, subst, List, [], ◌∷◌, ◌++◌, length, take, drop, refl, sym, ap, ◌∙◌, arith, All, All-from_recursion, take-add, length-drop, Token, position_or_len, is_feed, feeds, IsOnItsLine, IsOnLine}
use Rattle.std.specs.Prelude.{◌⊎◌}

feeds-append : (xs ys : List ℕ) → feeds (xs ++ ys) ≡ feeds xs + feeds ys
feeds-append [] ys = omega arith
feeds-append (x ∷ xs) ys = omega (arith, feeds-append xs ys)

-- the first n + m bytes have the line feeds of the first n, and those of the next m
feeds_more : (text : List ℕ) (n m : ℕ) → feeds (take (n + m) text) ≡ feeds (take n text) + feeds (take m (drop n text))
feeds_more text n m = ap feeds (take-add n m text) ∙ feeds-append (take n text) (take m (drop n text))

-- a front of bytes without a line feed has none
feeds_front : (n m : ℕ) (bs : List ℕ) → feeds (take (n + m) bs) ≡ 0 → feeds (take n bs) ≡ 0
feeds_front n m bs none = omega (arith, feeds_more bs n m, none)

first_by : (b : ℕ) (bs : List ℕ) → feeds (take (position_or_len is_feed bs) bs) ≡ 0 → (is_feed b ≡ true) ⊎ (is_feed b ≡ false)
    → feeds (take (position_or_len is_feed (b ∷ bs)) (b ∷ bs)) ≡ 0
first_by b bs later (inl is) = rw is refl
first_by b bs later (inr isnt) =
    rw isnt (grind (arith, nat_tests, feeds_more (b ∷ bs) 1 (position_or_len is_feed bs), isnt, later))

-- a line, up to its line feed, has none
pub first_line : (bs : List ℕ) → feeds (take (position_or_len is_feed bs) bs) ≡ 0
first_line [] = refl
first_line (b ∷ bs) = first_by b bs (first_line bs) (cases_Bool (is_feed b))

-- and one with it
pub first_feed : (bs : List ℕ) → position_or_len is_feed bs < length bs → feeds (take (position_or_len is_feed bs + 1) bs) ≡ 1
first_feed [] lt = omega (arith, lt)
first_feed (b ∷ bs) lt = grind (arith, nat_tests, first_feed bs)

-- the next line has one line feed more before it
pub next_line : (text : List ℕ) (start n line : ℕ) → n ≡ position_or_len is_feed (drop start text) → start + n < length text
    → line ≡ 1 + feeds (take start text) → line + 1 ≡ 1 + feeds (take (start + n + 1) text)
next_line text start n line e lt number =
    let one : feeds (take (n + 1) (drop start text)) ≡ 1 = rw e (first_feed (drop start text) (rw (sym e) (omega (arith, length-drop start text, lt)))) in
    let same : start + n + 1 ≡ start + (n + 1) = omega arith in
    rw same (omega (arith, feeds_more text start (n + 1), one, number))

-- a token that begins on a line names that line
pub one_on_line : (text : List ℕ) (start at end : ℕ) (t : Token) → start ≤ at → at ≤ end → end ≤ length text
    → IsOnLine text start end t.line → t.start ≡ at → All (IsOnItsLine text) (t ∷ [])
one_on_line text start at end t low high within on here =
    let whole : (at - start) + (end - at) ≡ end - start = omega arith in
    let none = feeds_front (at - start) (end - at) (drop start text) (rw whole on.one) in
    let place : t.start ≡ start + (at - start) = omega (arith, here) in
    let more = feeds_more text start (at - start) in
    All-from_recursion (IsOnItsLine text) (t ∷ []) (subst (λ n. t.line ≡ 1 + feeds (take n text)) (sym place) (omega (arith, more, none, on.number)), tt)

back : (start n : ℕ) → n ≡ start + n - start
back start n = omega arith

-- the bytes up to the next line feed stand on one line
pub on_line : (text : List ℕ) (start n line : ℕ) → n ≡ position_or_len is_feed (drop start text) → line ≡ 1 + feeds (take start text) → IsOnLine text start (start + n) line
on_line text start n line e number = record {
  number = number;
  one = subst (λ m. feeds (take m (drop start text)) ≡ 0) (sym e ∙ back start n) (first_line (drop start text));
}
