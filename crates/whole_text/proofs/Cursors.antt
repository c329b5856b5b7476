-- What the first mark says: the word that it cuts off, and the cursor behind that.
use Rattle.whole_text.proofs.Common.{◌≡◌, ℕ, ◌+◌, ◌-◌, ◌<◌, ◌≤◌, ◌^◌, List, ◌∷◌, length, get_or, take, drop, length-drop, ap, arith, nat_tests, take_rest, Stride, word, stride_of, strides, words_along, bytes_along, lines_along, IsCursor}

-- those after the first, as the code lends them
abbrev pub later : {A : Type 0} → List A → List A
later xs = take (length xs - 1) (drop 1 xs)

pub narrow_first : (marks : List ℕ) (wide : List Stride) → 1 ≤ length marks
    → (get_or marks 0 0 ≡ 0 → ⊥)
    → strides marks wide ≡ stride_of (get_or marks 0 0) ∷ strides (later marks) wide
narrow_first marks wide some not = grind (arith, nat_tests, take_rest marks 1)

pub wide_first : (marks : List ℕ) (wide : List Stride) (d : Stride) → 1 ≤ length marks
    → get_or marks 0 0 ≡ 0 → 1 ≤ length wide
    → strides marks wide ≡ get_or wide 0 d ∷ strides (later marks) (later wide)
wide_first marks wide d some is more = grind (arith, nat_tests, take_rest marks 1, take_rest wide 1)

-- the first stride keeps within the bytes and the lines, and the cursor behind it too
module _ (line : ℕ) (bytes marks marks' : List ℕ) (wide wide' : List Stride) (s : Stride) (cursor : IsCursor line bytes marks wide) (is : strides marks wide ≡ s ∷ strides marks' wide') where
  pub first_within : s.len ≤ length bytes
  first_within = omega (arith, cursor.within, ap bytes_along is)

  pub first_few : line + s.lines < 2 ^ 64
  first_few = omega (arith, cursor.few, ap lines_along is)

  pub cursor_behind : (line' : ℕ) (back : List ℕ) → line' ≡ line + s.lines → back ≡ drop s.len bytes
      → IsCursor line' back marks' wide'
  cursor_behind line' back next rest = grind (arith, nat_tests, length-drop)

  pub words_cut : (line' : ℕ) (front back : List ℕ) → line' ≡ line + s.lines → front ≡ take s.len bytes
      → back ≡ drop s.len bytes → words_along line bytes (strides marks wide)
      ≡ word line' front ∷ words_along line' back (strides marks' wide')
  words_cut line' front back next first rest = grind (arith, nat_tests)
