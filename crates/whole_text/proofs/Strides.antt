-- Strides, and the tokens and words that they stand for.
use Rattle.whole_text.proofs.Common.{nat_tests, ◌≡◌, ℕ, suc, ◌+◌, ◌*◌, ◌<◌, ◌≤◌, eqb, List, [], ◌∷◌, ◌++◌, length, drop, refl, ap, arith, if◌then◌else◌, drop-drop, Stride, Token, words_at, AreJoined, last_line, stride_of, strides, placed, words_along, bytes_along, lines_along, wide_marks}

-- ---- marks

-- a mark says its length and its lines
pub stride_again : (s : Stride) → s.len < 128 → stride_of (s.lines * 128 + s.len) ≡ s
stride_again s small = grind (arith, nat_tests)

-- one more mark that is not 0
pub strides_mark : (marks : List ℕ) (wide : List Stride) (mark : ℕ) → wide_marks marks ≡ length wide → 0 < mark
    → strides (marks ++ mark ∷ []) wide ≡ strides marks wide ++ stride_of mark ∷ []
strides_mark [] wide mark e some = grind (arith, nat_tests)
strides_mark (m ∷ marks) wide mark e some = grind (arith, nat_tests, strides_mark marks)

-- one more wide stride, with its mark of 0
pub strides_wide : (marks : List ℕ) (wide : List Stride) (last : Stride) → wide_marks marks ≡ length wide
    → strides (marks ++ 0 ∷ []) (wide ++ last ∷ []) ≡ strides marks wide ++ last ∷ []
strides_wide [] [] last e = refl
strides_wide [] (s ∷ wide) last e = absurd (omega (arith, e))
strides_wide (m ∷ marks) [] last e = grind (arith, nat_tests, strides_wide marks)
strides_wide (m ∷ marks) (s ∷ wide) last e =
    grind (arith, nat_tests, strides_wide marks wide last, strides_wide marks (s ∷ wide) last)

-- as many strides as marks
pub length-strides : (marks : List ℕ) (wide : List Stride) → wide_marks marks ≡ length wide → length (strides marks wide) ≡ length marks
length-strides [] wide e = refl
length-strides (m ∷ marks) wide e = grind (arith, nat_tests, length-strides marks)

-- one more mark, 0 or not
pub wide_marks-push : (marks : List ℕ) (mark : ℕ) → wide_marks (marks ++ mark ∷ []) ≡ wide_marks marks + (if eqb mark 0 then 1 else 0)
wide_marks-push [] mark = omega arith
wide_marks-push (m ∷ marks) mark = omega (arith, wide_marks-push marks mark)

-- ---- tokens

-- the token of a stride
abbrev pub token_along : ℕ → ℕ → Stride → Token
token_along at line s = record { start = at; end = at + s.len; line = line + s.lines }

-- one more stride is one more token
pub placed-push : (at line : ℕ) (ss : List Stride) (s : Stride)
    → placed at line (ss ++ s ∷ []) ≡ placed at line ss ++ token_along (at + bytes_along ss) (line + lines_along ss) s ∷ []
placed-push at line [] s = grind (arith, nat_tests)
placed-push at line (t ∷ ss) s =
    grind (arith, nat_tests, placed-push (at + t.len) (line + t.lines) ss s)

pub lines_along-push : (ss : List Stride) (s : Stride) → lines_along (ss ++ s ∷ []) ≡ lines_along ss + s.lines
lines_along-push [] s = omega arith
lines_along-push (t ∷ ss) s = omega (arith, lines_along-push ss s)

pub length-placed : (at line : ℕ) (ss : List Stride) → length (placed at line ss) ≡ length ss
length-placed at line [] = refl
length-placed at line (s ∷ ss) = ap suc (length-placed (at + s.len) (line + s.lines) ss)

-- joined tokens take all bytes between the two places
pub joined_bytes : (at line : ℕ) (ss : List Stride) (high : ℕ) → AreJoined at (placed at line ss) high → at + bytes_along ss ≡ high
joined_bytes at line [] high h = omega (arith, h)
joined_bytes at line (s ∷ ss) high h = omega (arith, joined_bytes (at + s.len) (line + s.lines) ss high h.2)

-- each token takes at least one byte
pub length-joined : (low : ℕ) (ts : List Token) (high : ℕ) → AreJoined low ts high → low + length ts ≤ high
length-joined low [] high h = omega (arith, h)
length-joined low (t ∷ ts) high h = omega (arith, h.0, h.1, length-joined t.end ts high h.2)

pub joined-push : (low : ℕ) (ts : List Token) (t : Token) → AreJoined low ts t.start → t.start < t.end → AreJoined low (ts ++ t ∷ []) t.end
joined-push low [] t h some = (h, some, refl)
joined-push low (u ∷ ts) t h some = (h.0, h.1, joined-push u.end ts t h.2 some)

-- ---- lines

-- the line of a token that was pushed
pub last_line_pushed : (ts : List Token) (t : Token) → last_line (ts ++ t ∷ []) ≡ t.line
last_line_pushed [] t = refl
last_line_pushed (u ∷ []) t = omega arith
last_line_pushed (u ∷ v ∷ ts) t = grind (arith, nat_tests, last_line_pushed (v ∷ ts) t)

last_from : (at line : ℕ) (s : Stride) (ss : List Stride) → last_line (placed at line (s ∷ ss)) ≡ line + lines_along (s ∷ ss)
last_from at line s [] = omega arith
last_from at line s (t ∷ ss) =
    grind (arith, nat_tests, last_from (at + s.len) (line + s.lines) t ss)

-- the line of the last token
pub last_placed : (ss : List Stride) → last_line (placed 0 1 ss) ≡ 1 + lines_along ss
last_placed [] = omega arith
last_placed (s ∷ ss) = last_from 0 1 s ss

-- ---- words

-- the words at the tokens' places are those cut from the bytes one by one
pub words_placed : (text : List ℕ) (at line : ℕ) (ss : List Stride) → words_along line (drop at text) ss ≡ words_at text (placed at line ss)
words_placed text at line [] = refl
words_placed text at line (s ∷ ss) =
    grind (arith, nat_tests, words_placed text (at + s.len) (line + s.lines) ss, drop-drop)
