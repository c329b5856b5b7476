-- A lexer's fields, and what it is seen as.
use Rattle.whole_text.proofs.Common.{nat_tests, ◌≡◌, ℕ, ◌+◌, ◌<◌, ◌≤◌, Bool, true, false, eqb, suc, List, [], ◌∷◌, ◌++◌, length, take, drop, refl, subst, append_assoc, append-nil, arith, Result, OnOk, slice_range, prefix_len, AllByRecursion, cases_Bool, drop_all, length-drop, take-take, length-take-le, take-append-le, drop-append-le, get_or-drop, prefix_len-le-length, At, Token, word, is_feed, is_blank, joins, comment_byte, words_at, AreJoined, Place, Fresh, Between, Inside, Comment, LexerState, StandsFor, place_at, IsWordStart, begun, is_above_blank, IsLive}
use Rattle.whole_text.specs.declared.token.Style.TheVariants.{Plain}
use Rattle.whole_text.proofs.LexerSteps.{after_ink, cut_off, stands_ink, stands_kept}
use Rattle.whole_text.proofs.Pieces.{last_of}

-- where a step answers, the lexer is in a state that stands for one byte more
pub stands_on : {A E : Type 0} (r : Result A E) (old new next : LexerState) (b : ℕ) → OnOk r (new ≡ next)
    → ((text : List ℕ) → StandsFor old text → StandsFor next (text ++ b ∷ [])) → OnOk r ((text : List ℕ) → StandsFor old text → StandsFor new (text ++ b ∷ []))
stands_on r old new next b e f = grind (arith, nat_tests)

-- ---- bytes behind the last word that has ended

joined_order : (low : ℕ) (ts : List Token) (high : ℕ) → AreJoined low ts high → low ≤ high
joined_order low [] high h = omega (arith, h)
joined_order low (t ∷ ts) high h = omega (arith, h.0, h.1, joined_order t.end ts high h.2)

range_kept : (bytes more : List ℕ) (a b : ℕ) → a ≤ b → b ≤ length bytes → slice_range (bytes ++ more) a b ≡ slice_range bytes a b
range_kept bytes more a b ab le =
    grind (arith, nat_tests, drop-append-le, take-append-le, length-drop)

-- words that have ended stay as they are
pub words_kept : (bytes more : List ℕ) (low : ℕ) (ts : List Token) (high : ℕ) → AreJoined low ts high → high ≤ length bytes → words_at (bytes ++ more) ts ≡ words_at bytes ts
words_kept bytes more low [] high h le = refl
words_kept bytes more low (t ∷ ts) high h le =
    grind (arith, nat_tests, words_kept bytes more t.end ts high h.2 le, joined_order, range_kept)

-- a word starts within the bytes
pub starts_within : (a : At) (start size : ℕ) → IsWordStart a start size → start ≤ size
starts_within a start size h = grind (arith, nat_tests)

-- the bytes of the word that hasn't ended
pub begun_held : (a : At) (bytes : List ℕ) (start : ℕ) → IsWordStart a start (length bytes) → IsLive (place_at a (drop start bytes)) → drop start bytes ≡ begun (place_at a (drop start bytes))
begun_held a bytes start h live = grind (arith, nat_tests, drop_all)

-- ---- a byte that is neither a blank nor a line feed

-- in a comment nothing changes
pub ink_comment : (s : LexerState) (text : List ℕ) (b : ℕ) → s.place ≡ Comment → is_feed b ≡ false → is_blank b ≡ false → StandsFor s text → StandsFor s (text ++ b ∷ [])
ink_comment s text b here feed ink h = grind (arith, nat_tests, stands_kept s text b s.size)

-- the byte that begins a comment
pub ink_begins : (s : LexerState) (text : List ℕ) (b : ℕ) → s.place ≡ Fresh → b ≡ comment_byte s.style → is_feed b ≡ false → is_blank b ≡ false → StandsFor s text → StandsFor (record s { place = Comment }) (text ++ b ∷ [])
ink_begins s text b here mark feed ink h = grind (arith, nat_tests, stands_kept s text b s.size)

-- the byte begins a token, or goes on with the one that has begun
pub record GoesOn (s : LexerState) (b : ℕ) : Type 0 where
  pub kept : cut_off s.style s.line s.place b ≡ []
  pub after : after_ink s.style s.place b ≡ Inside (begun s.place ++ b ∷ [])

pub ink_pushed : (s : LexerState) (text : List ℕ) (b : ℕ) → GoesOn s b → is_feed b ≡ false → is_blank b ≡ false
    → StandsFor s text → StandsFor (record s { place = Inside (begun s.place ++ b ∷ []); size = s.size + 1 }) (text ++ b ∷ [])
ink_pushed s text b on feed ink h = grind (arith, nat_tests, stands_kept s text b (s.size + 1))

pub ink_fresh : (s : LexerState) (b : ℕ) → s.place ≡ Fresh → eqb b (comment_byte s.style) ≡ false → GoesOn s b
ink_fresh s b here other = grind (arith, nat_tests)

pub ink_between : (s : LexerState) (b : ℕ) → s.place ≡ Between → GoesOn s b
ink_between s b here = record { kept = rw here refl; after = rw here refl }

pub ink_inside : (s : LexerState) (w : List ℕ) (b : ℕ) → s.place ≡ Inside w → joins s.style (last_of w) b ≡ true → GoesOn s b
ink_inside s w b here together = record { kept = rw (here, together) refl; after = rw (here, together) refl }

-- the byte begins the next token
pub ink_apart : (s : LexerState) (text w : List ℕ) (b : ℕ) → s.place ≡ Inside w → joins s.style (last_of w) b ≡ false
    → is_feed b ≡ false → is_blank b ≡ false → StandsFor s text
    → StandsFor (record s { words = s.words ++ word s.line w ∷ []; place = Inside (b ∷ []); size = s.size + 1 }) (text ++ b ∷ [])
ink_apart s text w b here apart feed ink h =
    rw (here, apart) at (stands_ink s text b (s.size + 1) feed ink (omega arith) h)

-- the last byte of all is that of the token that has begun
pub last_begun : (bytes : List ℕ) (start : ℕ) → start < length bytes → last_of (drop start bytes) ≡ last_of bytes
last_begun bytes start lt = grind (arith, nat_tests, length-drop, get_or-drop)

-- inside a token the bytes behind the last word that has ended are those of the token
pub held_inside : (a : At) (held : List ℕ) (start size : ℕ) (w : List ℕ) → place_at a held ≡ Inside w
    → IsWordStart a start size → (held ≡ w) × (start < size)
held_inside a held start size w e h = grind (arith, nat_tests)

-- inside a token the place is that of whatever bytes are held
pub place_inside : (a : At) (held w other : List ℕ) → place_at a held ≡ Inside w → place_at a other ≡ Inside other
place_inside a held w other e = grind (arith, nat_tests)

-- ---- a run of bytes above the blank, inside a token of the plain style

-- the state with the run in its token
abbrev run_state : LexerState → List ℕ → List ℕ → LexerState
run_state s w bs = record s { place = Inside (w ++ bs); size = s.size + length bs }

-- each byte goes on with the token
stands_run : (s : LexerState) (text w bs : List ℕ) → s.style ≡ Plain → s.place ≡ Inside w → AllByRecursion (λ b. is_above_blank b ≡ true) bs
    → StandsFor s text → StandsFor (run_state s w bs) (text ++ bs)
stands_run s text w [] plain here above h = grind (arith, nat_tests, append-nil)
stands_run s text w (b ∷ bs) plain here above h =
    let next = record s { place = Inside (w ++ b ∷ []); size = s.size + 1 } in
    let one : StandsFor next (text ++ b ∷ []) =
    subst (λ (p : Place). StandsFor (record s { place = Inside (begun p ++ b ∷ []); size = s.size + 1 }) (text ++ b ∷ [])) here
    (ink_pushed s text b (ink_inside s w b here (rw plain refl)) (grind arith) (grind arith) h) in
    let more = stands_run next (text ++ b ∷ []) (w ++ b ∷ []) bs plain refl above.1 one in
    grind (arith, nat_tests, append_assoc)

-- the bytes in front that pass a test
pub front_passes : (p : ℕ → Bool) (xs : List ℕ) → AllByRecursion (λ x. p x ≡ true) (take (prefix_len p xs) xs)
front_passes p [] = tt
front_passes p (x ∷ xs) =
    let next : suc (prefix_len p xs) ≡ 1 + prefix_len p xs = omega arith in
    grind (arith, nat_tests, front_passes p xs, cases_Bool)

-- the bytes above the blank in front of a chunk
pub run_fed : (now new : LexerState) (w rest : List ℕ) (size len : ℕ) → now.style ≡ Plain → now.place ≡ Inside w
    → len ≡ prefix_len is_above_blank (take size rest) → len ≤ size
    → new ≡ record now { place = Inside (begun now.place ++ take len (take size rest)); size = now.size + len }
    → (text : List ℕ) → StandsFor now text → StandsFor new (text ++ take len rest)
run_fed now new w rest size len plain here counted le is text h =
    let bs = take len (take size rest) in
    let above = front_passes is_above_blank (take size rest) in
    let few = prefix_len-le-length is_above_blank (take size rest) in
    let ran = stands_run now text w bs plain here (rw counted above) h in
    grind (arith, nat_tests, length-take-le, take-take)
