-- A file that is cut into words as it comes.
use Rattle.run_steps.proofs.Common.{nat_tests, ◌≡◌, ℕ, ◌+◌, ◌≤◌, List, [], ◌++◌, length, take, Some, None, Ok, Result, refl, sym, subst, append_assoc, arith, append-nil, length-append, length-take, take-append-le, Consumes, IsAtEnd, Option, NamedFiles, IsFront, WhereTold, find_file, Style, Word, tokens_of, LexerState, StandsFor, Which, Format, Slack, Read, problem_of_words, style_of, Status, Steps, cutting, ◌>>=◌, ends, gives, taking, text_end, Meets, Refuses, AreWordsOf, IsCut, reading_file, Source}
use Rattle.run_steps.proofs.Stepping.{bound, meets_next}

-- the front of a file, with the piece that was taken next
front_more : (held : Option NamedFiles) (name front piece : List ℕ) (rest left : Option (List ℕ))
    → IsFront held name front rest → Consumes rest left piece
    → IsFront held name (front ++ piece) left
front_more held name front piece rest left is taken = grind (arith, nat_tests, append_assoc)

-- one piece more, which came in the first bytes of a buffer
pub cut_more : (held : Option NamedFiles) (name : List ℕ) (taken count : ℕ) (bytes behind : List ℕ)
    (rest left : Option (List ℕ)) (old new : LexerState) → IsCut held name taken rest old
    → count ≤ length bytes → Consumes rest left (take count bytes)
    → ((text : List ℕ) → StandsFor old text → StandsFor new (text ++ take count (bytes ++ behind)))
    → IsCut held name (taken + count) left new
cut_more held name taken count bytes behind rest left old new cut within consumed fed =
    grind (arith, nat_tests, take-append-le, length-append, length-take, front_more)

-- a lexer of no text, at the start of the file
pub cut_none : (held : Option NamedFiles) (name : List ℕ) (rest : Option (List ℕ))
    (lexer : LexerState) → IsFront held name [] rest → StandsFor lexer []
    → IsCut held name 0 rest lexer
cut_none held name rest lexer front stands =
    record { text = []; stands = stands; counted = refl; front = front }

-- the words of a lexer that stands for the whole file
pub words_cut : (held : Option NamedFiles) (name : List ℕ) (limit taken : ℕ) (style : Style)
    (rest : Option (List ℕ)) (lexer : LexerState) (words : List Word)
    → IsCut held name taken rest lexer → IsAtEnd rest → taken ≤ limit → lexer.style ≡ style
    → ((text : List ℕ) → StandsFor lexer text → words ≡ tokens_of lexer.style text)
    → WhereTold held (λ h. AreWordsOf (find_file h name) limit style words)
words_cut held name limit taken style rest lexer words cut ended few styled said =
    grind (arith, nat_tests, append-nil)

-- a file that was begun is held
pub begun_held : (P : Type 0) (held : Option NamedFiles) (name front : List ℕ)
    (rest : Option (List ℕ)) → IsFront held name front rest
    → WhereTold held (λ h. find_file h name ≡ None → P)
begun_held P held name front rest is = grind (arith, nat_tests)

-- ---- reading what was cut

-- what is made of the words of a file is made of its bytes
pub cut_next : {X B : Type 0} (view : X → B) (result : Result X Status) (held : NamedFiles)
    (which : Which) (name : List ℕ) (style : Style) (cut : List Word) (f : List Word → Steps B)
    → (cutting held which name style).end ≡ Some (Ok cut) → Meets view result (f cut)
    → Meets view result (taking held which name >>= λ bytes. f (tokens_of style bytes))
unfolding cutting
cut_next view result held which name style cut f e meets =
    let taken = bound (taking held which name) (λ bytes. gives (tokens_of style bytes)) cut e in
    let same : tokens_of style taken.0 ≡ cut = let two = taken.2 in cc in
    meets_next view result (taking held which name) (λ bytes. f (tokens_of style bytes)) taken.0 taken.1
    (subst (λ ws. Meets view result (f ws)) (sym same) meets)

read_once : (held : NamedFiles) (name : List ℕ) (slack : Slack) (format : Format) (style : Style)
    (cut : List Word) (result : Result Read Status) → style ≡ style_of format
    → (cutting held Source name style).end ≡ Some (Ok cut)
    → Meets (λ r. r) result (ends (text_end Source (problem_of_words slack format cut)))
    → Meets (λ r. r) result (reading_file held name slack format)
unfolding cutting reading_file
read_once held name slack format style cut result its_own e meets = grind (arith, nat_tests)

-- what the words of a file are read into is what the file is read into
pub read_from_words : (told : Option NamedFiles) (name : List ℕ) (slack : Slack) (format : Format) (style : Style)
    (cut : List Word) (result : Result Read Status) → style ≡ style_of format
    → WhereTold told (λ held. (cutting held Source name style).end ≡ Some (Ok cut))
    → Meets (λ r. r) result (ends (text_end Source (problem_of_words slack format cut)))
    → WhereTold told (λ held. Meets (λ r. r) result (reading_file held name slack format))
read_from_words told name slack format style cut result its_own e meets =
    grind (arith, nat_tests, read_once)

-- a file that could not be taken is refused, whatever is made of its bytes
pub cut_refuses : {B : Type 0} (status : Status) (held : NamedFiles) (which : Which)
    (name : List ℕ) (style : Style) (g : List ℕ → Steps B)
    → Refuses status (cutting held which name style) → Refuses status (taking held which name >>= g)
unfolding cutting
cut_refuses status held which name style g refused = grind (arith, nat_tests)

pub read_refused : (told : Option NamedFiles) (name : List ℕ) (slack : Slack) (format : Format) (style : Style)
    (status : Status) → WhereTold told (λ held. Refuses status (cutting held Source name style))
    → WhereTold told (λ held. Refuses status (reading_file held name slack format))
unfolding reading_file
read_refused told name slack format style status refused = grind (arith, nat_tests, cut_refuses)
