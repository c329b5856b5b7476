-- No answer is empty.
use Rattle.program_run.proofs.Common.{ints, nat_tests, ◌≡◌, ◌≢◌, ℕ, Bool, List, [], ◌∷◌, ◌++◌, Option, refl, sym, ◌∙◌, arith, Written, Choices, model_text, summary_text, size_text, OfState, Read, StateLine, Judgement, IsScored, IsModelText, IsSolvedBy, IsToldOf}
use Rattle.command_words.specs.declared.commands.Make.{Make}

same_some : (text other : List ℕ) → text ≡ other → other ≢ [] → text ≢ []
same_some text other same some none = some (sym same ∙ none)

pub model_some : (m : Written) → model_text m ≢ []
unfolding model_text
model_some m none = grind (arith, nat_tests)

pub summary_some : (m : Written) → summary_text m ≢ []
unfolding summary_text
summary_some m none = grind (arith, nat_tests)

-- a text begins with nothing where it is empty
empty_front : (front rest : List ℕ) → front ++ rest ≡ [] → front ≡ []
empty_front [] rest none = refl
empty_front (byte ∷ front) rest none = absurd cc

size_some : (m : Written) → size_text m ≢ []
size_some m none = grind (arith, nat_tests, summary_some, empty_front)

-- what a model alone tells is some text
pub model_text_some : (make : Make) (m : Written) (text : List ℕ) → IsModelText make m text → text ≢ []
model_text_some make m text is =
    grind (arith, nat_tests, same_some, model_some, summary_some, size_some)

-- what is asked of a model is told in some rows
pub solved_some : (order : List ℕ) (read : Read) (m : Written) (text : List ℕ)
    → IsSolvedBy order read m text → text ≢ []
solved_some order read m text is = same_some text _ is.said (grind (arith, nat_tests, ints))

pub bits_some : (of : OfState) (read : Read) (choices : Choices) (m : Written) (bits : List Bool)
    (text : List ℕ) → IsToldOf of read choices m bits text → text ≢ []
bits_some of read choices m bits text is = grind (arith, nat_tests)

-- the scores of states have a row for the best of them
pub scored_some : (j : Judgement) (names : Option (List (List ℕ))) (m : Written)
    (states : List StateLine) (text : List ℕ) → IsScored j names m states text → text ≢ []
scored_some j names m states text is = grind (arith, nat_tests, same_some, empty_front)
