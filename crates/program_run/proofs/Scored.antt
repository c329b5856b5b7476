-- What states are worth to two judges who agree on them.
use Rattle.program_run.proofs.Common.{nat_tests, arith, ◌≡◌, ℕ, ◌+◌, Bool, not, ◌||◌, cond, List, [], ◌∷◌, length, map, find, Ok, Some, Option, refl, ◌∙◌, AllByRecursion, length-map, eqb-true, Written, decoding_of, NamedFiles, StateLine, is_one, is_state, states_from, states_of, Score, IsEvaluation, Judgement, best_of, has_better, is_better, score_of, evaluation_text, Several, scanning, bound, IsScored}

-- judges who agree on each of these states
abbrev pub AreAlike : Judgement → Judgement → List StateLine → Type 0
AreAlike j k states = AllByRecursion (λ (state : StateLine). score_of j state ≡ score_of k state) states

scores_alike : (j k : Judgement) (states : List StateLine) → AreAlike j k states
    → map (score_of j) states ≡ map (score_of k) states
scores_alike j k [] alike = refl
scores_alike j k (state ∷ states) alike = λ i. alike.0 i ∷ scores_alike j k states alike.1 i

better_alike : (j k : Judgement) (others : List StateLine) (state : StateLine) → AreAlike j k others
    → score_of j state ≡ score_of k state → has_better j others state ≡ has_better k others state
better_alike j k [] state alike same = refl
better_alike j k (other ∷ others) state alike same =
    λ i. is_better (alike.0 i) (same i) || better_alike j k others state alike.1 same i

found_alike : (j k : Judgement) (all states : List StateLine) → AreAlike j k all
    → AreAlike j k states → find (λ state. not (has_better j all state)) states
    ≡ find (λ state. not (has_better k all state)) states
found_alike j k all [] every alike = refl
found_alike j k all (state ∷ states) every alike =
    λ i. cond (not (better_alike j k all state every alike.0 i)) (Some state)
    (found_alike j k all states every alike.1 i)

found_on : (Q : StateLine → Type 0) (state : StateLine) (later : Option StateLine)
    (best : StateLine) (b : Bool) → cond b (Some state) later ≡ Some best → Q state
    → (later ≡ Some best → Q best) → Q best
found_on Q state later best b e is rest = grind (arith, nat_tests)

-- what holds of all holds of the one that is found
found_is : (Q : StateLine → Type 0) (p : StateLine → Bool) (states : List StateLine)
    (best : StateLine) → find p states ≡ Some best → AllByRecursion Q states → Q best
found_is Q p [] best e all = absurd cc
found_is Q p (state ∷ states) best e all =
    found_on Q state (find p states) best (p state) e all.0 (λ h. found_is Q p states best h all.1)

pub scored_alike : (j k : Judgement) (m : Written) (names others : Option (List (List ℕ)))
    (states : List StateLine) (text : List ℕ) → names ≡ others → AreAlike j k states
    → IsScored j names m states text → IsScored k others m states text
scored_alike j k m names others states text same alike told =
    grind (arith, nat_tests, found_is, found_alike, scores_alike)

-- ---- states of one width

-- the states have so many bits
abbrev pub AreWide : ℕ → List StateLine → Type 0
AreWide width states = AllByRecursion (λ (state : StateLine). length state.1 ≡ width) states

-- judges who agree on all states of this width agree on these
pub alike_where_wide : (width : ℕ) (j k : Judgement) (states : List StateLine) → AreWide width states
    → ((y : List Bool) → length y ≡ width → j.cost y ≡ k.cost y)
    → ((y : List Bool) → j.energy y ≡ k.energy y) → AreAlike j k states
alike_where_wide width j k [] wide costs energies = tt
alike_where_wide width j k (state ∷ states) wide costs energies =
    grind (arith, nat_tests, alike_where_wide width j k states wide.1 costs energies)

wide_with : (width number : ℕ) (line : List ℕ) (later : List (ℕ × List ℕ)) (fits : Bool)
    → is_state width line ≡ fits
    → AreWide width (map (λ (l : ℕ × List ℕ). (l.0, map is_one l.1)) later)
    → AreWide width (map (λ (l : ℕ × List ℕ). (l.0, map is_one l.1))
    (cond fits ((number, line) ∷ later) later))
wide_with width number line later fits is rest = grind (arith, nat_tests, length-map, eqb-true)

states_wide : (width number : ℕ) (lines : List (List ℕ))
    → AreWide width (states_from width number lines)
states_wide width number [] = tt
states_wide width number (line ∷ lines) =
    grind (arith, nat_tests, states_wide width (number + 1) lines, wide_with)

-- the states that are read have the width that was asked for
pub scanned_widths : (held : NamedFiles) (name : List ℕ) (width : ℕ) (states : List StateLine)
    → (scanning held name width).end ≡ Some (Ok (Several states)) → AreWide width states
unfolding scanning
scanned_widths held name width states e = grind (arith, nat_tests, bound, states_wide)

-- the best of them has it
pub best_wide : (j : Judgement) (width : ℕ) (text : List ℕ) (best : StateLine)
    → best_of j (states_of width text) ≡ Some best → length best.1 ≡ width
best_wide j width text best first = grind (arith, nat_tests, found_is, states_wide)

-- what an evaluation says of states, with what the best of them decodes to
pub scored_by : (j : Judgement) (m : Written) (names : Option (List (List ℕ)))
    (states : List StateLine) (scores : List Score) (best : Score) (bits x : List Bool)
    (text : List ℕ) → IsEvaluation j states scores best bits → x ≡ (decoding_of m).decoded bits
    → text ≡ evaluation_text scores best x names → IsScored j names m states text
scored_by j m names states scores best bits x text found decodes said = record {
  best = (best.line, bits);
  first = found.first;
  said = said ∙ (λ i. evaluation_text (found.listed i) (found.worth i) (decodes i) names);
}
