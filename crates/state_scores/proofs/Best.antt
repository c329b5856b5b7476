-- The best of the states so far: each state before it is worse, and none after it is better.
use Rattle.state_scores.proofs.Common.{All-append, All-cons, All-head, All-nil, All-tail, All-weaker, ◌||◌, length, append-nil, ◌≡◌, Bool, true, false, List, [], ◌∷◌, ◌++◌, cond, refl, sym, ap, ◌∙◌, subst, append_assoc, arith, map-append, find, Some, map, if◌then◌else◌, All, list_any, StateLine, Score, IsEvaluation, Judgement, best_of, has_better, is_better, score_of, ◌==◌, nat_tests, IsEvaluationOf, Standing, after_score, after_states, leads}
use Rattle.std.proofs.lemmas.List.Folds.{list_any-append, list_any_none}
use Rattle.state_scores.proofs.Orders.{better_asym, better_over, better_self}

-- whether a state is better than another
abbrev wins : Judgement → StateLine → StateLine → Bool
wins j state other = is_better (score_of j state) (score_of j other)

-- each state before it is worse, and none after it is better
pub record IsBest (j : Judgement) (states : List StateLine) (best : StateLine) : Type 0 where
  pub before : List StateLine
  pub after : List StateLine
  pub split : states ≡ before ++ best ∷ after
  pub worse : All (λ state. wins j best state ≡ true) before
  pub no_better : All (λ state. wins j state best ≡ false) after

-- ---- one state more

-- the first state is the best
pub best_first : (j : Judgement) (state : StateLine) → IsBest j (state ∷ []) state
best_first j state = record { before = []; after = []; split = refl; worse = All-nil _; no_better = All-nil _ }

-- a state that is better than the best is better than all
best_changes : (j : Judgement) (states : List StateLine) (best state : StateLine)
    → wins j state best ≡ true → IsBest j states best → IsBest j (states ++ state ∷ []) state
best_changes j states best state better so_far =
    let beaten = λ (s : StateLine). wins j state s ≡ true in
    let first : All beaten so_far.before =
    All-weaker (λ (s : StateLine). wins j best s ≡ true) beaten
    (λ s worse. better_over (score_of j state) (score_of j best) (score_of j s) better
    (better_asym (score_of j best) (score_of j s) worse)) so_far.before so_far.worse in
    let last : All beaten so_far.after =
    All-weaker (λ (s : StateLine). wins j s best ≡ false) beaten
    (λ s no_better. better_over (score_of j state) (score_of j best) (score_of j s) better no_better)
    so_far.after so_far.no_better in
    record {
      before = states;
      after = [];
      split = refl;
      worse = subst (All beaten) (sym so_far.split)
          (All-append beaten so_far.before (best ∷ so_far.after) first (All-cons beaten best so_far.after better last));
      no_better = All-nil _;
    }

-- the best stays so where the next state is no better
best_stays : (j : Judgement) (states : List StateLine) (best state : StateLine)
    → wins j state best ≡ false → IsBest j states best → IsBest j (states ++ state ∷ []) best
best_stays j states best state no_better so_far = record {
  before = so_far.before;
  after = so_far.after ++ state ∷ [];
  split = ap (λ (s : List StateLine). s ++ state ∷ []) so_far.split
      ∙ append_assoc so_far.before (best ∷ so_far.after) (state ∷ []);
  worse = so_far.worse;
  no_better =
      let lost = λ (s : StateLine). wins j s best ≡ false in
      All-append lost so_far.after (state ∷ []) so_far.no_better (All-cons lost state [] no_better (All-nil lost));
}

-- ---- the first state that none is better than

find_first : {X : Type 0} (p : X → Bool) (before : List X) (x : X) (after : List X)
    → All (λ y. p y ≡ false) before → p x ≡ true → find p (before ++ x ∷ after) ≡ Some x
find_first p [] x after none is = ap (λ (b : Bool). cond b (Some x) (find p after)) is
find_first p (y ∷ before) x after none is =
    let here = All-head (λ y. p y ≡ false) y before none in
    grind (arith, nat_tests, find_first p before x after (All-tail (λ y. p y ≡ false) y before none) is)

any_some : {X : Type 0} (p : X → Bool) (before : List X) (x : X) (after : List X) → p x ≡ true
    → list_any p (before ++ x ∷ after) ≡ true
any_some p before x after is = grind (arith, nat_tests, list_any-append p before (x ∷ after))

-- none is better than the best, and the best is better than each before it
pub best_found : (j : Judgement) (states : List StateLine) (best : StateLine)
    → IsBest j states best → best_of j states ≡ Some best
best_found j states best so_far =
    let all = so_far.before ++ best ∷ so_far.after in
    let lost = λ (s : StateLine). wins j s best ≡ false in
    let first : All lost so_far.before =
    All-weaker (λ (s : StateLine). wins j best s ≡ true) lost
    (λ s worse. better_asym (score_of j best) (score_of j s) worse) so_far.before so_far.worse in
    let none : has_better j all best ≡ false =
    list_any_none (λ (s : StateLine). wins j s best) all (All-append lost so_far.before (best ∷ so_far.after) first
    (All-cons lost best so_far.after (better_self (score_of j best)) so_far.no_better)) in
    grind (arith, nat_tests, All-weaker, any_some, find_first)

-- ---- scores of states

-- the scores of states, and the score and the bits of the best of them
pub record IsJudged (j : Judgement) (states : List StateLine) (scores : List Score) (best : Score) (bits : List Bool) : Type 0 where
  pub listed : scores ≡ map (score_of j) states
  pub first : IsBest j states (best.line, bits)
  pub worth : best ≡ score_of j (best.line, bits)

-- one state
judged_first : (j : Judgement) (scores : List Score) (best : Score) (bits : List Bool)
    → scores ≡ best ∷ [] → best ≡ score_of j (best.line, bits)
    → IsJudged j ((best.line, bits) ∷ []) scores best bits
judged_first j scores best bits one worth = record {
  listed = one ∙ ap (λ (s : Score). s ∷ []) worth;
  first = best_first j (best.line, bits);
  worth = worth;
}

-- the score and the bits of the better one of the best so far and one state more
better_one : (j : Judgement) (states : List StateLine) (best new : Score) (bits others : List Bool)
    (state : StateLine) (better : Bool) → is_better (score_of j state) best ≡ better
    → IsBest j states (best.line, bits) → best ≡ score_of j (best.line, bits)
    → new ≡ (if better then score_of j state else best)
    → others ≡ (if better then state.1 else bits)
    → IsBest j (states ++ state ∷ []) (new.line, others) × (new ≡ score_of j (new.line, others))
better_one j states best new bits others state true won so_far worth taken kept =
    let same : state ≡ (new.line, others) = λ k. ((sym taken k).line, sym kept k) in
    let beats = ap (is_better (score_of j state)) (sym worth) ∙ won in
    let changed = best_changes j states (best.line, bits) state beats so_far in
    (subst (IsBest j (states ++ state ∷ [])) same changed, taken ∙ ap (score_of j) same)
better_one j states best new bits others state false lost so_far worth taken kept =
    grind (arith, nat_tests, best_stays)

-- the same under equal names
judged_as : (j : Judgement) (states : List StateLine) (scores : List Score) (best new : Score)
    (bits others : List Bool) → new ≡ best → others ≡ bits → IsJudged j states scores best bits
    → IsJudged j states scores new others
judged_as j states scores best new bits others taken kept judged = grind (arith, nat_tests)

-- one state more
judged_more : (j : Judgement) (states : List StateLine) (scores : List Score) (best new : Score)
    (bits others : List Bool) (state : StateLine) → IsJudged j states scores best bits
    → new ≡ (if is_better (score_of j state) best then score_of j state else best)
    → others ≡ (if is_better (score_of j state) best then state.1 else bits)
    → IsJudged j (states ++ state ∷ []) (scores ++ score_of j state ∷ []) new others
judged_more j states scores best new bits others state so_far taken kept =
    grind (arith, nat_tests, better_one, map-append)

-- what is known after these states: nothing after none
abbrev pub IsStanding : Judgement → List StateLine → Standing → Type 0
IsStanding j [] s = s.scores ≡ []
IsStanding j (state ∷ states) s = IsJudged j (state ∷ states) s.scores s.best s.bits

standing_more : (j : Judgement) (done : List StateLine) (s : Standing) (state : StateLine)
    → IsStanding j done s → IsStanding j (done ++ state ∷ []) (after_score s (score_of j state) state.1)
standing_more j [] s state none =
    let score = score_of j state in
    let first : leads s score ≡ true = ap (λ (l : List Score). (length l == 0) || is_better score s.best) none in
    judged_as j (state ∷ []) (s.scores ++ score ∷ []) score _ state.1 _
    (ap (λ (b : Bool). if b then score else s.best) first)
    (ap (λ (b : Bool). if b then state.1 else s.bits) first)
    (judged_first j (s.scores ++ score ∷ []) score state.1 (ap (λ (l : List Score). l ++ score ∷ []) none) refl)
standing_more j (d ∷ done) s state judged =
    let score = score_of j state in
    let count = ap length judged.listed in
    let some : (length s.scores == 0) ≡ false = grind (arith, nat_tests, count) in
    let later = ap (λ (b : Bool). b || is_better score s.best) some in
    judged_more j (d ∷ done) s.scores s.best _ s.bits _ state judged
    (ap (λ (b : Bool). if b then score else s.best) later)
    (ap (λ (b : Bool). if b then state.1 else s.bits) later)

-- what is known after more states
pub standing_after : (j : Judgement) (done states : List StateLine) (s : Standing)
    → IsStanding j done s → IsStanding j (done ++ states) (after_states j s states)
standing_after j done [] s so_far = subst (λ (l : List StateLine). IsStanding j l s) (sym (append-nil done)) so_far
standing_after j done (state ∷ states) s so_far =
    let next = after_score s (score_of j state) state.1 in
    subst (λ (l : List StateLine). IsStanding j l (after_states j next states)) (append_assoc done (state ∷ []) states)
    (standing_after j (done ++ state ∷ []) states next (standing_more j done s state so_far))

-- all states
judged_all : (j : Judgement) (states : List StateLine) (scores : List Score) (best : Score)
    (bits : List Bool) → IsJudged j states scores best bits → IsEvaluation j states scores best bits
judged_all j states scores best bits judged = record {
  listed = judged.listed;
  first = best_found j states (best.line, bits) judged.first;
  worth = judged.worth;
}

pub standing_of_all : (j : Judgement) (states : List StateLine) (s : Standing)
    → IsStanding j states s → IsEvaluationOf j states s
standing_of_all j [] s none = none
standing_of_all j (state ∷ states) s judged = judged_all j (state ∷ states) s.scores s.best s.bits judged
