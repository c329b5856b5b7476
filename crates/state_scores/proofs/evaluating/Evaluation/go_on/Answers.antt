use Rattle.state_scores.proofs.Common.{◌≡◌, ℕ, ◌^◌, ◌<◌, [], ◌++◌, Bool, length, List, All, refl, sym, ap, ◌∙◌, subst, append_assoc, append-nil, rules, StateLine, zip, IsEvaluationOf, Standing, after_states, standing}
use Rattle.state_scores.proofs.Best.{IsStanding, standing_after, standing_of_all}
use Rattle.state_scores.proofs.TakenStates.{fewer_left, low_left, low_taken, none_left}
use Rattle.state_scores.proofs.evaluating.Evaluation.go_on.Goals as goal

pub loop-batch-init : goal.loop-batch-init
loop-batch-init g c = (
  [],
  record {
    split = refl;
    judged = c.requires.empty;
    same = refl;
    width = c.requires.width;
    room = c.requires.room;
    kept = refl;
    space = c.requires.space;
    lines = c.requires.lines;
  },
)

pub returns-then-len-eq0-clause-filled : goal.returns-then-len-eq0-clause-filled
returns-then-len-eq0-clause-filled g c =
    let done = c.loop-batch.invariant.0 in
    let so_far = c.loop-batch.invariant.1 in
    let taken = c.in_ok-read.ensures.taken in
    let j = g.J.Judge.judgement c.args.judge.now in
    let ended = none_left _ _ _ _ taken.front taken.numbered (search rules) taken.all in
    let all = sym (so_far.split ∙ ap (λ (l : List StateLine). done ++ l) ended ∙ append-nil done) in
    subst (λ (states : List StateLine). IsEvaluationOf j states (standing c.loop-batch.self)) all
    (standing_of_all j done (standing c.loop-batch.self) so_far.judged)

pub take_all-requires-clause-lines : goal.take_all-requires-clause-lines
take_all-requires-clause-lines g c =
    let taken = c.in_ok-read.ensures.taken in
    subst (λ (l : List StateLine). All (λ s. s.0 < 2 ^ 32) l)
    (λ k. zip (sym {A = List ℕ} c.judge.ensures.lines k) (sym {A = List (List Bool)} c.judge.ensures.states k))
    (low_taken _ _ _ taken.front c.loop-batch.invariant.1.lines)

pub take_all-requires-clause-width : goal.take_all-requires-clause-width
take_all-requires-clause-width g c =
    subst (λ (l : List (List Bool)). All (λ state. length state ≡ length c.loop-batch.self.state.items) l)
    (sym c.judge.ensures.states)
    (λ k d below. c.in_ok-read.ensures.taken.wide k d below ∙ sym c.loop-batch.invariant.1.room)

pub loop-batch-smaller : goal.loop-batch-smaller
loop-batch-smaller g c =
    let taken = c.in_ok-read.ensures.taken in
    fewer_left _ _ _ _ taken.front taken.numbered (search rules)

pub loop-batch-preserved : goal.loop-batch-preserved
loop-batch-preserved g c =
    let done = c.loop-batch.invariant.0 in
    let so_far = c.loop-batch.invariant.1 in
    let taken = c.in_ok-read.ensures.taken in
    let states = zip c.read.new.self.lines.items c.read.new.self.states in
    let rest = c.read.new.states.states in
    let j = g.J.Judge.judgement c.args.judge.now in
    let costs = rw so_far.same at c.judge.ensures.costs in
    let energies = rw so_far.same at c.judge.ensures.energies in
    let known : standing c.take_all.new.self ≡ after_states j (standing c.loop-batch.self) states =
    c.in_ok-take_all.ensures.taken j costs energies
    ∙ (λ k. after_states j (standing c.loop-batch.self) (zip (c.judge.ensures.lines k) (c.judge.ensures.states k))) in (
      done ++ states,
      record {
        split = so_far.split ∙ ap (λ (l : List StateLine). done ++ l) taken.front ∙ sym (append_assoc done states rest);
        judged = subst (λ (s : Standing). IsStanding j (done ++ states) s) (sym known)
            (standing_after j done states (standing c.loop-batch.self) so_far.judged);
        same = c.judge.ensures.same ∙ so_far.same;
        width = search rules;
        room = search rules;
        kept = c.take_all.ensures.kept ∙ so_far.kept;
        space = search rules;
        lines = low_left c.loop-batch.states.states states rest taken.front so_far.lines;
      },
    )
