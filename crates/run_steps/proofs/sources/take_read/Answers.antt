use Rattle.run_steps.proofs.Lemmas.{words_of, read_from_words, read_refused, judged_meets, judged_passes, returned}
use Rattle.run_steps.proofs.sources.take_read.Goals as goal

pub returns-in_err-text-clause-took : goal.returns-in_err-text-clause-took
returns-in_err-text-clause-took g c =
    let took = c.in_err-text.ensures.took in
    rw (returned c.from_residual.ensures.1) (record {
      step = read_refused _ _ _ _ _ _ took.step;
      held = took.held;
      passed = tt;
      refused = took.refused;
    })

pub returns-clause-took : goal.returns-clause-took
returns-clause-took g c =
    let cut = words_of c.in_ok-text.text in
    let took = c.in_ok-text.ensures.took in
    let read = c.read_source_words-read.result in
    let passes = judged_passes _ _ _ _ _ took.passed in
    rw c.read_into.ensures (record {
      step = read_from_words _ _ _ _ _ _ _ c.style_of-style.ensures took.step
          (judged_meets _ _ _ _ c.read_source_words-read.ensures.read);
      held = took.held;
      passed = passes.0;
      refused = passes.1;
    })
