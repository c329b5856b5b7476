use Rattle.run_steps.proofs.Lemmas.{judged, Meets, cutting, Some, Ok, ◌≡◌, ℕ, Global, Vec, tokens_of, words_of, ends, text_end, ordered, Order, cut_next, cut_refuses, told_then, judged_meets, judged_passes, returned}
use Rattle.whole_text.specs.declared.token.Style.TheVariants.{Plain}
use Rattle.elimination_order.specs.Orders.{order_of}
use Rattle.run_steps.proofs.orders.VecU64FromFile.take.Goals as goal

pub returns-in_err-text-clause-took : goal.returns-in_err-text-clause-took
unfolding ordered
returns-in_err-text-clause-took g c =
    let took = c.in_err-text.ensures.took in
    let name = c.args.name.now in
    let status = c.in_err-text.field-0.0 in
    rw (returned c.from_residual.ensures.1) (record {
      step = told_then _ _ _ (λ h. cut_refuses status h Order name Plain
          (λ bytes. ends (text_end Order (order_of c.args.nodes (tokens_of Plain bytes)))))
          took.step;
      held = took.held;
      passed = tt;
      refused = took.refused;
    })

pub returns-clause-took : goal.returns-clause-took
unfolding ordered
returns-clause-took g c =
    let took = c.in_ok-text.ensures.took in
    let name = c.args.name.now in
    let nodes = c.args.nodes in
    let read = c.read_order-read.result in
    let cut = words_of c.in_ok-text.text in
    let view = λ (order : Vec ℕ Global). order.items in
    let passes = judged_passes Order read name (g.F.Files.counts c.args.files.now)
    (g.F.Files.counts c.take_words.new.files) took.passed in
    rw c.read_into.ensures
    (record {
      step = told_then (g.F.Files.held c.args.files.now)
          (λ h. (cutting h Order name Plain).end ≡ Some (Ok cut))
          (λ h. Meets view (judged Order read) (ordered h name nodes))
          (λ h e. cut_next view (judged Order read) h Order name Plain cut
          (λ ws. ends (text_end Order (order_of nodes ws))) e
          (judged_meets view Order read (order_of nodes cut) c.read_order-read.ensures.read))
          took.step;
      held = took.held;
      passed = passes.0;
      refused = passes.1;
    })
