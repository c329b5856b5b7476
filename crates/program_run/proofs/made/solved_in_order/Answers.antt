use Rattle.program_run.proofs.Lemmas.{arith, nat_tests, returned, ◌≡◌, ℕ, [], None, Ok, Some, sym, subst, form_of, first_wide, IsTold, MayHold, InOrder, Last, Steps, last_step, ordered, last_gives, last_refuses, first_in, order_alone, solves, order_gives, order_refuses, solved_some}
use Rattle.program_run.proofs.Common.{last_files, name_of, arith, nat_tests, read_wanting, returned, ◌≡◌, ℕ, [], None, Ok, Some, sym, subst, form_of, first_wide, IsTold, MayHold, InOrder, Last, Steps, last_step, ordered}
use Rattle.program_run.proofs.Endings.{last_gives, last_refuses}
use Rattle.program_run.proofs.Evaluating.{first_in, order_alone, order_read, solves}
use Rattle.program_run.proofs.Solving.{order_gives, order_refuses, unsolved_read}
use Rattle.program_run.proofs.SomeText.{solved_some}
use Rattle.program_run.proofs.made.solved_in_order.Goals as goal

pub returns-in_err-order-clause-step : goal.returns-in_err-order-clause-step
returns-in_err-order-clause-step g c =
    grind (arith, nat_tests, returned, last_refuses, solves, order_refuses, order_alone)

pub returns-clause-answer : goal.returns-clause-answer
returns-clause-answer g c = λ held may.
    let command = c.args.command.now in
    let plan = c.args.plan.now in
    let m = c.args.model.now in
    let order = c.in_ok-order.order.items in
    record {
      model = m;
      made = c.requires.modelled;
      last = InOrder order;
      read = subst (λ (steps : Steps Last). steps.end ≡ Some (Ok (InOrder order)))
          (solves held command plan m c.args.name.now c.requires.asked)
          (order_gives held c.args.name.now m order
          (subst (λ (n : ℕ). (ordered held c.args.name.now n).end ≡ Some (Ok order))
          c.nodes_of-nodes.ensures
          (c.in_ok-order.ensures.took.step held
          (subst (λ l. MayHold (g.F.Files.held c.args.files.now) l held)
          (sym (order_alone command c.args.name.now c.requires.asked)) may)))
          (subst (λ o. first_wide 16 m [] o ≡ None) c.deref.ensures.value
          c.in-Ok.ensures.narrow));
      told = subst (λ ask. IsTold ask plan.read plan.options.choices m (InOrder order) c.in_ok-text.text.items)
          (sym c.requires.asked)
          (c.in_ok-text.ensures order
          (first_in (form_of m) c.deref.result.now order c.in-Ok.state.items
          c.deref-2.result.now c.deref.ensures.value c.deref-2.ensures.value
          c.in-Ok.ensures.state));
    }

pub returns-clause-step : goal.returns-clause-step
unfolding returns-clause-answer
returns-clause-step g c = λ held may.
    let told = returns-clause-answer g c held may in
    last_gives c.args.plan.now
    (last_step held c.args.command.now.ask c.args.plan.now.read.variables)
    c.args.model.now told.last c.requires.modelled told.read

pub returns-clause-some : goal.returns-clause-some
returns-clause-some g c =
    solved_some c.in_ok-order.order.items c.args.plan.now.read c.args.model.now _
    (c.in_ok-text.ensures c.in_ok-order.order.items
    (first_in (form_of c.args.model.now) c.deref.result.now c.in_ok-order.order.items
    c.in-Ok.state.items c.deref-2.result.now c.deref.ensures.value
    c.deref-2.ensures.value c.in-Ok.ensures.state))

pub returns-in-Err-clause-files : goal.returns-in-Err-clause-files
returns-in-Err-clause-files g c =
    let name = name_of c.args.command.now in
    let old = g.F.Files.counts c.args.files.now in
    let new = g.F.Files.counts c.take_order.new.files in
    rw c.unsolved.ensures
    (unsolved_read c.in-Err.answer name (last_files c.args.command.now) old new
    (order_read name c.args.command.now c.args.name.now old new c.requires.asked c.in_ok-order.ensures.took.passed))

pub returns-in_err-text-clause-files : goal.returns-in_err-text-clause-files
returns-in_err-text-clause-files g c = grind (arith, nat_tests, returned, read_wanting, order_read)

pub returns-clause-files : goal.returns-clause-files
returns-clause-files g c =
    order_read (name_of c.args.command.now) c.args.command.now c.args.name.now
    (g.F.Files.counts c.args.files.now) (g.F.Files.counts c.take_order.new.files) c.requires.asked
    c.in_ok-order.ensures.took.passed
