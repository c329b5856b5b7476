use Rattle.quadratization.proofs.Common.{if◌then◌else◌, ◌∷◌, arith, nat_tests, List, IsTrue, sym, ap, ◌∙◌, subst, rest_more, Literal, has_variable, from_variable}
use Rattle.quadratization.proofs.LongPlaces.{found_here, differs, there_later}
use Rattle.quadratization.proofs.long_table.from_variable.Goals as goal

pub returns-then-literal-variable : goal.returns-then-literal-variable
returns-then-literal-variable c = grind (arith, nat_tests, rest_more, found_here)

pub loop-literal-preserved : goal.loop-literal-preserved
loop-literal-preserved c =
    let left = rest_more _ c.loop-literal.literals c.next.new.self c.next.result c.in-Some.literal c.in-Some.is c.next.ensures.steps in
    let there = subst (λ (ls : List Literal). IsTrue (has_variable c.args.variable ls)) left c.loop-literal.invariant.there in
    record {
      there = there_later c.args.variable c.in-Some.literal c.next.new.self c.if-literal-variable.false there;
      whole = sym (ap (λ b. if b then c.in-Some.literal ∷ c.next.new.self else from_variable c.args.variable c.next.new.self) (differs c.args.variable c.in-Some.literal.variable c.if-literal-variable.false)) ∙ ap (from_variable c.args.variable) (sym left) ∙ c.loop-literal.invariant.whole;
    }

pub unreachable-requires : goal.unreachable-requires
unreachable-requires c =
    let there = subst (λ (ls : List Literal). IsTrue (has_variable c.args.variable ls)) c.in_default.ensures.steps.0 c.loop-literal.invariant.there in
    cc
