use Rattle.model_pipeline.proofs.Common.{[], length, ap, ◌∙◌, subst, sym, node_count, HeldContent, AreHeld, penalty_admits}
use Rattle.model_pipeline.proofs.Standing.{plain_additions, room-plain}
use Rattle.model_pipeline.proofs.forms.multilinear_terms.Goals as goal

pub node_count-requires : goal.node_count-requires
node_count-requires c = penalty_admits c.args.problem.now c.requires

pub add_contributions-requires-clause-admits : goal.add_contributions-requires-clause-admits
add_contributions-requires-clause-admits c = penalty_admits c.args.problem.now c.requires

pub add_contributions-requires-clause-room : goal.add_contributions-requires-clause-room
add_contributions-requires-clause-room c =
    let made = c.in_ok-sums.ensures in
    let same = c.new-terms.ensures in
    room-plain c.args.problem.now c.new-terms.result.terms c.requires
    (ap (λ (h : HeldContent). length h.weights) same ∙ made.width ∙ c.node_count.ensures.value)
    (ap (λ (h : HeldContent). h.total) same ∙ made.total)

pub add_contributions-requires-clause-empty : goal.add_contributions-requires-clause-empty
add_contributions-requires-clause-empty c =
    subst (λ (h : HeldContent). AreHeld (record { width = node_count c.args.problem.now; terms = [] }) h) (sym c.new-terms.ensures)
    (subst (λ n. AreHeld (record { width = n; terms = [] }) c.in_ok-sums.sums) c.node_count.ensures.value c.in_ok-sums.ensures.empty)

pub returns : goal.returns
returns c =
    subst (λ (h : HeldContent). AreHeld (plain_additions c.args.problem.now) h) (sym c.into_terms.ensures) c.in_ok-add_contributions.ensures
