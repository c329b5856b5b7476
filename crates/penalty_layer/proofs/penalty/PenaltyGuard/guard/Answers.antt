use Rattle.penalty_layer.proofs.Common.{arith, nat_tests, ◌≡◌, [], rules, ap, ◌∙◌, w128, to_z-of_z, BitsLink, ProblemContent, kept_at_once, image, Fits}
use Rattle.penalty_layer.proofs.Admitted.{made_image, made_total, made_size, made_relaxes, made_stays, threshold_within}
use Rattle.penalty_layer.proofs.RoomForTerms.{room-contributions}
use Rattle.penalty_layer.proofs.penalty.PenaltyGuard.guard.Goals as goal

pub add_contributions-requires-clause-room : goal.add_contributions-requires-clause-room
add_contributions-requires-clause-room c =
    room-contributions c.args.source.now c.new-terms.result c.requires
    (c.new-terms.ensures ∙ ap (λ n. record { width = n; terms = [] }) c.node_count-width.ensures.value)

pub returns-clause-relaxes : goal.returns-clause-relaxes
returns-clause-relaxes c =
    let p = c.args.source.now in
    let made : c.into_table.result ≡ kept_at_once (image p) =
    made_image p c.add_contributions.new.terms c.into_table.result c.in_ok-add_contributions.ensures c.into_table.ensures in
    let link : BitsLink = record { source_width = c.source.inside.variables; target_width = c.node_count-width.result } in
    let fit : Fits link p = record {
      source = ap (λ (q : ProblemContent). q.variables) c.source.view_is;
      target = c.node_count-width.ensures.value;
      normal = c.requires.normal;
    } in
    made_relaxes link p c.into_table.result _ fit made
    (to_z-of_z w128 c.upper.result (search rules) ∙ c.upper.ensures)

pub returns-clause-stays : goal.returns-clause-stays
returns-clause-stays c =
    let p = c.args.source.now in
    let made : c.into_table.result ≡ kept_at_once (image p) =
    made_image p c.add_contributions.new.terms c.into_table.result c.in_ok-add_contributions.ensures c.into_table.ensures in
    let link : BitsLink = record { source_width = c.source.inside.variables; target_width = c.node_count-width.result } in
    let fit : Fits link p = record {
      source = ap (λ (q : ProblemContent). q.variables) c.source.view_is;
      target = c.node_count-width.ensures.value;
      normal = c.requires.normal;
    } in
    made_stays link p c.into_table.result _ fit made
    (to_z-of_z w128 c.upper.result (search rules) ∙ c.upper.ensures)

pub returns-clause-threshold_high : goal.returns-clause-threshold_high
returns-clause-threshold_high c = grind (arith, nat_tests, threshold_within, to_z-of_z)

pub returns-clause-total : goal.returns-clause-total
returns-clause-total c = grind (arith, nat_tests, made_total, made_image)

pub returns-clause-size : goal.returns-clause-size
returns-clause-size c = grind (arith, nat_tests, made_size, made_image)
