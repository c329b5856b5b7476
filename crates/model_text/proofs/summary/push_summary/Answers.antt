use Rattle.model_text.proofs.Common.{summary_row, ◌∷◌, [], sym, append-nil, rules, codes, w128, to_z-of_z}
use Rattle.model_text.proofs.Summaries.{number_added}
use Rattle.model_text.proofs.summary.push_summary.Goals as goal

pub returns : goal.returns
returns c =
    let f = c.args.figures in
    let old = c.args.text.now.items in
    let nodes = summary_row (codes "nodes") c.args.nodes in
    let couplers = summary_row (codes "couplers") c.args.couplers in
    let scale = summary_row (codes "scale") f.scale in
    let offset = summary_row (codes "offset") f.offset in
    let threshold = summary_row (codes "threshold") f.threshold in
    let first = number_added old old _ (codes "nodes") [] _ c.args.nodes (sym (append-nil old))
    c.in_ok-push_row.ensures (to_z-of_z w128 c.args.nodes (search rules)) in
    let second = number_added old _ _ (codes "couplers") (nodes ∷ []) _ c.args.couplers first
    c.in_ok-push_row-2.ensures (to_z-of_z w128 c.args.couplers (search rules)) in
    let third = number_added old _ _ (codes "scale") (nodes ∷ couplers ∷ []) _ f.scale second c.in_ok-push_row-3.ensures
    (to_z-of_z w128 f.scale (search rules)) in
    let fourth = number_added old _ _ (codes "offset") (nodes ∷ couplers ∷ scale ∷ []) _ f.offset third
    c.in_ok-push_row-4.ensures (to_z-of_z w128 f.offset (search rules)) in
    let fifth = number_added old _ _ (codes "threshold") (nodes ∷ couplers ∷ scale ∷ offset ∷ []) _ f.threshold fourth
    c.in_ok-push_row-5.ensures (to_z-of_z w128 f.threshold (search rules)) in
    number_added old _ _ (codes "unit") (nodes ∷ couplers ∷ scale ∷ offset ∷ threshold ∷ []) _ c.args.unit fifth c.in_ok-push_row-6.ensures
    (to_z-of_z w128 c.args.unit (search rules))
