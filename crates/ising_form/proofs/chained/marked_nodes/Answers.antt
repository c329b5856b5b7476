use Rattle.ising_form.proofs.Common.{◌≡◌, ◌<◌, ◌++◌, ◌∷◌, [], pos, length, get_or, set, take, take_all, ap, ◌∙◌, arith, filter, listed_entries, node_entries, is_marked}
use Rattle.ising_form.proofs.ChainedNodes.{kept_more, kept_less}
use Rattle.ising_form.proofs.chained.marked_nodes.Goals.{then-marks-i+in_ok-keep_node, else-marks-i}
use Rattle.ising_form.proofs.chained.marked_nodes.Goals as goal

pub loop-i-preserved : goal.loop-i-preserved
loop-i-preserved c =
    let marks = c.args.marks.now in
    let ws = c.args.fields.items in
    let i = c.loop-i.i in
    let ns = c.loop-i.numbers.items in
    let xs = c.loop-i.fields.items in
    let below : i < length ws = omega (arith, c.loop-i-test.true, c.requires.marks) in
    elim c.if-marks-i.branch [
      | then-marks-i+in_ok-keep_node t ↦
          let numbers : c.if-marks-i.numbers.items ≡ ns ++ i ∷ [] =
          (λ k. (t.numbers-is k).items) ∙ t.in_ok-keep_node.ensures.numbers in
          let fields : c.if-marks-i.fields.items ≡ set xs (length ns) (get_or xs i (pos 0)) =
          (λ k. (t.fields-is k).items) ∙ t.in_ok-keep_node.ensures.fields in
          rw (numbers, fields) (kept_more marks ws i ns xs below t.if-marks-i.true c.loop-i.invariant)
      | else-marks-i t ↦
          let numbers : c.if-marks-i.numbers.items ≡ ns = λ k. (t.numbers-is k).items in
          let fields : c.if-marks-i.fields.items ≡ xs = λ k. (t.fields-is k).items in
          rw (numbers, fields) (kept_less marks ws i ns xs below t.if-marks-i.false c.loop-i.invariant)
    ]

pub returns : goal.returns
returns c =
    let le = rw c.requires.marks at c.loop-i-test.false in
    let count : c.len.result ≡ length c.loop-i.numbers.items = omega (arith, c.len.ensures) in
    c.listed.ensures ∙ ap (listed_entries c.loop-i.numbers.items) c.truncate.ensures.items
    ∙ ap (λ n. listed_entries c.loop-i.numbers.items (take n c.loop-i.fields.items)) count
    ∙ c.loop-i.invariant.listed ∙ ap (λ us. filter (is_marked c.args.marks.now) (node_entries 0 us)) (take_all c.loop-i.i _ le)
