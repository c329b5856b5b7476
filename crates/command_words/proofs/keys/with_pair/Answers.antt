use Rattle.command_words.proofs.Common.{Keys, Map, Some, ap, is_none, refl, true}
use Rattle.command_words.proofs.KeyTable.{differs, put_once}
use Rattle.command_words.proofs.keys.with_pair.Goals as goal
use Rattle.command_words.proofs.keys.with_pair.Goals.{in-normal+in_ok-once-in-normal, in-high+in_ok-once-in-high, in-unit+in_ok-once-in-unit, in-bound+in_ok-once-in-bound, in-slack+in_ok-once-in-slack, in-penalty+in_ok-once-in-penalty, in-order+in_ok-once-in-order, in-rows+in_ok-once-in-rows, in-cols+in_ok-once-in-cols, in-shore+in_ok-once-in-shore, in-dead+in_ok-once-in-dead, in-embed+in_ok-once-in-embed, in-map+in_ok-once-in-map, in-chain+in_ok-once-in-chain, in-graph+in_ok-once-in-graph}

pub returns-in_default : goal.returns-in_default
returns-in_default c =
    let no = c.in_default in
    rw (
      differs _ _ no.not-normal,
      differs _ _ no.not-high,
      differs _ _ no.not-unit,
      differs _ _ no.not-bound,
      differs _ _ no.not-slack,
      differs _ _ no.not-penalty,
      differs _ _ no.not-order,
      differs _ _ no.not-rows,
      differs _ _ no.not-cols,
      differs _ _ no.not-shore,
      differs _ _ no.not-dead,
      differs _ _ no.not-embed,
      differs _ _ no.not-map,
      differs _ _ no.not-chain,
      differs _ _ no.not-graph,
    ) refl

pub returns : goal.returns
returns c =
    let keys = c.args.keys in
    elim c.match-name.branch [
      | in-normal+in_ok-once-in-normal w ↦
          rw w.in-normal.is (put_once keys _ true _ (is_none keys.normal) _ _ _
          (λ x (k : Keys). record k { normal = Some x }) _ refl w.normal_of.ensures w.once.ensures
          w.in_ok-once-in-normal.was w.keys-is)
      | in-high+in_ok-once-in-high w ↦
          rw w.in-high.is (put_once keys _ true _ (is_none keys.high) _ _ _
          (λ x (k : Keys). record k { high = Some x }) _ refl w.high_of.ensures w.once-in-high.ensures
          w.in_ok-once-in-high.was w.keys-is)
      | in-unit+in_ok-once-in-unit w ↦
          rw w.in-unit.is (put_once keys _ true _ (is_none keys.unit) _ _ _
          (λ x (k : Keys). record k { unit = Some x }) _ refl w.unit_of.ensures w.once-in-unit.ensures
          w.in_ok-once-in-unit.was w.keys-is)
      | in-bound+in_ok-once-in-bound w ↦
          rw w.in-bound.is (put_once keys _ true _ (is_none keys.bound) _ _ _
          (λ x (k : Keys). record k { bound = Some x }) _ refl w.bound_of.ensures w.once-in-bound.ensures
          w.in_ok-once-in-bound.was w.keys-is)
      | in-slack+in_ok-once-in-slack w ↦
          rw w.in-slack.is (put_once keys _ true _ (is_none keys.slack) _ _ _
          (λ x (k : Keys). record k { slack = Some x }) _ refl w.slack_of.ensures w.once-in-slack.ensures
          w.in_ok-once-in-slack.was w.keys-is)
      | in-penalty+in_ok-once-in-penalty w ↦
          rw w.in-penalty.is (put_once keys _ true _ (is_none keys.penalty) _ _ _
          (λ x (k : Keys). record k { penalty = Some x }) _ refl w.penalty_of.ensures w.once-in-penalty.ensures
          w.in_ok-once-in-penalty.was w.keys-is)
      | in-order+in_ok-once-in-order w ↦
          rw w.in-order.is (put_once keys _ c.takes-solve.result _ (is_none keys.order) _ _ _
          (λ x (k : Keys). record k { order = Some x }) _ c.takes-solve.ensures (ap Some c.new-file.ensures) w.once-in-order.ensures
          w.in_ok-once-in-order.was w.keys-is)
      | in-rows+in_ok-once-in-rows w ↦
          rw w.in-rows.is (put_once keys _ c.takes-chimera.result _ (is_none keys.rows) _ _ _
          (λ x (k : Keys). record k { rows = Some x }) _ c.takes-chimera.ensures w.side_of.ensures w.once-in-rows.ensures
          w.in_ok-once-in-rows.was w.keys-is)
      | in-cols+in_ok-once-in-cols w ↦
          rw w.in-cols.is (put_once keys _ c.takes-chimera.result _ (is_none keys.cols) _ _ _
          (λ x (k : Keys). record k { cols = Some x }) _ c.takes-chimera.ensures w.side_of-in-cols.ensures w.once-in-cols.ensures
          w.in_ok-once-in-cols.was w.keys-is)
      | in-shore+in_ok-once-in-shore w ↦
          rw w.in-shore.is (put_once keys _ c.takes-chimera.result _ (is_none keys.shore) _ _ _
          (λ x (k : Keys). record k { shore = Some x }) _ c.takes-chimera.ensures w.side_of-in-shore.ensures w.once-in-shore.ensures
          w.in_ok-once-in-shore.was w.keys-is)
      | in-dead+in_ok-once-in-dead w ↦
          rw w.in-dead.is (put_once keys _ c.takes-chimera.result _ (is_none keys.dead) _ _ _
          (λ x (k : Keys). record k { dead = Some x }) _ c.takes-chimera.ensures (ap Some c.new-file.ensures) w.once-in-dead.ensures
          w.in_ok-once-in-dead.was w.keys-is)
      | in-embed+in_ok-once-in-embed w ↦
          rw w.in-embed.is (put_once keys _ c.takes-chimera.result _ (is_none keys.chains) _ _ _
          (λ x (k : Keys). record k { chains = Some x }) _ c.takes-chimera.ensures w.embed_of.ensures w.once-in-embed.ensures
          w.in_ok-once-in-embed.was w.keys-is)
      | in-map+in_ok-once-in-map w ↦
          rw w.in-map.is (put_once keys _ c.takes-qubits.result _ (is_none keys.chains) _ _ _
          (λ x (k : Keys). record k { chains = Some x }) _ c.takes-qubits.ensures (ap (λ n. Some (Map n)) c.new-file.ensures) w.once-in-map.ensures
          w.in_ok-once-in-map.was w.keys-is)
      | in-chain+in_ok-once-in-chain w ↦
          rw w.in-chain.is (put_once keys _ c.takes-qubits.result _ (is_none keys.ties) _ _ _
          (λ x (k : Keys). record k { ties = Some x }) _ c.takes-qubits.ensures w.ties_of.ensures w.once-in-chain.ensures
          w.in_ok-once-in-chain.was w.keys-is)
      | in-graph+in_ok-once-in-graph w ↦
          rw w.in-graph.is (put_once keys _ c.takes-graph.result _ (is_none keys.graph) _ _ _
          (λ x (k : Keys). record k { graph = Some x }) _ c.takes-graph.ensures (ap Some c.new-file.ensures) w.once-in-graph.ensures
          w.in_ok-once-in-graph.was w.keys-is)
    ]
