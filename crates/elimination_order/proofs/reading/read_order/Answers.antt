use Rattle.elimination_order.proofs.Common.{◌≡◌, Ok, rules, words_of, order_of}
use Rattle.elimination_order.proofs.NodesOnce.{order-once}
use Rattle.elimination_order.proofs.reading.read_order.Goals as goal

pub returns-then-len-nodes-clause-nodes : goal.returns-then-len-nodes-clause-nodes
returns-then-len-nodes-clause-nodes c =
    let words = words_of c.args.text.now in
    let read : order_of c.args.nodes words ≡ Ok c.read_words.new.order.items = search rules in
    order-once c.args.nodes words c.read_words.new.order.items read
