use Rattle.posiform_check.proofs.forms.certificate_table.Goals as goal

pub add_all-requires-clause-nodes : goal.add_all-requires-clause-nodes
add_all-requires-clause-nodes c = rw c.new-terms.ensures c.requires.nodes

pub add_all-requires-clause-none : goal.add_all-requires-clause-none
add_all-requires-clause-none c = λ i. (c.new-terms.ensures i).terms

pub add_all-requires-clause-list : goal.add_all-requires-clause-list
add_all-requires-clause-list c = c.new-list.ensures.items
