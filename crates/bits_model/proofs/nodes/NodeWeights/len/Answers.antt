use Rattle.bits_model.proofs.Common.{arith, nat_tests, ◌≡◌, All, subst, All-from_recursion, Entry}
use Rattle.bits_model.proofs.NodeNumbers.{length-weighed, weighed-same}
use Rattle.bits_model.proofs.nodes.NodeWeights.len.Goals as goal

pub returns-clause-length : goal.returns-clause-length
returns-clause-length c = grind (arith, nat_tests, length-weighed)

pub returns-clause-nodes : goal.returns-clause-nodes
returns-clause-nodes c =
    subst (All (λ (e : Entry). e.first ≡ e.second)) c.self.view_is
    (All-from_recursion _ _ (weighed-same c.self.inside.numbers c.self.inside.weights.items))
