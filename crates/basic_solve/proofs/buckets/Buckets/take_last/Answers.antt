use Rattle.basic_solve.proofs.Common.{[], arith, length, length-map, get_or-append_seam}
use Rattle.basic_solve.proofs.Heads.{heads_left, seen_last}
use Rattle.basic_solve.proofs.buckets.Buckets.take_last.Goals as goal

pub invariant_of-self : goal.invariant_of-self
invariant_of-self g c =
    heads_left _ _ _ _ (rw c.in-Some.ensures.items at c.self.invariant) c.take_list.ensures.taken

pub returns : goal.returns
returns g c =
    rw (← c.self.view_is, c.in-Some.ensures.items, c.take_list.ensures.list)
    (seen_last _ _ _ _ (rw c.in-Some.ensures.items at c.self.invariant) c.take_list.ensures.taken)

pub take_list-requires : goal.take_list-requires
take_list-requires g c =
    let within = (rw c.in-Some.ensures.items at c.self.invariant).within (length c.pop.new.self.items) in
    omega (arith, within, get_or-append_seam c.pop.new.self.items c.in-Some.place [] 0, length-map c.self.inside.lists.items (λ list. list.items))
