use Rattle.embedding_check.proofs.waiting.Waiting.next_from.Goals as goal

pub least_waiting-requires : goal.least_waiting-requires
least_waiting-requires c = record {
  start = rw (c.deref.ensures.value, c.self.view_is) c.requires;
  steps = rw (c.deref.ensures.value, c.deref_mut.ensures.value) c.self.invariant;
}

pub returns : goal.returns
returns c =
    let least = rw (c.deref.ensures.value, c.self.view_is) at c.least_waiting.ensures in
    record { same = c.self.view_is; from = least.from; within = least.within; least = least.least; waits = least.waits }
