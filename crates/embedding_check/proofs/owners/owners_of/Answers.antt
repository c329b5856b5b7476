use Rattle.std.proofs.Common.{◌≡◌, length, replicate, rules}
use Rattle.std.proofs.lemmas.List.{length-replicate, get_or-replicate}
use Rattle.embedding_check.proofs.owners.owners_of.Goals as goal

pub own_all-requires : goal.own_all-requires
own_all-requires c =
    let value = c.deref_mut.ensures.value in
    let items : c.in_ok-owners.owners.items ≡ replicate c.args.qubits 4294967295 = search rules in
    let long : length c.deref_mut.result.now ≡ c.args.qubits = rw (value, items) (length-replicate _ _) in
    record {
      within = rw long c.requires.within;
      once = c.requires.once;
      few = c.requires.few;
      none = λ b low. rw (value, items) (get_or-replicate _ b _ _ (rw long at low));
    }
