use Rattle.bits_model.proofs.Common.{◌≡◌, ◌++◌, ◌-◌, ◌∷◌, [], true, false, take, arith, take_all, List, length, to_z, of_z, rules, sym, ap, ◌∙◌, w128, to_z-of_z, Entry, RowStart, last_is, packed_entries}
use Rattle.std.specs.Prelude.{vec_len}
use Rattle.std.proofs.lemmas.List.{take-append-le}
use Rattle.bits_model.proofs.Packed.{packed_longer, longer_is_packed, packed_begun, begun_is_packed}
use Rattle.bits_model.proofs.couplers.CouplerList.push.Goals as goal

pub invariant_of-self-then-last_is : goal.invariant_of-self-then-last_is
invariant_of-self-then-last_is c =
    let last : last_is c.args.first c.self.inside.starts.items ≡ true =
    sym (c.last_is.ensures ∙ ap (last_is c.args.first) c.deref.ensures.value) ∙ c.if-last_is.true in
    rw (c.in_ok-push_pair.ensures.seconds, c.in_ok-push_pair.ensures.weights)
    (longer_is_packed _ _ _ c.args.first c.args.second _ c.self.invariant last)

pub returns-then-last_is-clause-pushed : goal.returns-then-last_is-clause-pushed
returns-then-last_is-clause-pushed c =
    let last : last_is c.args.first c.self.inside.starts.items ≡ true =
    sym (c.last_is.ensures ∙ ap (last_is c.args.first) c.deref.ensures.value) ∙ c.if-last_is.true in
    let e : Entry = record { first = c.args.first; second = c.args.second; weight = c.args.weight } in
    let back : to_z w128 (of_z w128 c.args.weight) ≡ c.args.weight = to_z-of_z w128 c.args.weight (search rules) in
    let weights : c.push_pair.new.weights ≡ c.self.inside.weights ++ c.args.weight ∷ [] =
    c.in_ok-push_pair.ensures.weights ∙ (λ i. c.self.inside.weights ++ back i ∷ []) in
    (λ i. packed_entries c.self.inside.starts.items (c.in_ok-push_pair.ensures.seconds i) (weights i))
    ∙ packed_longer _ _ _ c.args.first c.args.second c.args.weight c.self.invariant last
    ∙ ap (λ (es : List Entry). es ++ e ∷ []) c.self.view_is

pub invariant_of-self-in-Ok : goal.invariant_of-self-in-Ok
invariant_of-self-in-Ok c =
    let ss = c.self.inside.seconds.items in
    let other : last_is c.args.first c.self.inside.starts.items ≡ false =
    sym (c.last_is.ensures ∙ ap (last_is c.args.first) c.deref.ensures.value) ∙ c.if-last_is.false in
    let size : c.len-start.result ≡ length ss = search rules in
    rw (c.in_ok-push.ensures.items, size, c.in-Ok.ensures.seconds, c.in-Ok.ensures.weights)
    (begun_is_packed _ _ _ c.args.first c.args.second _ c.self.invariant other)

pub returns-in-Ok-clause-pushed : goal.returns-in-Ok-clause-pushed
returns-in-Ok-clause-pushed c =
    let ss = c.self.inside.seconds.items in
    let size : c.len-start.result ≡ length ss = search rules in
    let e : Entry = record { first = c.args.first; second = c.args.second; weight = c.args.weight } in
    let row : RowStart = record { first = c.args.first; start = length ss } in
    let starts : c.push.new.self.items ≡ c.self.inside.starts.items ++ row ∷ [] =
    c.in_ok-push.ensures.items ∙ (λ i. c.self.inside.starts.items ++ record { first = c.args.first; start = size i } ∷ []) in
    let back : to_z w128 (of_z w128 c.args.weight) ≡ c.args.weight = to_z-of_z w128 c.args.weight (search rules) in
    let weights : c.push_pair-2.new.weights ≡ c.self.inside.weights ++ c.args.weight ∷ [] =
    c.in-Ok.ensures.weights ∙ (λ i. c.self.inside.weights ++ back i ∷ []) in
    (λ i. packed_entries (starts i) (c.in-Ok.ensures.seconds i) (weights i))
    ∙ packed_begun _ _ _ c.args.first c.args.second c.args.weight c.self.invariant
    ∙ ap (λ (es : List Entry). es ++ e ∷ []) c.self.view_is

pub invariant_of-self-in-Err : goal.invariant_of-self-in-Err
invariant_of-self-in-Err c =
    let starts = c.self.inside.starts.items in
    let before = vec_len c.push.new.self - 1 in
    let same = c.pop.ensures.rest ∙ ap (take before) c.in_ok-push.ensures.items
    ∙ take-append-le before starts _ (omega (arith, c.in_ok-push.ensures.len))
    ∙ take_all before starts (omega (arith, c.in_ok-push.ensures.len)) in
    rw (same, c.in-Err.ensures.same_seconds, c.in-Err.ensures.same_weights) c.self.invariant
