use Rattle.normal_form.proofs.Common.{rules, ◌∷◌, refl, subst, sym, to_z, of_z, w128, to_z-of_z, All-head, All-tail, on_ok_weaker, with_appended, contributions, fills_if_ok, room_as, IsSmall, multiplied}
use Rattle.normal_form.proofs.Gathered.{held-alone, held-multiplied, room-alone, room-multiplied, takes-alone, takes-multiplied}
use Rattle.normal_form.proofs.plain.PlainTermsGather.gather.Goals as goal

pub gather-requires : goal.gather-requires
gather-requires g c =
    let back = to_z-of_z w128 _ (search rules) in
    room_as g.T.Gather.takes c.args.self.now.terms _ _ _ _ refl back
    (room-alone g.T.Gather.takes g.T.Gather.holds _ c.first_complement-place.result _ (search rules)
    c.first_complement-place.ensures.before c.args.self.now.terms c.requires.0 (c.requires.1).0)

pub returns-then-place-literals-clause-added : goal.returns-then-place-literals-clause-added
returns-then-place-literals-clause-added g c t held =
    let back = to_z-of_z w128 _ (search rules) in
    on_ok_weaker c.gather.result
    (λ one. held-alone g.T.Gather.takes g.T.Gather.holds _ c.first_complement-place.result _ (search rules)
    c.first_complement-place.ensures.before _ _ one.held t held)
    (fills_if_ok g.T.Gather.takes g.T.Gather.holds _ _ _ _ _ _ _ refl back c.gather.ensures.added
    c.gather.ensures.takes)

pub returns-then-place-literals-clause-takes : goal.returns-then-place-literals-clause-takes
returns-then-place-literals-clause-takes g c more room =
    let ls = c.args.literals.now in
    let k = c.args.coefficient in
    let back = to_z-of_z w128 k (search rules) in
    on_ok_weaker c.gather.result (λ one. (
      takes-alone g.T.Gather.takes g.T.Gather.holds ls c.first_complement-place.result k (search rules)
          c.first_complement-place.ensures.before _ _ one.room more room.0,
      All-tail IsSmall (ls, k) more room.1,
    )) (fills_if_ok g.T.Gather.takes g.T.Gather.holds _ _ _ _ _ _ _ refl back c.gather.ensures.added
    c.gather.ensures.takes)

pub gather_plain_terms-requires-clause-room : goal.gather_plain_terms-requires-clause-room
gather_plain_terms-requires-clause-room g c =
    let ls = c.args.literals.now in
    let k = c.args.coefficient in
    let back = to_z-of_z w128 k (search rules) in
    room-multiplied g.T.Gather.takes c.args.self.now.terms c.clear.new.self.items ls (to_z w128 (of_z w128 k)) c.requires.0
    (search rules)
    (subst (λ z. g.T.Gather.takes c.args.self.now.terms (contributions ((ls, z) ∷ c.requires.0))) (sym back) (c.requires.1).0)

pub gather_plain_terms-requires-clause-small : goal.gather_plain_terms-requires-clause-small
gather_plain_terms-requires-clause-small g c =
    let back = to_z-of_z w128 c.args.coefficient (search rules) in
    rw back (All-head IsSmall (c.args.literals.now, c.args.coefficient) c.requires.0 (c.requires.1).1)

pub returns-clause-added : goal.returns-clause-added
returns-clause-added g c t held =
    let ls = c.args.literals.now in
    let back = to_z-of_z w128 c.args.coefficient (search rules) in
    let new = c.gather_plain_terms.new.terms in
    on_ok_weaker c.gather_plain_terms.result
    (λ fills. subst (λ z. g.T.Gather.holds new (multiplied (with_appended t ls z))) back
    (held-multiplied g.T.Gather.takes g.T.Gather.holds _ _ c.clear.new.self.items ls
    (to_z w128 (of_z w128 c.args.coefficient)) (search rules) fills t held))
    c.gather_plain_terms.ensures.gathered

pub returns-clause-takes : goal.returns-clause-takes
returns-clause-takes g c more room =
    let ls = c.args.literals.now in
    let k = c.args.coefficient in
    let back = to_z-of_z w128 k (search rules) in
    let now = c.args.self.now.terms in
    on_ok_weaker c.gather_plain_terms.result (λ fills. (
      takes-multiplied g.T.Gather.takes g.T.Gather.holds _ _ c.clear.new.self.items ls
          (to_z w128 (of_z w128 k)) (search rules) fills more
          (subst (λ z. g.T.Gather.takes now (contributions ((ls, z) ∷ more))) (sym back) room.0),
      All-tail IsSmall (ls, k) more room.1,
    )) c.gather_plain_terms.ensures.gathered
