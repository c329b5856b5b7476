use Rattle.normal_form.proofs.Common.{rules, ◌≡◌, ◌+◌, ◌-◌, ◌++◌, [], ◌∷◌, length, take, drop, get_or, neg_ℤ, unsigned_abs, false, subst, arith, ◌∙◌, ap, sym, to_z, of_z, w128, ints, to_z-of_z, take_all, length-drop, Literal, plain, plain_terms, Fills, fills_as, fills_more, fills_same, room_as, room_first, room_next, room_same, behind}
use Rattle.normal_form.proofs.PlainSteps.{last_terms, more_terms}
use Rattle.normal_form.proofs.plain.+gather_plain_terms.Goals as goal
use Rattle.normal_form.proofs.plain.+gather_plain_terms.Goals.{then-place-literals+in_ok-gather, else-place-literals+in_ok-gather_plain_terms+in_ok-push+in_ok-gather_plain_terms-2}

pub gather-requires : goal.gather-requires
gather-requires g t c =
    let fs = c.args.list.now.items in
    let ls = c.args.literals.now in
    let n = c.first_complement-place.result in
    let same : c.deref.result.now ≡ fs ++ take n ls = search rules in
    let last = last_terms fs ls n _ (search rules) c.first_complement-place.ensures.before in
    let back = to_z-of_z w128 _ (search rules) in
    room_as g.T.Gather.takes c.args.terms.now _ _ _ _ same back
    (room_same g.T.Gather.takes c.args.terms.now _ _ last c.requires.room)

pub gather_plain_terms-requires : goal.gather_plain_terms-requires
gather_plain_terms-requires g t c κs below =
    let none : Literal = record { variable = 0; negated = false } in
    let fs = c.args.list.now.items in
    let ls = c.args.literals.now in
    let n = c.first_complement-place.result in
    let same : c.extend_from_slice.new.self.items ≡ fs ++ take n ls = search rules in
    let rest : take (length ls - (n + 1)) (drop (n + 1) ls) ≡ drop (n + 1) ls =
    take_all _ _ (omega (arith, length-drop (n + 1) ls)) in
    let parts = more_terms fs ls n none _ (search rules) c.first_complement-place.ensures.before (search rules) in (
      search rules,
      (
        below,
        (rw same (rw rest (room_first g.T.Gather.takes c.args.terms.now _ _ _ parts c.requires.room)), c.requires.small),
      ),
    )

pub gather_plain_terms-requires-else-place-literals :
    goal.gather_plain_terms-requires-else-place-literals
gather_plain_terms-requires-else-place-literals g t c κs below =
    let none : Literal = record { variable = 0; negated = false } in
    let fs = c.args.list.now.items in
    let ls = c.args.literals.now in
    let n = c.first_complement-place.result in
    let k = c.args.coefficient.now in
    let same : c.extend_from_slice.new.self.items ≡ fs ++ take n ls = search rules in
    let rest : take (length ls - (n + 1)) (drop (n + 1) ls) ≡ drop (n + 1) ls =
    take_all _ _ (omega (arith, length-drop (n + 1) ls)) in
    let parts = more_terms fs ls n none k (search rules) c.first_complement-place.ensures.before (search rules) in
    let first =
    fills_same g.T.Gather.takes g.T.Gather.holds c.args.terms.now c.gather_plain_terms.new.terms _
    (behind (fs ++ take n ls) (plain_terms (drop (n + 1) ls) k))
    (λ i. behind (same i) (plain_terms (rest i) k)) c.in_ok-gather_plain_terms.ensures.gathered in
    let node : c.plain.result ≡ plain (get_or ls n none) = search rules in
    let list : c.push.new.self.items ≡ (fs ++ take n ls) ++ plain (get_or ls n none) ∷ [] =
    c.in_ok-push.ensures.items
    ∙ (λ i. (c.in_ok-gather_plain_terms.ensures.kept ∙ same) i ++ node i ∷ []) in
    let value : to_z w128 (of_z w128 c.negated.result) ≡ neg_ℤ k =
    to_z-of_z w128 c.negated.result (search rules) ∙ c.negated.ensures in (
      search rules,
      (
        below,
        (
          rw list (rw rest (rw value
              (room_next g.T.Gather.takes g.T.Gather.holds c.args.terms.now c.gather_plain_terms.new.terms _ _ _ parts first
              c.requires.room))),
          omega (arith, ints, c.requires.small, ap unsigned_abs value),
        ),
      ),
    )

pub negated-requires : goal.negated-requires
negated-requires g t c = c.requires.small

pub returns-clause-gathered : goal.returns-clause-gathered
returns-clause-gathered g t c =
    let none : Literal = record { variable = 0; negated = false } in
    let Takes = g.T.Gather.takes in
    let Holds = g.T.Gather.holds in
    let old = c.args.terms.now in
    let fs = c.args.list.now.items in
    let ls = c.args.literals.now in
    let n = c.first_complement-place.result in
    let k = c.args.coefficient.now in
    let before = c.first_complement-place.ensures.before in
    let same : c.extend_from_slice.new.self.items ≡ fs ++ take n ls = search rules in
    let rest : take (length ls - (n + 1)) (drop (n + 1) ls) ≡ drop (n + 1) ls =
    take_all _ _ (omega (arith, length-drop (n + 1) ls)) in
    elim c.if-place-literals.branch [
      | then-place-literals+in_ok-gather w ↦
          let all : w.deref.result.now ≡ fs ++ take n ls = search rules in
          let back = to_z-of_z w128 k (search rules) in
          subst (λ s. Fills Takes Holds old s (behind fs (plain_terms ls k))) (sym w.terms-is)
          (fills_same Takes Holds old w.gather.new.self _ _ (sym (last_terms fs ls n k (search rules) before))
          (fills_as Takes Holds old w.gather.new.self _ _ k _ all back w.in_ok-gather.ensures.added
          w.in_ok-gather.ensures.takes))
      | else-place-literals+in_ok-gather_plain_terms+in_ok-push+in_ok-gather_plain_terms-2 w ↦
          let parts = more_terms fs ls n none k (search rules) before (search rules) in
          let first =
          fills_same Takes Holds old w.gather_plain_terms.new.terms _
          (behind (fs ++ take n ls) (plain_terms (drop (n + 1) ls) k))
          (λ i. behind (same i) (plain_terms (rest i) k)) w.in_ok-gather_plain_terms.ensures.gathered in
          let node : w.plain.result ≡ plain (get_or ls n none) = search rules in
          let list : w.push.new.self.items ≡ (fs ++ take n ls) ++ plain (get_or ls n none) ∷ [] =
          w.in_ok-push.ensures.items
          ∙ (λ i. (w.in_ok-gather_plain_terms.ensures.kept ∙ same) i ++ node i ∷ []) in
          let value : to_z w128 (of_z w128 w.negated.result) ≡ neg_ℤ k =
          to_z-of_z w128 w.negated.result (search rules) ∙ w.negated.ensures in
          let second =
          fills_same Takes Holds w.gather_plain_terms.new.terms w.gather_plain_terms-else-place-literals.new.terms _ _
          (λ i. behind (list i) (plain_terms (rest i) (value i))) w.in_ok-gather_plain_terms-2.ensures.gathered in
          subst (λ s. Fills Takes Holds old s (behind fs (plain_terms ls k))) (sym w.terms-is)
          (fills_same Takes Holds old w.gather_plain_terms-else-place-literals.new.terms _ _ (sym parts)
          (fills_more Takes Holds old w.gather_plain_terms.new.terms w.gather_plain_terms-else-place-literals.new.terms _ _ first second))
    ]
