use Rattle.quadratization.proofs.Common.{List, ap, sym, ◌∙◌, subst, All, All-get_or, get_or_from_slice_get, slice_get_within, Literal, Product, key_for, IsCoded}
use Rattle.quadratization.proofs.SortedAdditions.{keyed_more}
use Rattle.quadratization.proofs.additions.with_keys.Goals as goal

pub key_for-key-requires : goal.key_for-key-requires
key_for-key-requires c =
    let ps = c.args.additions.now in
    let p = c.at.result in
    let P : List Literal → Type 0 = λ ls. All (λ (l : Literal). IsCoded c.args.length l.variable) ls in
    let Q : Product → Type 0 = λ q. P q.literals in
    let in' = slice_get_within ps c.loop-index.index p c.at.ensures in
    let here : Q p = subst Q (get_or_from_slice_get ps c.loop-index.index p p c.at.ensures) (All-get_or Q ps c.loop-index.index p in' c.requires) in
    subst P (sym (ap (λ (q : Product). q.literals) c.key_for.view_is)) here

pub loop-index-preserved : goal.loop-index-preserved
loop-index-preserved c =
    let key = c.key_for-key.ensures ∙ ap (λ (q : Product). key_for c.args.length q.literals)
    c.key_for.view_is in
    let all = keyed_more c.args.length _ _ c.key_for-key.result _ c.loop-index.order.items
    c.push.new.self.items c.at.ensures key c.in_ok-push.ensures.items
    c.loop-index.invariant.within c.loop-index.invariant.keys c.loop-index.invariant.whole in
    record { within = all.0; keys = all.1; whole = all.2 }
