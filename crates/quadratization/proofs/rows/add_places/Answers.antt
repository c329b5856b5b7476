use Rattle.quadratization.proofs.Common.{nat_tests, arith, ◌≡◌, ◌∷◌, ◌++◌, [], map, append_assoc, append-nil, sym, ap, ◌∙◌, flat_map, All-push, All-weaker, drop_more, drop_all, places_at, pair_part, head_of, IsHead, drop, get_or, ◌+◌, ◌^◌, Literal, ◌<◌}
use Rattle.quadratization.proofs.SummedRows.{places_more, part_added, head_kept}
use Rattle.quadratization.proofs.rows.add_places.Goals as goal

pub add_place-requires-clause-within : goal.add_place-requires-clause-within
add_place-requires-clause-within c =
    All-weaker (λ (l : Literal). l.variable < c.args.long.now.width) (λ (l : Literal). l.variable < 2 ^ 32)
    (λ (l : Literal) less. omega (arith, less, c.requires.narrow)) _ c.place-place.ensures.kept.later

pub loop-index-preserved : goal.loop-index-preserved
loop-index-preserved c =
    let t = c.args.long.now in
    let v = c.args.variable in
    let p = c.place-place.result in
    let i = c.loop-index.index-index in
    let k = get_or c.args.indices.now i 0 in
    let ks = drop (i + 1) c.args.indices.now in
    let more = drop_more c.args.indices.now i 0 c.loop-index-test.true in
    let left = ap (λ ms. flat_map pair_part (places_at t v ms)) more
    ∙ places_more pair_part t v k ks p c.place-place.ensures.place in
    let heads = ap (λ ms. map head_of (places_at t v ms)) more ∙ ap (λ qs. map head_of (qs ++ places_at t v ks)) c.place-place.ensures.place in
    let pushed : c.push.new.self.items ≡ c.loop-index.heads.items ++ head_of p ∷ [] =
    c.in_ok-push.ensures.items ∙ ap (λ h. c.loop-index.heads.items ++ h ∷ []) c.head_of.ensures in
    record {
      whole =
          part_added c.loop-index.row _ (pair_part p) (flat_map pair_part (places_at t v ks)) _ c.add_place.new.row left
          c.in_ok-add_place.ensures c.loop-index.invariant.whole;
      heads =
          ap (λ hs. hs ++ map head_of (places_at t v ks)) pushed
          ∙ append_assoc c.loop-index.heads.items (head_of p ∷ []) (map head_of (places_at t v ks))
          ∙ ap (λ hs. c.loop-index.heads.items ++ hs) (sym heads) ∙ c.loop-index.invariant.heads;
      kept =
          rw pushed (All-push IsHead c.loop-index.heads.items (head_of p) c.loop-index.invariant.kept
          (head_kept t v p c.place-place.ensures.kept c.requires.narrow));
    }

pub returns-clause-heads : goal.returns-clause-heads
returns-clause-heads c = grind (arith, nat_tests, drop_all, append-nil)

pub returns-clause-row : goal.returns-clause-row
returns-clause-row c = grind (arith, nat_tests, drop_all, append-nil)
