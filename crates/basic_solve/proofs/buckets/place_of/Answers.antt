use Rattle.basic_solve.proofs.Common.{rules, ◌≡◌, ◌++◌, ◌∷◌, [], sym, length, map, set, get_or, length-map, map_push}
use Rattle.basic_solve.proofs.Heads.{heads_more, seen_more}
use Rattle.basic_solve.proofs.buckets.place_of.Goals.{then-index-eq0+in_ok-push, else-index-eq0}
use Rattle.basic_solve.proofs.buckets.place_of.Goals as goal

pub returns-clause-heads : goal.returns-clause-heads
returns-clause-heads g c =
    let vecs = c.args.lists.now.items in
    elim c.if-index-eq0.branch [
      | then-index-eq0+in_ok-push w ↦
          let now : c.if-index-eq0.heads.items ≡ set c.args.heads.now.items c.args.node (length vecs) = search rules in
          let pushed : c.if-index-eq0.lists.items ≡ vecs ++ w.new.result ∷ [] = search rules in
          let none : w.new.result.items ≡ [] = search rules in
          rw (now, pushed, map_push, none)
          (heads_more c.args.heads.now.items (map (λ list. list.items) vecs) c.args.node (length vecs)
          c.requires.heads c.requires.within (sym (length-map vecs (λ list. list.items))))
      | else-index-eq0 w ↦ search rules
    ]

pub returns-clause-same : goal.returns-clause-same
returns-clause-same g c =
    let heads = c.args.heads.now.items in
    let vecs = c.args.lists.now.items in
    elim c.if-index-eq0.branch [
      | then-index-eq0+in_ok-push w ↦
          let now : c.if-index-eq0.heads.items ≡ set heads c.args.node (length vecs) = search rules in
          let pushed : c.if-index-eq0.lists.items ≡ vecs ++ w.new.result ∷ [] = search rules in
          let none : w.new.result.items ≡ [] = search rules in
          let was : get_or heads c.args.node 0 ≡ 0 = search rules in
          rw (now, pushed, map_push, none)
          (seen_more heads (map (λ list. list.items) vecs) c.args.node (length vecs) c.requires.heads
          c.requires.within (sym (length-map vecs (λ list. list.items))) was)
      | else-index-eq0 w ↦ search rules
    ]
