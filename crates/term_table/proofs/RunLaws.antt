-- The laws of merging and settling, on lists with the oldest run first.
use Rattle.term_table.proofs.Common.{nat_tests, ◌≡◌, ◌*◌, ◌≤◌, arith, ap, ◌∙◌, refl, List, [], ◌∷◌, ◌++◌, length, reverse, is_eq, reverse-reverse, set_cmp, Run, settled_with, settled_back, settled, MergingSums, MergingKeepsTerms, SettlingDrops, SettlingMerges, SettlingStays, SettlingEnds}
use Rattle.term_table.proofs.Additions.{weight-with_additions}
use Rattle.term_table.proofs.KeptTerms.{AreTerms-more}
use Rattle.term_table.proofs.Runs.{reverse_more, reverse_push, settled_is}

pub merging_sums : MergingSums
merging_sums ls older newer = weight-with_additions (λ ks. is_eq (set_cmp ls ks)) older newer

pub merging_keeps_terms : MergingKeepsTerms
merging_keeps_terms width older newer left right = AreTerms-more width older newer left right.sets

settled_empty : (rs : List Run) → settled_with [] rs ≡ settled_back rs
settled_empty [] = refl
settled_empty (r ∷ rs) = refl

pub settling_drops : SettlingDrops
settling_drops runs = settled_is runs [] ∙ ap reverse (settled_empty (reverse runs))

-- the last two runs stand apart
settled_two : (runs : List Run) (before last : Run) → settled ((runs ++ before ∷ []) ++ last ∷ [])
    ≡ reverse (settled_with last (before ∷ reverse runs))
settled_two runs before last = grind (arith, nat_tests, settled_is, reverse_push)

pub settling_merges : SettlingMerges
settling_merges runs before last long = grind (arith, nat_tests, settled_two, settled_is)

settled_short : (last before : Run) (older : List Run) → 1 ≤ length last
    → 2 * length last ≤ length before → settled_with last (before ∷ older) ≡ last ∷ before ∷ older
settled_short last before older some short = grind (arith, nat_tests)

pub settling_stays : SettlingStays
settling_stays runs before last some short =
    settled_two runs before last ∙ ap reverse (settled_short last before (reverse runs) some short)
    ∙ reverse_more last (before ∷ reverse runs) ∙ ap (λ (rs : List Run). rs ++ last ∷ [])
    (reverse_more before (reverse runs)
    ∙ ap (λ (rs : List Run). rs ++ before ∷ []) (reverse-reverse runs))

pub settling_ends : SettlingEnds
settling_ends [] some = absurd (omega arith)
settling_ends (t ∷ ts) some = refl
