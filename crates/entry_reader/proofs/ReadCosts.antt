-- What the problem of a text of entries costs: what the text costs, entry by entry.
use Rattle.entry_reader.proofs.Common.{nat_tests, ◌≡◌, Bool, arith, refl, ◌∙◌, List, [], ◌∷◌, flat_map, total_by, total_by-append, sum_of, problem_cost, normal_form-cost, Layout, Listed, Listing, products_of, problem_of, entry_cost, listing_cost, ReadingKeepsCosts}

-- ---- bits and spins

-- ---- the products of an entry count what the entry costs

sum_of-entry : (layout : Layout) (x : List Bool) (e : Listed)
    → sum_of x (products_of layout e) ≡ entry_cost layout x e
sum_of-entry layout x e = grind (arith, nat_tests)

sum_of-entries : (layout : Layout) (x : List Bool) (es : List Listed)
    → sum_of x (flat_map (products_of layout) es) ≡ total_by (entry_cost layout x) es
sum_of-entries layout x [] = refl
sum_of-entries layout x (e ∷ es) =
    grind (arith, nat_tests, total_by-append, sum_of-entry, sum_of-entries layout x es)

problem_of-cost : (layout : Layout) (s : Listing) (x : List Bool)
    → problem_cost (problem_of layout s) x ≡ listing_cost layout s x
problem_of-cost layout s x = grind (arith, nat_tests, sum_of-entries)

pub reading_keeps_costs : ReadingKeepsCosts
reading_keeps_costs layout s x =
    normal_form-cost (problem_of layout s) x ∙ problem_of-cost layout s x
