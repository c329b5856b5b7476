-- What the problem of a text costs: what the text costs, product by product.
use Rattle.poly_reader.proofs.Common.{nat_tests, ◌≡◌, ℕ, Bool, ◌&&◌, List, [], ◌∷◌, map, ◌+ℤ◌, refl, ◌∙◌, arith, list_all, total_by, if_so, all_hold, sum_of, problem_cost, normal_form-cost, Named, Listed, is_true, value_of, poly_cost, literal_of, product_of, problem_of, ReadingKeepsCosts}

all_hold-numbered : (names : List (List ℕ)) (x : List Bool) (ls : List Named)
    → all_hold x (map (literal_of names) ls) ≡ list_all (is_true names x) ls
all_hold-numbered names x [] = refl
all_hold-numbered names x (l ∷ ls) = λ i. is_true names x l && all_hold-numbered names x ls i

sum_of-listed : (names : List (List ℕ)) (x : List Bool) (ts : List Listed)
    → sum_of x (map (product_of names) ts) ≡ total_by (value_of names x) ts
sum_of-listed names x [] = refl
sum_of-listed names x (t ∷ ts) =
    λ i. if_so (all_hold-numbered names x t.literals i) t.coefficient +ℤ sum_of-listed names x ts i

problem_of-cost : (ts : List Listed) (x : List Bool)
    → problem_cost (problem_of ts) x ≡ poly_cost ts x
problem_of-cost ts x = grind (arith, nat_tests, sum_of-listed)

pub reading_keeps_costs : ReadingKeepsCosts
reading_keeps_costs ts x = normal_form-cost (problem_of ts) x ∙ problem_of-cost ts x
