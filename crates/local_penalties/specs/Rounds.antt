-- The rule: penalties of parts, found in rounds by the prices of their literals.
use Rattle.std.specs.Prelude.{ℕ, zero, suc, ◌+◌, ◌-◌, ◌/◌, max, min, Bool, true, false, not, ◌&&◌, ◌==◌, nat_lt, nat_le, int_lt, pos, List, [], ◌∷◌, map, fold, is_none, if◌then◌else◌}
use Rattle.std.specs.List.{filter, flat_map, list_all, slice_index_or}
use Rattle.literal_lists.specs.declared.literal.Literal.{Literal}
use Rattle.problem_form.specs.declared.terms.Product.{Product}
use Rattle.problem_form.specs.declared.terms.Clause.{Clause}
use Rattle.problem_form.specs.declared.terms.Constraint.{Constraint}
use Rattle.problem_form.specs.declared.penalties.PartPenalties.{PartPenalties}
use Rattle.problem_form.specs.PartPenalties.{own, rest}
use Rattle.problem_form.specs.Problems.{ProblemContent}
use Rattle.local_penalties.specs.Stepping.{common_size, is_stepped}
use Rattle.local_penalties.specs.Prices.{far, price, whole_penalty}
use Rattle.problem_form.specs.Wanted.{is_single, size, wanted}
use Rattle.problem_form.specs.Limits.{need, positive_total, room}

-- ---- least and greatest

-- the least of these prices; where there is none it is infinite
abbrev pub least : List ℕ → ℕ
least ns = fold min far ns

-- a number put into a descending list
abbrev pub put_down : ℕ → List ℕ → List ℕ
put_down n [] = n ∷ []
put_down n (m ∷ ms) = if nat_lt m n then n ∷ m ∷ ms else m ∷ put_down n ms

-- the numbers in descending order
abbrev pub descending : List ℕ → List ℕ
descending [] = []
descending (n ∷ ns) = put_down n (descending ns)

-- the j-th greatest of these prices; where there are fewer it is infinite
abbrev pub greatest : ℕ → List ℕ → ℕ
greatest j ns = min far (slice_index_or (descending ns) (j - 1) far)

-- how many of the numbers, from the first on, sum to more than a room
abbrev pub count_past : ℕ → List ℕ → ℕ
count_past room [] = 0
count_past room (n ∷ ns) = if nat_lt room n then 1 else 1 + count_past (room - n) ns

-- ---- wanted literals

-- the prices of the literals that products want
abbrev pub wanted_prices : Bool → (Literal → ℕ) → List Product → List ℕ
wanted_prices up prices ts = map prices (flat_map (wanted up) ts)

-- ---- local penalties, by the prices of literals

-- one literal is enough for a clause
abbrev pub clause_penalty : (Literal → ℕ) → Clause → ℕ
clause_penalty prices c = 1 + least (map prices c.literals)

-- the products of one literal that make a constraint hold by themselves: no less than what it needs
abbrev pub sufficient : Constraint → List Product
sufficient k = filter (λ t. is_single t && nat_le (need k) (size t)) k.products

-- the least price of what makes a constraint hold alone
abbrev pub price_alone : (Literal → ℕ) → Constraint → ℕ
price_alone prices k = least (wanted_prices true prices (sufficient k))

-- at least so many wanted literals of products of one literal are false where the sum of the products
-- is below the greatest one by more than a room
abbrev pub least_false : ℕ → List Product → ℕ
least_false room ts = count_past room (descending (map size ts))

-- what the cheapest of them costs at most
abbrev pub price_of_step : (Literal → ℕ) → ℕ → List Product → ℕ
price_of_step prices room ts =
    if list_all is_single ts
    then greatest (least_false room ts) (wanted_prices true prices ts)
    else far

-- of a constraint that bounds its sum from below: 1 where it always holds, and none where it never does
abbrev pub bound_penalty : (Literal → ℕ) → Constraint → ℕ
bound_penalty prices k =
    if need k == 0 then 1
    else if int_lt (pos (positive_total k.products)) k.bound then far
    else 1 + min (price_alone prices k) (price_of_step prices (room k) k.products)

-- what the cheapest step of a sum that can be short of its bound costs at most, up or, where `up` is
-- false, down: where so many steps lead from the bound to the last sum, more wanted literals are false
abbrev pub price_of_side : Bool → (Literal → ℕ) → ℕ → ℕ → List Product → ℕ
price_of_side up prices short steps ts =
    if short == 0 then 0 else greatest (steps + 1) (wanted_prices up prices ts)

-- of an equation, whose sum can be short by what it needs, and too great by its room
abbrev pub equation_penalty : (Literal → ℕ) → Constraint → ℕ
equation_penalty prices k =
    if is_stepped k
    then 1 + max (price_of_side true prices (need k) (room k / common_size k.products) k.products)
    (price_of_side false prices (room k) (need k / common_size k.products) k.products)
    else far

-- the local penalty of a constraint, of an equation by prices that leave out what it adds itself: each of
-- its literals hurts it
abbrev pub constraint_penalty : (Literal → ℕ) → Constraint → ℕ
constraint_penalty prices k =
    if k.exact then equation_penalty (λ l. prices l - far) k else bound_penalty prices k

-- ---- rounds

-- the penalty of a clause after a round: a hard one without one gets its local one, where that is less
abbrev pub next_clause : (Literal → ℕ) → ℕ → ℕ → Clause → ℕ
next_clause prices n m c =
    if is_none c.weight && not (nat_lt m n) then min (clause_penalty prices c) n else m

-- the penalties of the clauses after a round
abbrev pub next_clauses : (Literal → ℕ) → ℕ → List ℕ → List Clause → List ℕ
next_clauses prices n ns [] = []
next_clauses prices n ns (c ∷ cs) =
    next_clause prices n (own n ns) c ∷ next_clauses prices n (rest ns) cs

-- the penalty of a constraint after a round
abbrev pub next_constraint : (Literal → ℕ) → ℕ → ℕ → Constraint → ℕ
next_constraint prices n m k =
    if nat_lt m n then m else min (constraint_penalty prices k) n

-- the penalties of the constraints after a round
abbrev pub next_constraints : (Literal → ℕ) → ℕ → List ℕ → List Constraint → List ℕ
next_constraints prices n ns [] = []
next_constraints prices n ns (k ∷ ks) =
    next_constraint prices n (own n ns) k ∷ next_constraints prices n (rest ns) ks

-- the penalties after a round, by the prices at its beginning
abbrev pub next_penalties : ProblemContent → PartPenalties → PartPenalties
next_penalties p found = record {
  clauses = next_clauses (price p found) (whole_penalty p) found.clauses p.clauses;
  constraints = next_constraints (price p found) (whole_penalty p) found.constraints p.constraints;
}

-- the penalties after so many rounds. One that gives no part a penalty changes nothing, nor do later ones
unfoldable pub after_rounds : ℕ → ProblemContent → PartPenalties → PartPenalties
after_rounds zero p found = found
after_rounds (suc rounds) p found = after_rounds rounds p (next_penalties p found)

-- before the first round no part has a penalty of its own
abbrev pub without_own : ProblemContent → PartPenalties
without_own p = record { clauses = []; constraints = [] }

-- the penalties of the rule: those after eight rounds
abbrev pub penalties_of : ProblemContent → PartPenalties
penalties_of p = after_rounds 8 p (without_own p)
