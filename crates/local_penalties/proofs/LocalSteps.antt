-- The least price of literals, literal by literal and product by product.
use Rattle.local_penalties.proofs.Common.{◌≡◌, ℕ, ◌≤◌, sym, ap, ◌∙◌, refl, arith, nat_tests, ints, List, [], ◌∷◌, ◌++◌, map, fold, min, Bool, true, false, not, cond, beq, Literal, Product, flat_map, filter, turned_literal, wanted, wanted_prices, size, append-nil, append_assoc, map-append, fold-append, negative_total, products_total, sum_by-cons, neg_ℤ, positive_part, unsigned_abs, ℤ, pos, int_lt, ◌<ℤ◌, ◌≤ℤ◌, ◌-ℤ◌, None, Some, is_single, eqb, slice_get, greatest, count_past, descending, price_of_step, list_all, far, ◌-◌, variables_of, ◌+◌, ◌/◌, ◌<◌, ◌^◌, max, Constraint, constraint_total, room, need, common_size, is_stepped, price_of_side, equation_penalty, positive_total-le, positive_total, subst, bound_penalty, price_alone, sufficient, nat_le, ◌&&◌}
use Rattle.std.specs.Option.{option_map_or}
use Rattle.local_penalties.proofs.Sizes.{has_size, suffices}

turned_false-one : (l : Literal) → turned_literal false l ≡ l
turned_false-one l = ap (λ b. record l { negated = b }) (plain l.negated)
  where
    plain : (b : Bool) → not (beq false b) ≡ b
    plain true = refl
    plain false = refl

pub turned_false : (ls : List Literal) → map (turned_literal false) ls ≡ ls
turned_false [] = refl
turned_false (l ∷ ls) = λ i. turned_false-one l i ∷ turned_false ls i

pub alone_one : (t : Product) → flat_map (wanted true) (t ∷ []) ≡ wanted true t
alone_one t = append-nil (wanted true t)

pub least-step : (f : Literal → ℕ) (g : Literal → Literal) (m : Literal) (left others : List Literal)
    (a b total : ℕ) → left ≡ m ∷ others → b ≡ min a (f (g m))
    → fold min a (map f (map g left)) ≡ total → fold min b (map f (map g others)) ≡ total
least-step f g m left others a b total is e so_far =
    let s = rw is at so_far in rw e s

-- a product that passes a test adds the prices of what it is wanted for
one_more : (passes : Bool) (f : Literal → ℕ) (t : Product) (ts : List Product) (a : ℕ)
    → fold min a (map f (flat_map (wanted true) (cond passes (t ∷ ts) ts)))
    ≡ fold min (fold min a (map f (flat_map (wanted true) (cond passes (t ∷ []) [])))) (map f (flat_map (wanted true) ts))
one_more true f t ts a =
    ap (fold min a) (map-append f (wanted true t) (flat_map (wanted true) ts))
    ∙ fold-append min a (map f (wanted true t)) (map f (flat_map (wanted true) ts))
    ∙ ap (λ ls. fold min (fold min a (map f ls)) (map f (flat_map (wanted true) ts))) (sym (append-nil (wanted true t)))
one_more false f t ts a = refl

pub alone-step : (f : Literal → ℕ) (below : ℕ) (t : Product) (left others : List Product)
    (a b total : ℕ) → left ≡ t ∷ others
    → b ≡ fold min a (wanted_prices true f (filter (suffices below) (t ∷ [])))
    → fold min a (wanted_prices true f (filter (suffices below) left)) ≡ total
    → fold min b (wanted_prices true f (filter (suffices below) others)) ≡ total
alone-step f below t left others a b total is e so_far =
    let s = rw is at so_far in
    ap (λ n. fold min n (wanted_prices true f (filter (suffices below) others))) e
    ∙ sym (one_more (suffices below t) f t (filter (suffices below) others) a) ∙ s

pub negative_total-le : (ts : List Product) → negative_total ts ≤ products_total ts
negative_total-le [] = omega arith
negative_total-le (t ∷ ts) =
    let here : positive_part (neg_ℤ t.coefficient) ≤ unsigned_abs t.coefficient = grind (arith, nat_tests, ints) in
    let others = negative_total-le ts in
    omega (arith, sum_by-cons (λ (u : Product). positive_part (neg_ℤ u.coefficient)) t ts, sum_by-cons (λ (u : Product). unsigned_abs u.coefficient) t ts)

-- ---- what a greatest sum is above a bound

pub is_less : (a b : ℤ) → a <ℤ b → int_lt a b ≡ true
is_less a b h = grind (arith, ints)

pub is_not_less : (a b : ℤ) → b ≤ℤ a → int_lt a b ≡ false
is_not_less a b h = grind (arith, ints)

pub no_room : (h : ℕ) (b : ℤ) → int_lt (pos h) b ≡ true
    → None ≡ cond (int_lt (pos h) b) None (Some (positive_part (pos h -ℤ b)))
no_room h b e = λ i. cond (sym e i) None (Some (positive_part (pos h -ℤ b)))

pub some_room : (h : ℕ) (b : ℤ) (r : ℕ) → int_lt (pos h) b ≡ false → r ≡ unsigned_abs (pos h -ℤ b)
    → Some r ≡ cond (int_lt (pos h) b) None (Some (positive_part (pos h -ℤ b)))
some_room h b r e is = grind (arith, nat_tests, ints)

-- ---- prices in a buffer

pub prices-step : (f : Literal → ℕ) (g : Literal → Literal) (m : Literal) (left others : List Literal)
    (ns more total : List ℕ) (n : ℕ) → left ≡ m ∷ others → n ≡ f (g m) → more ≡ ns ++ n ∷ []
    → ns ++ map f (map g left) ≡ total → more ++ map f (map g others) ≡ total
prices-step f g m left others ns more total n is e pushed so_far =
    ap (λ ms. ms ++ map f (map g others)) pushed
    ∙ append_assoc ns (n ∷ []) (map f (map g others))
    ∙ (λ j. ns ++ e j ∷ map f (map g others))
    ∙ (λ j. ns ++ map f (map g (sym is j))) ∙ so_far

pub wanted-step : (f : Literal → ℕ) (up : Bool) (t : Product) (left others : List Product)
    (ns more total : List ℕ) → left ≡ t ∷ others → more ≡ ns ++ map f (wanted up t)
    → ns ++ wanted_prices up f left ≡ total → more ++ wanted_prices up f others ≡ total
wanted-step f up t left others ns more total is added so_far =
    ap (λ ms. ms ++ wanted_prices up f others) added
    ∙ append_assoc ns (map f (wanted up t)) (wanted_prices up f others)
    ∙ ap (λ ms. ns ++ ms) (sym (map-append f (wanted up t) (flat_map (wanted up) others)))
    ∙ (λ j. ns ++ wanted_prices up f (sym is j)) ∙ so_far

pub sizes_are : (ts : List Product) → map (λ z. unsigned_abs z) (map (λ t. t.coefficient) ts) ≡ map size ts
sizes_are [] = refl
sizes_are (t ∷ ts) = λ j. unsigned_abs t.coefficient ∷ sizes_are ts j

-- the price that is found in a buffer
pub step-price : (f : Literal → ℕ) (room count : ℕ) (ts : List Product) (sizes ordered prices : List ℕ) (n : ℕ)
    → list_all is_single ts ≡ true → sizes ≡ map (λ z. unsigned_abs z) (map (λ t. t.coefficient) ts)
    → ordered ≡ descending sizes → count ≡ count_past room ordered → prices ≡ wanted_prices true f ts
    → n ≡ greatest count prices → n ≡ price_of_step f room ts
step-price f room count ts sizes ordered prices n single sized sorted counted priced is =
    let in_order : ordered ≡ descending (map size ts) = sorted ∙ ap descending (sized ∙ sizes_are ts) in
    let counts : count ≡ count_past room (descending (map size ts)) = counted ∙ ap (count_past room) in_order in
    is ∙ (λ j. greatest (counts j) (priced j))
    ∙ (λ j. cond (sym single j) (greatest (count_past room (descending (map size ts))) (wanted_prices true f ts)) far)

whole : (n : ℕ) → n - 0 ≡ n
whole n = omega arith

-- where nothing is taken off
pub step-price-whole : (f : Literal → ℕ) (room count : ℕ) (ts : List Product) (sizes ordered prices : List ℕ) (n : ℕ)
    → list_all is_single ts ≡ true → sizes ≡ map (λ z. unsigned_abs z) (map (λ t. t.coefficient) ts)
    → ordered ≡ descending sizes → count ≡ count_past room ordered
    → prices ≡ wanted_prices true (λ l. f l - 0) ts
    → n ≡ greatest count prices → n ≡ price_of_step f room ts
step-price-whole f room count ts sizes ordered prices n single sized sorted counted priced is =
    step-price f room count ts sizes ordered prices n single sized sorted counted
    (priced ∙ (λ j. wanted_prices true (λ l. whole (f l) j) ts)) is

-- ---- variables in a buffer

pub variables-step : (m : Literal) (left others : List Literal) (ns more total : List ℕ) (n : ℕ)
    → left ≡ m ∷ others → n ≡ m.variable → more ≡ ns ++ n ∷ []
    → ns ++ map (λ l. l.variable) left ≡ total → more ++ map (λ l. l.variable) others ≡ total
variables-step m left others ns more total n is e pushed so_far =
    ap (λ ms. ms ++ map (λ (l : Literal). l.variable) others) pushed
    ∙ append_assoc ns (n ∷ []) (map (λ (l : Literal). l.variable) others)
    ∙ (λ j. ns ++ e j ∷ map (λ (l : Literal). l.variable) others)
    ∙ (λ j. ns ++ map (λ (l : Literal). l.variable) (sym is j)) ∙ so_far

pub products-step : (t : Product) (left others : List Product) (ns more total : List ℕ) → left ≡ t ∷ others
    → more ≡ ns ++ map (λ l. l.variable) t.literals → ns ++ variables_of left ≡ total
    → more ++ variables_of others ≡ total
products-step t left others ns more total is added so_far =
    ap (λ ms. ms ++ variables_of others) added
    ∙ append_assoc ns (map (λ (l : Literal). l.variable) t.literals) (variables_of others)
    ∙ (λ j. ns ++ variables_of (sym is j)) ∙ so_far

-- ---- one size

pub common-sized : (n : ℕ) (ts : List Product) → n ≡ option_map_or size (slice_get ts 0) 0
    → cond (list_all (has_size n) ts) n 0 ≡ common_size ts
common-sized n [] is = is
common-sized n (t ∷ ts) is = grind (arith, nat_tests)

pub size-step : (n : ℕ) (t : Product) (left others : List Product) (total : Bool) → left ≡ t ∷ others
    → true ≡ has_size n t → list_all (has_size n) left ≡ total → list_all (has_size n) others ≡ total
size-step n t left others total is same so_far =
    let s = rw is at so_far in grind (arith, nat_tests)

pub size-none : (n : ℕ) (t : Product) (left others : List Product) (total : Bool) → left ≡ t ∷ others
    → false ≡ has_size n t → list_all (has_size n) left ≡ total → false ≡ total
size-none n t left others total is differs so_far =
    let s = rw is at so_far in grind (arith, nat_tests)

-- ---- equations

pub above-small : (k : Constraint) → constraint_total k < 2 ^ 100 → room k < 2 ^ 101
above-small k small = grind (arith, nat_tests, ints, positive_total-le k.products)

pub below-small : (k : Constraint) → constraint_total k < 2 ^ 100 → need k < 2 ^ 101
below-small k small = grind (arith, nat_tests, ints, negative_total-le k.products)

pub equation-price : (f : Literal → ℕ) (k : Constraint) (size below above up down m : ℕ) → is_stepped k ≡ true
    → size ≡ common_size k.products → below ≡ need k → above ≡ room k
    → up ≡ price_of_side true (λ l. f l - far) below (above / size) k.products
    → down ≡ price_of_side false (λ l. f l - far) above (below / size) k.products
    → m ≡ max up down → 1 + m ≡ equation_penalty (λ l. f l - far) k
equation-price f k size below above up down m is sized lower upper first second most =
    (λ j. 1 + most j) ∙ (λ j. 1 + max (first j) (second j))
    ∙ (λ j. 1 + max (price_of_side true (λ l. f l - far) (lower j) (upper j / sized j) k.products)
    (price_of_side false (λ l. f l - far) (upper j) (lower j / sized j) k.products))
    ∙ (λ j. cond (sym is j)
    (1 + max (price_of_side true (λ l. f l - far) (need k) (room k / common_size k.products) k.products)
    (price_of_side false (λ l. f l - far) (room k) (need k / common_size k.products) k.products)) far)

-- ---- bounds

-- what the room of a constraint is where its bound is not above the greatest sum
room-some : (k : Constraint) (above : ℕ)
    → Some above ≡ cond (int_lt (pos (positive_total k.products)) k.bound) None
    (Some (positive_part (pos (positive_total k.products) -ℤ k.bound)))
    → (int_lt (pos (positive_total k.products)) k.bound ≡ false) × (above ≡ room k)
room-some k above is = grind (arith, nat_tests)

pub bound-price : (f : Literal → ℕ) (k : Constraint) (below above alone step m : ℕ) → below ≡ need k
    → eqb below 0 ≡ false
    → Some above ≡ cond (int_lt (pos (positive_total k.products)) k.bound) None
    (Some (positive_part (pos (positive_total k.products) -ℤ k.bound)))
    → alone ≡ fold min far (wanted_prices true f (filter (λ t. is_single t && nat_le below (size t)) k.products))
    → step ≡ price_of_step f above k.products → m ≡ min alone step → 1 + m ≡ bound_penalty f k
bound-price f k below above alone step m is some found priced stepped lesser =
    let there = room-some k above found in
    let needed : eqb (need k) 0 ≡ false = subst (λ n. eqb n 0 ≡ false) is some in
    let alone_is : alone ≡ price_alone f k =
    priced ∙ ap (λ n. fold min far (wanted_prices true f (filter (λ t. is_single t && nat_le n (size t)) k.products))) is in
    let step_is : step ≡ price_of_step f (room k) k.products =
    stepped ∙ ap (λ n. price_of_step f n k.products) there.1 in
    let both : m ≡ min (price_alone f k) (price_of_step f (room k) k.products) =
    lesser ∙ (λ i. min (alone_is i) (step_is i)) in
    (λ i. 1 + both i)
    ∙ (λ i. cond (sym needed i) 1 (cond (sym there.0 i) far
    (1 + min (price_alone f k) (price_of_step f (room k) k.products))))
