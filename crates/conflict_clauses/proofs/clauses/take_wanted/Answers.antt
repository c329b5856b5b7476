use Rattle.conflict_clauses.proofs.Common.{◌≡◌, Bool, true, false, cond, not, List, [], ◌∷◌, ◌++◌, map, ap, arith, filter, list_all, nat_tests, ints, append_assoc, map-append, Literal, Product, is_needed, is_single, wanted, alone}
use Rattle.conflict_clauses.proofs.clauses.take_wanted.Goals as goal

-- what a test keeps of the products that are left, by what it says of the first
kept : (test : Product → Bool) (b : Bool) (t : Product) (left rest : List Product) → left ≡ t ∷ rest
    → test t ≡ b → filter test left ≡ cond b (t ∷ filter test rest) (filter test rest)
kept test b t left rest e says = grind (arith, nat_tests)

-- a product that passes puts its literal behind those so far
passes : (test : Product → Bool) (ls new : List Literal) (w : Literal) (t : Product)
    (left rest : List Product) (whole : List (List Literal)) → left ≡ t ∷ rest → test t ≡ true
    → w ∷ [] ≡ wanted true t → new ≡ ls ++ w ∷ [] → map alone ls ++ map (wanted true) (filter test left) ≡ whole
    → map alone new ++ map (wanted true) (filter test rest) ≡ whole
passes test ls new w t left rest whole e says own pushed so_far =
    let test_says = kept test true t left rest e says in
    grind (arith, nat_tests, map-append, append_assoc)

-- one that does not pass adds none
fails : (test : Product → Bool) (ls : List Literal) (t : Product) (left rest : List Product)
    (whole : List (List Literal)) → left ≡ t ∷ rest → test t ≡ false
    → map alone ls ++ map (wanted true) (filter test left) ≡ whole
    → map alone ls ++ map (wanted true) (filter test rest) ≡ whole
fails test ls t left rest whole e says so_far = grind (arith, nat_tests)

-- the products that are left have one literal each
all_single : (t : Product) (left rest : List Product) → left ≡ t ∷ rest → list_all is_single left ≡ true
    → list_all is_single rest ≡ true
all_single t left rest e single = grind (arith, nat_tests)

pub loop-product-preserved-in-Continue-1 : goal.loop-product-preserved-in-Continue-1
loop-product-preserved-in-Continue-1 c =
    let t = c.in-Some.product in
    let before = c.loop-product.invariant in
    let is : is_needed c.args.room t ≡ true =
    grind (arith, ints, nat_tests, c.unsigned_abs.ensures.value, c.if-is_needed.true) in
    record {
      needed =
          passes (is_needed c.args.room) _ _ _ t _ _ _ c.in-Some.ensures.steps is
          c.wanted_for-literal.ensures c.in_ok-push.ensures.items before.needed;
      others =
          fails (λ u. not (is_needed c.args.room u)) _ t _ _ _ c.in-Some.ensures.steps (ap not is)
          before.others;
      single = all_single t _ _ c.in-Some.ensures.steps before.single;
    }

pub loop-product-preserved : goal.loop-product-preserved
loop-product-preserved c =
    let t = c.in-Some.product in
    let before = c.loop-product.invariant in
    let is : is_needed c.args.room t ≡ false =
    grind (arith, ints, nat_tests, c.unsigned_abs.ensures.value, c.if-is_needed.false) in
    record {
      needed = fails (is_needed c.args.room) _ t _ _ _ c.in-Some.ensures.steps is before.needed;
      others =
          passes (λ u. not (is_needed c.args.room u)) _ _ _ t _ _ _ c.in-Some.ensures.steps (ap not is)
          c.wanted_for-literal.ensures c.in_ok-push-2.ensures.items before.others;
      single = all_single t _ _ c.in-Some.ensures.steps before.single;
    }
