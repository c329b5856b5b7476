-- An order that was read names each node once.
use Rattle.elimination_order.proofs.Common.{nat_tests, ◌≡◌, ℕ, ◌<◌, Bool, true, false, ◌||◌, eqb, refl, ap, subst, ◌∙◌, arith, List, [], ◌∷◌, ◌++◌, length, reverse, append_assoc, append-nil, Ok, Err, is_ok, ◌==◌, if◌then◌else◌, Result, AllByRecursion, IsDistinct, list_any, nat_eq_equiv, eqb-true, false≢true, All-from_recursion, IsDistinct-push, IsDistinct-from_apart, IsDistinct-IsPermutation, length-reverse, IsPermutation-reverse, All-permutation, is_in, TextFault, Word, ◌>>=◌, end_line, fault, AreNodes, new_node, nodes_at, order_of, all_append}
use Rattle.whole_text.specs.declared.faults.TextKind.TheVariants as kinds

test_passed : {A : Type 0} (b : Bool) (x y : A) (f : TextFault) → (if b then Ok x else Err f) ≡ Ok y
    → (b ≡ true) × (x ≡ y)
test_passed b x y f is = grind (arith, nat_tests)

-- a node that was read is one of them, and new
new_facts : (n : ℕ) (named : List ℕ) (w : Word) (m : ℕ) → new_node n named w ≡ Ok m
    → (m < n) × (is_in named m ≡ false)
new_facts n named w m read = grind (arith, nat_tests)

pub eqb_flips : (m x : ℕ) → eqb m x ≡ eqb x m
eqb_flips m x = grind (arith, nat_tests)

pub in_flips : (xs : List ℕ) (m : ℕ) → list_any (eqb m) xs ≡ is_in xs m
in_flips [] m = refl
in_flips (x ∷ xs) m = λ i. eqb_flips m x i || in_flips xs m i

-- nodes, each of them once
abbrev Once : ℕ → List ℕ → Type 0
Once n us = IsDistinct eqb us × AllByRecursion (λ v. v < n) us

-- what two steps end well with
both_ok : {A B : Type 0} (r : Result A TextFault) (f : A → Result B TextFault) (y : B)
    → (r >>= f) ≡ Ok y → (x : A) × (r ≡ Ok x) × (f x ≡ Ok y)
both_ok (Ok x) f y is = (x, refl, is)
both_ok (Err e) f y is = absurd (false≢true (ap is_ok is))

nodes_once : (n : ℕ) (named : List ℕ) (ws : List Word) (vs : List ℕ) → nodes_at n named ws ≡ Ok vs
    → Once n named → Once n (named ++ vs)
unfolding nodes_at
nodes_once n named [] vs read once = grind (arith, nat_tests, append-nil)
nodes_once n named (w ∷ ws) vs read once =
    let a = both_ok (new_node n named w) _ vs read in
    let m = a.0 in
    let b = both_ok (nodes_at n (named ++ m ∷ []) ws) _ vs a.2 in
    let f = new_facts n named w m a.1 in
    let more = nodes_once n (named ++ m ∷ []) ws b.0 b.1 (
      IsDistinct-push nat_eq_equiv named m once.0 (in_flips named m ∙ f.1),
      all_append (λ v. v < n) named (m ∷ []) once.1 (f.0, tt),
    ) in
    let all : m ∷ b.0 ≡ vs = cc b.2 in
    subst (λ us. Once n (named ++ us)) all (rw append_assoc at more)

pub nodes-reversed : (n : ℕ) (order : List ℕ) → AreNodes n order → AreNodes n (reverse order)
nodes-reversed n order are =
    let moved = IsPermutation-reverse order in record {
      count = length-reverse order ∙ are.count;
      below = All-permutation (λ v. v < n) order (reverse order) moved are.below;
      apart = IsDistinct-IsPermutation eqb eqb_flips order (reverse order) moved are.apart;
    }

pub order-once : (n : ℕ) (ws : List Word) (order : List ℕ) → order_of n ws ≡ Ok order
    → AreNodes n order
order-once n ws order read =
    let a = both_ok (nodes_at n [] ws) _ order read in
    let us = a.0 in
    let none : IsDistinct eqb [] =
    IsDistinct-from_apart eqb [] (λ i j d a b. absurd (omega (arith, a, b))) in
    let once = nodes_once n [] ws us a.1 (none, tt) in
    let t = test_passed (length us == n) us order (fault kinds.End (end_line ws)) a.2 in
    subst (AreNodes n) t.1 (record {
      count = eqb-true (length us) n t.0;
      below = All-from_recursion _ _ once.1;
      apart = once.0;
    })
