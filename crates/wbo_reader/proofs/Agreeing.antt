-- Lists that begin alike give the same sums, and the same constraints fail under them.
use Rattle.wbo_reader.proofs.Common.{◌≡◌, ℕ, ◌<◌, Bool, false, cond, not, ◌&&◌, ◌||◌, List, [], ◌∷◌, take, All, ◌+ℤ◌, int_lt, refl, sym, ap, if◌then◌else◌, int_eq, list_any, AllByRecursion, get_or-take, recursion_from_All, if_so, Literal, Product, Constraint, holds, all_hold, sum_of, fails, IsNormalProduct, IsNormalConstraint}

module _ (v : ℕ) (x : List Bool) where
  holds-first : (l : Literal) → l.variable < v → holds x l ≡ holds (take v x) l
  holds-first l lt = ap (λ b. cond l.negated (not b) b) (sym (get_or-take v x l.variable false lt))

  all_hold-first : (ls : List Literal) → AllByRecursion (λ (l : Literal). l.variable < v) ls
      → all_hold x ls ≡ all_hold (take v x) ls
  all_hold-first [] h = refl
  all_hold-first (l ∷ ls) h = λ i. holds-first l h.0 i && all_hold-first ls h.1 i

  sums_agree : (ts : List Product) → AllByRecursion (IsNormalProduct v) ts
      → sum_of x ts ≡ sum_of (take v x) ts
  sums_agree [] h = refl
  sums_agree (t ∷ ts) h =
      λ i. if_so (all_hold-first t.literals
      (recursion_from_All (λ (l : Literal). l.variable < v) t.literals h.0.set.within) i)
      t.coefficient +ℤ sums_agree ts h.1 i

  -- the sum of normal products is that under the first bits
  pub sum_of-first : (ts : List Product) → All (IsNormalProduct v) ts
      → sum_of x ts ≡ sum_of (take v x) ts
  sum_of-first ts h = sums_agree ts (recursion_from_All (IsNormalProduct v) ts h)

  pub fails-first : (k : Constraint) → IsNormalConstraint v k → fails x k ≡ fails (take v x) k
  fails-first k h =
      λ i. if k.exact then not (int_eq (sum_of-first k.products h i) k.bound)
      else int_lt (sum_of-first k.products h i) k.bound

  pub all_fail-first : (ks : List Constraint) → AllByRecursion (IsNormalConstraint v) ks
      → list_any (fails x) ks ≡ list_any (fails (take v x)) ks
  all_fail-first [] h = refl
  all_fail-first (k ∷ ks) h = λ i. fails-first k h.0 i || all_fail-first ks h.1 i
