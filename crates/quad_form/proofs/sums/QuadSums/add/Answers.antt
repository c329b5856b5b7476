use Rattle.quad_form.proofs.Common.{elements, nat_tests, rules, ◌≡◌, ◌+◌, ◌*◌, ◌≤◌, ◌^◌, ◌∙◌, take, drop, ap, sym, subst, length, ℤ, ◌+ℤ◌, unsigned_abs, to_z, of_z, ◌++◌, List, arith, w128, ints, to_z-of_z, take-append_seam, IsTermSet, with_appended, short_shares, SumsContent, AreSummed, Gain, IsSums}
use Rattle.literal_lists.proofs.LentParts.{on_err}
use Rattle.quad_form.proofs.HeldSums.{Added, few-more, fits-more, held-more}
use Rattle.quad_form.proofs.ShortTerms.{short_constant-size}
use Rattle.quad_form.proofs.sums.QuadSums.add.Goals.{After-unsigned_abs}
use Rattle.quad_form.proofs.sums.QuadSums.add.Goals as goal

pub push_short-requires-clause-narrow : goal.push_short-requires-clause-narrow
push_short-requires-clause-narrow c =
    let wide = ap (λ (k : SumsContent). length k.weights) c.self.view_is in
    λ k d inside. omega (arith, c.requires.set.set.within k d inside, c.self.invariant.narrow, wide)

pub push_short-requires-clause-small : goal.push_short-requires-clause-small
push_short-requires-clause-small c =
    omega (arith, c.requires.small, ap unsigned_abs (to_z-of_z w128 c.args.coefficient (search rules)))

pub invariant_of-self : goal.invariant_of-self
invariant_of-self c =
    subst (λ ps. IsSums (record { total = c.self.inside.total; constant = c.self.inside.constant; weights = c.self.inside.weights.items; pairs = ps }))
    (sym c.in_err-push_short.ensures.unchanged) c.self.invariant

pub returns-in_err-push_short-clause-unchanged : goal.returns-in_err-push_short-clause-unchanged
returns-in_err-push_short-clause-unchanged c = grind (arith, nat_tests, ints, on_err)

pub add_short_shares-requires-clause-within : goal.add_short_shares-requires-clause-within
add_short_shares-requires-clause-within c =
    let wide = ap (λ (k : SumsContent). length k.weights) c.self.view_is in
    λ k d inside. omega (arith, c.requires.set.set.within k d inside, ap length c.deref_mut.ensures.value, wide)

pub add_short_shares-requires-clause-small : goal.add_short_shares-requires-clause-small
add_short_shares-requires-clause-small c = grind (arith, nat_tests, ints, to_z-of_z)

pub overflow_add-self : goal.overflow_add-self
overflow_add-self c =
    grind (arith, nat_tests, ints, to_z-of_z w128 c.args.coefficient (search rules))

-- ---- what was added

module _ (c : After-unsigned_abs) where
  abbrev z : ℤ
  z = to_z w128 (of_z w128 c.args.coefficient)

  is : z ≡ c.args.coefficient
  is = to_z-of_z w128 c.args.coefficient (search rules)

  abbrev before : SumsContent
  before = record { total = c.self.inside.total; constant = c.self.inside.constant; weights = c.self.inside.weights.items; pairs = c.self.inside.pairs }

  abbrev after : List ℤ → SumsContent
  after ws = record {
    total = c.self.inside.total + c.unsigned_abs.result;
    constant = to_z w128 (of_z w128 (to_z w128 (of_z w128 c.self.inside.constant) +ℤ to_z w128 (of_z w128 c.constant_of.result)));
    weights = ws;
    pairs = c.push_short.new.pairs;
  }

  low : before.total + unsigned_abs z ≤ 2 ^ 122
  low = omega (arith, c.requires.small, ap unsigned_abs is, ap (λ (k : SumsContent). k.total) c.self.view_is)

  gain : Gain (short_shares (c.args.literals.now, z)) (2 * unsigned_abs z) before.weights c.add_short_shares.new.weights
  gain =
      subst (λ (xs : List ℤ). Gain (short_shares (c.args.literals.now, z)) (2 * unsigned_abs z) xs c.add_short_shares.new.weights)
      c.deref_mut.ensures.value c.add_short_shares.ensures

  added : Added before (after c.add_short_shares.new.weights) c.args.literals.now z
  added = record {
    total = ap (λ n. c.self.inside.total + n) c.unsigned_abs.ensures.value;
    constant = omega (arith, ints, c.constant_of.ensures, short_constant-size (c.args.literals.now, z), c.self.invariant.constant, low);
    gain = gain;
    pairs = c.in_ok-push_short.ensures.pushed;
  }

  set : IsTermSet (length before.weights) c.args.literals.now
  set = subst (λ (k : SumsContent). IsTermSet (length k.weights) c.args.literals.now) (sym c.self.view_is) c.requires.set

  -- the weights, as the code has them
  whole : take c.self.inside.weights.len (c.add_short_shares.new.weights ++ drop (length c.add_short_shares.new.weights) c.self.inside.weights.items)
      ≡ c.add_short_shares.new.weights
  whole =
      let ys = c.add_short_shares.new.weights in
      let all : c.self.inside.weights.len ≡ length ys =
      omega (arith, gain.width, c.deref_mut.ensures.len, ap length c.deref_mut.ensures.value) in
      ap (λ n. take n (ys ++ drop (length ys) c.self.inside.weights.items)) all
      ∙ take-append_seam ys (drop (length ys) c.self.inside.weights.items)

pub returns-clause-width : goal.returns-clause-width
returns-clause-width c =
    let d = (goal.at.returns-clause-width c).After-unsigned_abs in
    ap length (whole d) ∙ (gain d).width ∙ ap (λ (k : SumsContent). length k.weights) c.self.view_is

pub returns-clause-total : goal.returns-clause-total
returns-clause-total c = grind (arith, nat_tests, ints, goal.at.returns-clause-total c)

pub returns-clause-pairs : goal.returns-clause-pairs
returns-clause-pairs c = grind (arith, nat_tests, ints, elements, few-more)

pub invariant_of-self-2 : goal.invariant_of-self-2
invariant_of-self-2 c =
    let d = (goal.at.invariant_of-self-2 c).After-unsigned_abs in
    rw (whole d)
    (fits-more (before d) (after d c.add_short_shares.new.weights) c.args.literals.now (z d) (set d) (added d)
    c.self.invariant (low d))

pub returns-clause-added : goal.returns-clause-added
returns-clause-added c t held =
    let d = (goal.at.returns-clause-added c).After-unsigned_abs in
    subst (λ xs. AreSummed (with_appended t c.args.literals.now c.args.coefficient) (after d xs)) (sym (whole d))
    (held-more (before d) (after d c.add_short_shares.new.weights) c.args.literals.now (z d) (set d) (added d) t
    c.args.coefficient (is d) c.requires.short (subst (AreSummed t) (sym c.self.view_is) held))
