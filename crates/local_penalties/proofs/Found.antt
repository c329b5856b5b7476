-- A literal that repairs a broken clause, with what it gains over all clauses.
use Rattle.local_penalties.proofs.Common.{◌≡◌, ℕ, ◌+◌, ◌<◌, ◌≤◌, refl, arith, nat_tests, ints, List, [], ◌∷◌, length, Bool, true, false, ◌&&◌, ◌||◌, eqb, list_any, sum_by, sum_by-cons, pos, ◌+ℤ◌, ◌≤ℤ◌, All, All-head, All-tail, Literal, Clause, same, soft_rise, clause_charges, far, own, rest, false≢true, IsNormalClause}
use Rattle.problem_form.proofs.Common.{holds, some_holds, is_violated, fails_hard, is_none}
use Rattle.problem_form.specs.PartPenalties.{made_true, clause_prices, some_whole}
use Rattle.local_penalties.proofs.Flips.{holds-made}
use Rattle.local_penalties.proofs.Mending.{clauses-rise, clause-adds, own-le, same-holds}
use Rattle.local_penalties.proofs.Reasons.{Mended, ClausesMended}

some-made : (x : List Bool) (l : Literal) (ls : List Literal) → l.variable < length x
    → list_any (same l) ls ≡ true → some_holds (made_true x l) ls ≡ true
some-made x l [] within listed = absurd (false≢true listed)
some-made x l (m ∷ ls) within listed =
    let here = holds-made x l m within in
    let others = some-made x l ls within in
    grind (arith, nat_tests)

listed-untrue : (x : List Bool) (l : Literal) (ls : List Literal) → list_any (same l) ls ≡ true
    → some_holds x ls ≡ false → holds x l ≡ false
listed-untrue x l [] listed none = absurd (false≢true listed)
listed-untrue x l (m ∷ ls) listed none =
    let others = listed-untrue x l ls in
    let alike = same-holds x l m in
    grind (arith, nat_tests)

listed-within : (v : ℕ) (l : Literal) (ls : List Literal) → All (λ m. m.variable < v) ls
    → list_any (same l) ls ≡ true → l.variable < v
listed-within v l [] all listed = absurd (false≢true listed)
listed-within v l (m ∷ ls) all listed =
    let here = All-head (λ (k : Literal). k.variable < v) m ls all in
    let others = listed-within v l ls (All-tail (λ (k : Literal). k.variable < v) m ls all) in
    grind (arith, nat_tests)

-- a literal that is false, with a price below a number, that takes what clauses add down by that number
-- but for what soft clauses rise and hurt ones are charged
pub record FoundClause (x : List Bool) (f : Literal → ℕ) (n : ℕ) (ns : List ℕ) (cs : List Clause) : Type 0 where
  pub literal : Literal
  pub number : ℕ
  pub within : literal.variable < length x
  pub untrue : holds x literal ≡ false
  pub below : f literal + 1 ≤ number
  pub least : number ≤ n
  pub gain : (clause_prices (made_true x literal) n ns cs +ℤ pos number)
      ≤ℤ (clause_prices x n ns cs +ℤ pos (sum_by (soft_rise literal) cs + clause_charges n ns cs literal))

pub repaired-clause : (x : List Bool) (f : Literal → ℕ) (n : ℕ) (ns : List ℕ) (c : Clause) (cs : List Clause)
    → n ≤ far → IsNormalClause (length x) c → fails_hard x c ≡ true → Mended f c (own n ns)
    → FoundClause x f n ns (c ∷ cs)
repaired-clause x f n ns c cs small normal broken mended =
    let l = mended.literal in
    let violated : is_violated x c ≡ true = grind (arith, nat_tests) in
    let off : some_holds x c.literals ≡ false = grind (arith, nat_tests) in
    let hard : is_none c.weight ≡ true = grind (arith, nat_tests) in
    let within = listed-within (length x) l c.literals normal.set.within mended.listed in
    let on = some-made x l c.literals within mended.listed in
    let others = clauses-rise x l n (rest ns) cs within small in
    let sum = sum_by-cons (soft_rise l) c cs in
    record {
      literal = l;
      number = own n ns;
      within = within;
      untrue = listed-untrue x l c.literals mended.listed off;
      below = mended.below;
      least = own-le n ns;
      gain = grind (arith, nat_tests, ints);
    }

pub own-less : (broken entire others : Bool) (n m : ℕ) → entire ≡ eqb m n → broken ≡ true → ((broken && entire) || others) ≡ false
    → m ≤ n → m < n
own-less broken entire others n m e is none le = grind (arith, nat_tests)

-- some clause is broken, but none that has the penalty of the whole: a literal repairs one
pub find-clause : (x : List Bool) (f : Literal → ℕ) (n : ℕ) (ns : List ℕ) (cs : List Clause) → n ≤ far
    → All (IsNormalClause (length x)) cs → list_any (fails_hard x) cs ≡ true
    → some_whole (fails_hard x) n ns cs ≡ false → ClausesMended f n ns cs → FoundClause x f n ns cs
find-clause x f n ns [] small normal broken none mended = absurd (false≢true broken)
find-clause x f n ns (c ∷ cs) small normal broken none mended =
    decide (λ later. find-clause x f n (rest ns) cs small (All-tail (IsNormalClause (length x)) c cs normal) later) (fails_hard x c) refl
  where
    decide : (list_any (fails_hard x) cs ≡ true → some_whole (fails_hard x) n (rest ns) cs ≡ false
        → ClausesMended f n (rest ns) cs → FoundClause x f n (rest ns) cs)
        → (b : Bool) → fails_hard x c ≡ b → FoundClause x f n ns (c ∷ cs)
    decide again true e =
        let hard : is_none c.weight ≡ true = grind (arith, nat_tests) in
        let less = own-less (fails_hard x c) (eqb (own n ns) n) _ n (own n ns) refl e none (own-le n ns) in
        repaired-clause x f n ns c cs small (All-head (IsNormalClause (length x)) c cs normal) e (mended.0 hard less)
    decide again false e =
        let later : list_any (fails_hard x) cs ≡ true = grind (arith, nat_tests) in
        let others : some_whole (fails_hard x) n (rest ns) cs ≡ false = grind (arith, nat_tests) in
        let found = again later others mended.1 in
        let here = clause-adds x found.literal n (own n ns) c found.within (own-le n ns) small in
        let sum = sum_by-cons (soft_rise found.literal) c cs in
        record {
          literal = found.literal;
          number = found.number;
          within = found.within;
          untrue = found.untrue;
          below = found.below;
          least = found.least;
          gain = omega (arith, ints, here, found.gain, sum);
        }
