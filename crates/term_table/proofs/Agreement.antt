-- Terms cost the same under two states that agree on the variables of their sets.
use Rattle.term_table.proofs.Common.{◌≡◌, ℕ, ◌<◌, Bool, false, cond, sym, ap, refl, List, [], ◌∷◌, ◌++◌, length, take, get_or, get_or-take, get_or_append_left, ◌+ℤ◌, All, All-head, All-tail, if_so, Literal, all_hold, Term, terms_cost, IsTermSet}
use Rattle.std.specs.Prelude.{not, ◌&&◌}
use Rattle.literal_lists.specs.Literals.{holds}
use Rattle.term_table.proofs.KeptTerms.{OfSet}

-- the first n bits of the two states are the same
abbrev pub Agrees : ℕ → List Bool → List Bool → Type 0
Agrees n x y = (i : ℕ) → i < n → get_or x i false ≡ get_or y i false

-- the first bits of a state agree with it
pub first_agrees : (n : ℕ) (y : List Bool) → Agrees n (take n y) y
first_agrees n y i below = get_or-take n y i false below

-- and so does a state with what comes after its bits
pub longer_agrees : (x bits : List Bool) → Agrees (length x) x (x ++ bits)
longer_agrees x bits i below = sym (get_or_append_left x bits false i below)

-- a literal of the first n variables is true under both states, or under none
pub holds-agrees : (n : ℕ) (x y : List Bool) (l : Literal) → Agrees n x y → l.variable < n
    → holds x l ≡ holds y l
holds-agrees n x y l same below = ap (λ v. cond l.negated (not v) v) (same l.variable below)

-- and so is a product of them
pub all_hold-agrees : (n : ℕ) (x y : List Bool) (ls : List Literal) → Agrees n x y
    → All (λ l. l.variable < n) ls → all_hold x ls ≡ all_hold y ls
all_hold-agrees n x y [] same below = refl
all_hold-agrees n x y (l ∷ ls) same below =
    let P : Literal → Type 0 = λ k. k.variable < n in
    λ i. holds-agrees n x y l same (All-head P l ls below) i
    && all_hold-agrees n x y ls same (All-tail P l ls below) i

-- so terms over the first n variables cost the same
pub terms_cost-agrees : (n : ℕ) (x y : List Bool) (ts : List Term) → Agrees n x y
    → All (OfSet (IsTermSet n)) ts → terms_cost x ts ≡ terms_cost y ts
terms_cost-agrees n x y [] same sets = refl
terms_cost-agrees n x y (t ∷ ts) same sets =
    let set = All-head (OfSet (IsTermSet n)) t ts sets in
    let rest = All-tail (OfSet (IsTermSet n)) t ts sets in
    λ i. if_so (all_hold-agrees n x y t.0 same set.set.within i) t.1
    +ℤ terms_cost-agrees n x y ts same rest i
