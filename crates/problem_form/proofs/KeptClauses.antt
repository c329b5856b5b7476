-- Clauses in normal form: what is kept of one, and what it adds to the sizes of a problem.
use Rattle.problem_form.proofs.Common.{nat_tests, ◌≡◌, ◌≢◌, ℕ, ◌+◌, ◌<◌, ◌≤◌, ◌^◌, Bool, true, false, cond, ◌||◌, eqb, arith, refl, sym, ap, subst, ◌∙◌, List, [], ◌∷◌, length, Option, Some, None, Result, Ok, Err, OnOk, OnErr, unsigned_abs, unwrap_or, All, sum_by, or_parts, or_left, or_right, or_from, eqb-false, All-append, All-cons, All-nil, sum_by-append, eqb-suc-zero, size-plus, Literal, Clause, has_clash, with_literal, literal_set, IsLiteralSet, IsSound, ProblemContent, IsNormal, IsNormalClause, soft_weight, problem_total, is_empty, is_plain_cost, kept_clause, clause_constant, with_clause, literal_set-ascends, has_clash-literal_set, All-literal_set, ◌++◌, append-nil}

-- ---- a list and its set

with_literal-filled : (l : Literal) (ks : List Literal) → is_empty (with_literal l ks) ≡ false
with_literal-filled l [] = refl
with_literal-filled l (k ∷ ks) = grind (arith, nat_tests)

pub is_empty-length : (ls : List Literal) → eqb (length ls) 0 ≡ is_empty ls
is_empty-length [] = refl
is_empty-length (l ∷ ls) = eqb-suc-zero (length ls)

pub is_empty-literal_set : (ls : List Literal) → is_empty (literal_set ls) ≡ is_empty ls
is_empty-literal_set [] = refl
is_empty-literal_set (l ∷ ls) = with_literal-filled l (literal_set ls)

is_plain_cost-literal_set : (w : Option ℕ) (ls : List Literal)
    → is_plain_cost w (literal_set ls) ≡ is_plain_cost w ls
is_plain_cost-literal_set None ls = refl
is_plain_cost-literal_set (Some w) ls = ap (λ e. eqb w 0 || e) (is_empty-literal_set ls)

-- whether a clause is dropped, or goes into the constant
abbrev pub is_dropped : Option ℕ → List Literal → Bool
is_dropped w ls = has_clash ls || is_plain_cost w ls

is_dropped-literal_set : (w : Option ℕ) (ls : List Literal)
    → is_dropped w (literal_set ls) ≡ is_dropped w ls
is_dropped-literal_set w ls = λ i. has_clash-literal_set ls i || is_plain_cost-literal_set w ls i

-- ---- what is kept of a clause, by the set of its literals

kept_at : (c : Clause) (s : List Literal) (b : Bool) → s ≡ literal_set c.literals
    → is_dropped c.weight s ≡ b
    → kept_clause c ≡ cond b [] (record { literals = s; weight = c.weight } ∷ [])
kept_at c s b same e = grind (arith, nat_tests, is_dropped-literal_set)

pub kept_clause-clash : (c : Clause) (s : List Literal) → s ≡ literal_set c.literals
    → has_clash s ≡ true → [] ≡ kept_clause c
kept_clause-clash c s same e =
    sym (kept_at c s true same (or_left (has_clash s) (is_plain_cost c.weight s) e))

pub kept_clause-number : (c : Clause) (s : List Literal) → s ≡ literal_set c.literals
    → is_plain_cost c.weight s ≡ true → [] ≡ kept_clause c
kept_clause-number c s same e =
    sym (kept_at c s true same (or_right (has_clash s) (is_plain_cost c.weight s) e))

pub kept_clause-kept : (c : Clause) (s : List Literal) → s ≡ literal_set c.literals
    → has_clash s ≡ false → is_plain_cost c.weight s ≡ false
    → record { literals = s; weight = c.weight } ∷ [] ≡ kept_clause c
kept_clause-kept c s same e f =
    sym (kept_at c s false same (or_from (has_clash s) (is_plain_cost c.weight s) e f))

-- a part that is kept unless a test says so
pub kept_unless : {X : Type 0} (P : X → Type 0) (dropped : Bool) (x : X) → (dropped ≡ false → P x)
    → All P (cond dropped [] (x ∷ []))
kept_unless P true x here = All-nil P
kept_unless P false x here = All-cons P x [] (here refl) (All-nil P)

pub kept_set : (n : ℕ) (ls : List Literal) → has_clash ls ≡ false → All (λ l. l.variable < n) ls
    → IsLiteralSet n (literal_set ls)
kept_set n ls apart within = record {
  ordered = literal_set-ascends ls;
  apart = has_clash-literal_set ls ∙ apart;
  within = All-literal_set (λ l. l.variable < n) ls within;
}

-- what is kept of a clause is in normal form
pub kept_clause-normal : (n : ℕ) (c : Clause) → All (λ l. l.variable < n) c.literals
    → All (IsNormalClause n) (kept_clause c)
kept_clause-normal n c within =
    kept_unless (IsNormalClause n) (is_dropped c.weight c.literals) kept (λ e.
    let parts = or_parts (has_clash c.literals) (is_plain_cost c.weight c.literals) e in
    record { set = kept_set n c.literals parts.0 within; weighty = weighty parts.1 })
  where
    kept : Clause
    kept = record { literals = literal_set c.literals; weight = c.weight }

    weighty : is_plain_cost c.weight c.literals ≡ false → (w : ℕ) → c.weight ≡ Some w
        → (0 < w) × (literal_set c.literals ≢ [])
    weighty e w some =
        let parts = or_parts (eqb w 0) (is_empty c.literals) (ap (λ o. is_plain_cost o c.literals) (sym some) ∙ e) in
        let filled = is_empty-literal_set c.literals ∙ parts.1 in
        (omega (arith, eqb-false w 0 parts.0), λ none. let empty = ap is_empty none in absurd cc)

pub with_clause-normal : (p : ProblemContent) (c : Clause) → IsNormal p
    → All (λ l. l.variable < p.variables) c.literals → IsNormal (with_clause p c)
with_clause-normal p c normal within = record {
  objective = normal.objective;
  clauses = All-append (IsNormalClause p.variables) p.clauses (kept_clause c) normal.clauses
      (kept_clause-normal p.variables c within);
  constraints = normal.constraints;
  most = normal.most;
}

-- ---- sizes

weight_within : (w : Option ℕ) (ls s : List Literal) (b : Bool) → is_dropped w ls ≡ b
    → unsigned_abs (clause_constant (record { literals = ls; weight = w }))
    + sum_by soft_weight (cond b [] (record { literals = s; weight = w } ∷ [])) ≤ unwrap_or w 0
weight_within w ls s b e = grind (arith, nat_tests)

-- what a clause adds to the constant and to the clauses is at most its weight
pub kept_clause-size : (c : Clause)
    → unsigned_abs (clause_constant c) + sum_by soft_weight (kept_clause c) ≤ soft_weight c
kept_clause-size c =
    weight_within c.weight c.literals (literal_set c.literals) (is_dropped c.weight c.literals) refl

pub with_clause-total : (p : ProblemContent) (c : Clause)
    → problem_total (with_clause p c) ≤ problem_total p + soft_weight c
with_clause-total p c = omega (arith, size-plus, kept_clause-size, sum_by-append)

-- ---- a problem with one more clause

pub with_clause-sound : (p : ProblemContent) (c : Clause) → IsSound p
    → All (λ l. l.variable < p.variables) c.literals
    → problem_total p + soft_weight c < 2 ^ 100 → IsSound (with_clause p c)
with_clause-sound p c sound within small =
    (with_clause-normal p c sound.0 within, omega (arith, with_clause-total p c))

-- what follows of a sound problem that is seen holds of what its fields say
pub at_view : (P : ProblemContent → Type 0) (fields seen : ProblemContent) → fields ≡ seen
    → (IsSound seen → P seen) → IsSound fields → P fields
at_view P fields seen same here sound =
    let Sound : ProblemContent → Type 0 = IsSound in
    subst P (sym same) (here (subst Sound same sound))

-- nothing is kept
pub as_before : {A : Type 0} (xs ys : List A) → [] ≡ ys → xs ≡ xs ++ ys
as_before xs ys none = sym (append-nil xs) ∙ ap (λ zs. xs ++ zs) none

-- a value that a call sets where it succeeds, and leaves where it fails
pub by_result : {T E A : Type 0} (r : Result T E) (P : A → Type 0) (new set left : A)
    → OnOk r (new ≡ set) → OnErr r (new ≡ left) → P set → P left → P new
by_result (Ok x) P new set left e f p q = subst P (sym e) p
by_result (Err x) P new set left e f p q = subst P (sym f) q
