-- What is read of a constraint with its weight leaves no more words than there were.
use Rattle.wbo_reader.proofs.Common.{nat_tests, ℕ, ◌≤◌, Bool, true, false, List, length, Option, Some, None, Result, Ok, IfOk, codes, arith, bytes_eq, if◌then◌else◌, TextFault, Word, ◌>>=◌, next_of, Listed, constraint_at, Leaves, Shrinks, many_enough, many_all, constraint_shrinks, Weighed, greatest_index, weight_at, front_at, weighed_at, constraints_at, WordsAreEnough}

-- a fact on what a first step gives, and one on what the next gives with it
pub bind_if : {A B : Type 0} (P : A → Type 0) (Q : B → Type 0) (first : Result A TextFault)
    (next : A → Result B TextFault) → IfOk first P → ((x : A) → P x → IfOk (next x) Q)
    → IfOk (first >>= next) Q
bind_if P Q first next h k = grind (arith, nat_tests)

-- nothing is said of what a step gives
abbrev pub Any : {A : Type 0} → A → Type 0
Any x = Unit {0}

pub any : {A : Type 0} (r : Result A TextFault) → IfOk r Any
any r = grind (arith, nat_tests)

pub next_leaves : (end : ℕ) (ws : List Word) → IfOk (next_of end ws) (Leaves (length ws))
next_leaves end ws = grind (arith, nat_tests)

-- ---- a weight

abbrev with_weight : ℕ → List Word → Result (ℕ × List Word) TextFault
with_weight weight rest = Ok (weight, rest)

weight_leaves : (end : ℕ) (ws : List Word) → IfOk (weight_at end ws) (Leaves (length ws))
unfolding weight_at
weight_leaves end ws = grind (arith, nat_tests)

-- ---- what stands before a sum

-- no more words are left than this after the first word of a sum
abbrev LeavesFront : ℕ → Option ℕ × Word × List Word → Type 0
LeavesFront most x = length x.2 ≤ most

abbrev first_part : ℕ → Word × List Word → Result (Option ℕ × Word × List Word) TextFault
first_part weight first = Ok (Some weight, first.0, first.1)

abbrev soft_part : ℕ → ℕ × List Word → Result (Option ℕ × Word × List Word) TextFault
soft_part end x = next_of end x.1 >>= first_part x.0

front_leaves : (end : ℕ) (w : Word) (ws : List Word)
    → IfOk (front_at end w ws) (LeavesFront (length ws))
unfolding front_at
front_leaves end w ws = go (bytes_eq w.bytes (codes "["))
  where
    go : (b : Bool) → IfOk (if b then (weight_at end ws >>= soft_part end) else Ok (None, w, ws))
        (LeavesFront (length ws))
    go true =
        bind_if (Leaves (length ws)) (LeavesFront (length ws)) (weight_at end ws) (soft_part end)
        (weight_leaves end ws) (λ x h. grind (arith, nat_tests, bind_if, next_leaves))
    go false = omega arith

-- ---- a constraint

abbrev pub as_weighed : Option ℕ → Listed × List Word → Result (Weighed × List Word) TextFault
as_weighed weight k = Ok (record { weight = weight; listed = k.0 }, k.1)

abbrev pub sum_part : ℕ → Option ℕ × Word × List Word → Result (Weighed × List Word) TextFault
sum_part end front = constraint_at greatest_index end front.1 front.2 >>= as_weighed front.0

pub weighed_shrinks : (end : ℕ) → Shrinks (weighed_at end)
unfolding weighed_at
weighed_shrinks end = record {
  leaves = λ w ws.
      bind_if (LeavesFront (length ws)) (Leaves (length ws)) (front_at end w ws) (sum_part end)
      (front_leaves end w ws) (λ front h. bind_if (Leaves (length front.2)) (Leaves (length ws))
      (constraint_at greatest_index end front.1 front.2) (as_weighed front.0)
      ((constraint_shrinks greatest_index end).leaves front.1 front.2)
      (λ k less. omega (arith, h, less)));
}

-- ---- as many as there are words are enough

pub words_are_enough : WordsAreEnough
unfolding constraints_at
words_are_enough = record {
  constraints = λ count end ws h. grind (arith, nat_tests, many_enough, weighed_shrinks);
  all = λ end ws. grind (arith, nat_tests, many_all, weighed_shrinks);
}
