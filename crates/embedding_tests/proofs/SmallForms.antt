-- Forms with few weights, all of them small.
use Rattle.std.proofs.Common.{◌≡◌, ◌≢◌, ℕ, suc, ◌+◌, ◌*◌, ◌<◌, ◌≤◌, ◌^◌, Bool, true, false, ℤ, pos, unsigned_abs, List, [], ◌∷◌, ◌++◌, length, All, refl, sym, ap, subst, arith}
use Rattle.std.specs.Prelude.{if◌then◌else◌}
use Rattle.std.specs.List.{AllByRecursion, sum_by}
use Rattle.std.specs.Ordering.{int_eq}
use Rattle.std.proofs.lemmas.List.Elements.{recursion_from_All, All-push}
use Rattle.std.proofs.lemmas.List.Sums.{sum_by-append, sum_by-cons, sum_by-le}
use Rattle.bits_model.specs.declared.output.Entry.{Entry}
use Rattle.bits_model.specs.Output.{weight_total, entry_size, is_node}
use Rattle.bits_model.specs.PairNumbers.{pair_number}
use Rattle.pair_sums.specs.Pairs.{IsPair}
use Rattle.quad_form.specs.Quads.{node_entries, IsCoupler}
use Rattle.pair_sums.proofs.PairOrder.{Rises, ordered_from_rising}
use Rattle.ising_form.specs.Isings.{IsIsing}
use Rattle.embedding_tests.specs.SmallForms.{AreSmallCouplings, IsSmall}

-- ---- couplings

-- couplings so far, all of them below a number
pub record AreBelow (nodes bound : ℕ) (es : List Entry) : Type 0 where
  pub couplers : All (IsCoupler nodes) es
  pub small : All (λ e. unsigned_abs e.weight ≤ 2 ^ 20) es
  pub rising : Rises es
  pub below : AllByRecursion (λ e. pair_number e < bound) es

all_by_recursion_push : (P : Entry → Type 0) (es : List Entry) (f : Entry) → AllByRecursion P es → P f
    → AllByRecursion P (es ++ f ∷ [])
all_by_recursion_push P [] f all p = (p, tt)
all_by_recursion_push P (e ∷ es) f all p = (all.0, all_by_recursion_push P es f all.1 p)

rises_more : (es : List Entry) (f : Entry) → Rises es → AllByRecursion (λ e. pair_number e < pair_number f) es
    → Rises (es ++ f ∷ [])
rises_more [] f rises below = (tt, tt)
rises_more (e ∷ es) f rises below =
    (all_by_recursion_push (λ g. pair_number e < pair_number g) es f rises.0 below.0, rises_more es f rises.1 below.1)

weaker : (P Q : Entry → Type 0) (es : List Entry) → ((e : Entry) → P e → Q e) → AllByRecursion P es → AllByRecursion Q es
weaker P Q [] to all = tt
weaker P Q (e ∷ es) to all = (to e all.0, weaker P Q es to all.1)

pub none_below : (nodes : ℕ) → AreBelow nodes 0 []
none_below nodes = record {
  couplers = λ k d h. absurd (omega (arith, h));
  small = λ k d h. absurd (omega (arith, h));
  rising = tt;
  below = tt;
}

pub more_below : (nodes bound : ℕ) (es : List Entry) (f : Entry) → AreBelow nodes bound es → f.first < f.second
    → f.second < nodes → f.weight ≢ pos 0 → unsigned_abs f.weight ≤ 2 ^ 20 → bound ≤ pair_number f
    → AreBelow nodes (pair_number f + 1) (es ++ f ∷ [])
more_below nodes bound es f so_far up within nonzero small above = record {
  couplers = All-push (IsCoupler nodes) es f so_far.couplers (record { upward = up; within = within; nonzero = nonzero });
  small = All-push (λ (e : Entry). unsigned_abs e.weight ≤ 2 ^ 20) es f so_far.small small;
  rising = rises_more es f so_far.rising (weaker _ _ es (λ e less. omega (arith, less, above)) so_far.below);
  below = all_by_recursion_push _ es f (weaker _ _ es (λ e less. omega (arith, less, above)) so_far.below) (omega arith);
}

pub small_couplings : (nodes bound : ℕ) (es : List Entry) → nodes < 2 ^ 32 → AreBelow nodes bound es
    → length es ≤ 100 → AreSmallCouplings nodes es
small_couplings nodes bound es narrow so_far few = record {
  ordered = ordered_from_rising es (weaker (IsCoupler nodes) (IsPair (2 ^ 32)) es
      (λ e is. record { upward = is.upward; within = omega (arith, is.within, narrow) })
      (recursion_from_All (IsCoupler nodes) es so_far.couplers)) so_far.rising;
  couplers = so_far.couplers;
  small = so_far.small;
  few = few;
}

-- ---- sums

length-nodes : (a : ℕ) (ws : List ℤ) → length (node_entries a ws) ≡ length ws
length-nodes a [] = refl
length-nodes a (w ∷ ws) = ap suc (length-nodes (suc a) ws)

fields_total : (a : ℕ) (ws : List ℤ) → AllByRecursion (λ w. unsigned_abs w ≤ 2 ^ 20) ws
    → weight_total (node_entries a ws) ≤ length ws * 2 ^ 20
fields_total a [] small = omega arith
fields_total a (w ∷ ws) small =
    omega (
      arith,
      sum_by-cons (λ (e : Entry). unsigned_abs e.weight) (record { first = a; second = a; weight = w })
          (node_entries (suc a) ws),
      fields_total (suc a) ws small.1,
      small.0,
    )

at_most_one : (b : Bool) → (if b then 0 else 1) ≤ 1
at_most_one true = omega arith
at_most_one false = omega arith

at_most_four : (zero node : Bool) → (if zero then 0 else (if node then 1 else 4)) ≤ 4
at_most_four true node = omega arith
at_most_four false true = omega arith
at_most_four false false = omega arith

sizes_at_most : (es : List Entry) → sum_by entry_size es ≤ length es * 4
sizes_at_most [] = omega arith
sizes_at_most (e ∷ es) =
    omega (arith, sum_by-cons entry_size e es, at_most_four (int_eq e.weight (pos 0)) (is_node e), sizes_at_most es)

-- ---- forms

-- few weights, all of them small, and the couplings in order
pub record AreSmallParts (constant : ℤ) (fields : List ℤ) (es : List Entry) : Type 0 where
  pub constant_small : unsigned_abs constant ≤ 2 ^ 20
  pub fields_small : All (λ w. unsigned_abs w ≤ 2 ^ 20) fields
  pub few : length fields ≤ 100
  pub couplings : AreSmallCouplings (length fields) es

-- parts that are the same as small ones are small
pub small_parts : (constant : ℤ) (given fields : List ℤ) (made es : List Entry) → unsigned_abs constant ≤ 2 ^ 20
    → All (λ w. unsigned_abs w ≤ 2 ^ 20) given → length given ≤ 100 → AreSmallCouplings (length given) made
    → fields ≡ given → es ≡ made → AreSmallParts constant fields es
small_parts constant given fields made es constant_small fields_small few couplings fields_are couplings_are = record {
  constant_small = constant_small;
  fields_small = subst (All (λ w. unsigned_abs w ≤ 2 ^ 20)) (sym fields_are) fields_small;
  few = omega (arith, ap length fields_are, few);
  couplings = subst (λ n. AreSmallCouplings n es) (sym (ap length fields_are))
      (subst (AreSmallCouplings (length given)) (sym couplings_are) couplings);
}

pub is_small : (constant : ℤ) (fields : List ℤ) (es : List Entry) → AreSmallParts constant fields es
    → IsSmall (record { constant = constant; fields = fields; couplings = es })
is_small constant fields es parts = record {
  total = omega (arith, parts.constant_small, parts.few, couplings.few, sum, nodes, couplers);
  size = omega (arith, parts.few, couplings.few, one, size, size_of_nodes, count, sizes_at_most es);
}
  where
    couplings : AreSmallCouplings (length fields) es
    couplings = parts.couplings

    sum : weight_total (node_entries 0 fields ++ es) ≡ weight_total (node_entries 0 fields) + weight_total es
    sum = sum_by-append (λ (e : Entry). unsigned_abs e.weight) (node_entries 0 fields) es

    nodes : weight_total (node_entries 0 fields) ≤ length fields * 2 ^ 20
    nodes = fields_total 0 fields (recursion_from_All (λ w. unsigned_abs w ≤ 2 ^ 20) fields parts.fields_small)

    couplers : weight_total es ≤ length es * 2 ^ 20
    couplers = sum_by-le (λ (e : Entry). unsigned_abs e.weight) (2 ^ 20) es couplings.small

    one : (if int_eq constant (pos 0) then 0 else 1) ≤ 1
    one = at_most_one (int_eq constant (pos 0))

    size : sum_by entry_size (node_entries 0 fields ++ es) ≡ sum_by entry_size (node_entries 0 fields) + sum_by entry_size es
    size = sum_by-append entry_size (node_entries 0 fields) es

    size_of_nodes : sum_by entry_size (node_entries 0 fields) ≤ length (node_entries 0 fields) * 4
    size_of_nodes = sizes_at_most (node_entries 0 fields)

    count : length (node_entries 0 fields) ≡ length fields
    count = length-nodes 0 fields

pub small_form : (constant : ℤ) (fields : List ℤ) (es : List Entry) → AreSmallParts constant fields es
    → IsIsing (record { constant = constant; fields = fields; couplings = es })
small_form constant fields es parts = record {
  ordered = parts.couplings.ordered;
  couplings = parts.couplings.couplers;
  narrow = omega (arith, parts.few);
  small = omega (arith, (is_small constant fields es parts).total);
}
