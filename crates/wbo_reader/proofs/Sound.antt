-- The rewritten problem is in normal form, and its sizes sum to at most four times those of its
-- source.
use Rattle.wbo_reader.proofs.Common.{nat_tests, ◌≡◌, ◌≢◌, ℕ, suc, ◌+◌, ◌*◌, ◌<◌, ◌≤◌, Bool, true, false, ◌&&◌, ◌||◌, eqb, List, [], ◌∷◌, ◌++◌, map, length, All, Option, unwrap_or, ℤ, pos, ◌-ℤ◌, unsigned_abs, refl, arith, sum_by, AllByRecursion, IsStrictlySortedBy, ints, sum_by-append, sum_by-cons, All-nil, All-weaker, All-from_recursion, recursion_from_All, Literal, Product, Constraint, IsLiteralSet, negated, products_total, constraint_total, problem_total, IsNormalProduct, Soft, WboContent, IsNormalConstraint, soft_total, wbo_total, bit_product, weighed_bits, least_sum, eased, eased_row, eased_rows, hard_rows, merged, all_of, rewritten, RewrittenIsSound, rows_of, negated-total, positive_total-le, all_append, All-cons, All-map, All-push, int_le, neg_ℤ, if◌then◌else◌, Some, None, nat_le, compared, AtMost, at_most, negative_total}
use Rattle.wbo_reader.proofs.Spending.{top_rows}

-- ---- products

wider_product : (v n : ℕ) → v ≤ n → (t : Product) → IsNormalProduct v t → IsNormalProduct n t
wider_product v n le t is = record {
  set = record { ordered = is.set.ordered; apart = is.set.apart; within = All-weaker (λ (l : Literal). l.variable < v) (λ l. l.variable < n) (λ l lt. omega (arith, lt, le)) t.literals is.set.within };
  filled = is.filled;
  nonzero = is.nonzero;
}

none_of_one : (b : Bool) → (((b && false) || false) || false) ≡ false
none_of_one b = grind (arith, nat_tests)

bit_set : (v n : ℕ) → v < n → IsLiteralSet n (record { variable = v; negated = false } ∷ [])
unfolding IsStrictlySortedBy
bit_set v n lt = record {
  ordered = (tt, tt);
  apart = none_of_one (eqb v v);
  within = grind (arith, nat_tests);
}

bit_normal : (v n : ℕ) (c : ℤ) → v < n → c ≢ pos 0 → IsNormalProduct n (bit_product v c)
bit_normal v n c lt some = record {
  set = bit_set v n lt;
  filled = λ e. cc;
  nonzero = some;
}

negated_normal : (n : ℕ) (t : Product) → IsNormalProduct n t → IsNormalProduct n (negated t)
negated_normal n t is = record {
  set = is.set;
  filled = is.filled;
  nonzero = λ e. is.nonzero (omega (arith, ints, e));
}

all_negated : (n : ℕ) (ts : List Product) → All (IsNormalProduct n) ts
    → All (IsNormalProduct n) (map negated ts)
all_negated n ts h =
    All-map (IsNormalProduct n) negated ts (All-weaker (IsNormalProduct n) (λ t. IsNormalProduct n (negated t)) (negated_normal n) ts h)

with_last : (n : ℕ) (b : Bool) (ts : List Product) (t : Product) → All (IsNormalProduct n) ts
    → (b ≡ false → IsNormalProduct n t) → All (IsNormalProduct n) (if b then ts else ts ++ t ∷ [])
with_last n true ts t h is = h
with_last n false ts t h is = All-push (IsNormalProduct n) ts t h (is refl)

-- ---- constraints

record IsGood (n : ℕ) (k : Constraint) : Type 0 where
  are : All (IsNormalProduct n) k.products

eased_good : (v n : ℕ) (ts : List Product) (bound : ℤ) → v < n
    → All (IsNormalProduct n) ts → IsGood n (eased v ts bound)
eased_good v n ts bound lt h =
    let some : int_le bound (least_sum ts) ≡ false → bound -ℤ least_sum ts ≢ pos 0 =
    λ e none. absurd (grind (arith, nat_tests, ints)) in
    record { are = with_last n (int_le bound (least_sum ts)) ts (bit_product v (bound -ℤ least_sum ts)) h (λ e. bit_normal v n (bound -ℤ least_sum ts) lt (some e)) }

row_good : (v n : ℕ) (k : Constraint) → v < n → IsGood n k
    → AllByRecursion (IsGood n) (eased_row v k)
row_good v n k lt h =
    let one = eased_good v n k.products k.bound lt h.are in
    let two = eased_good v n (map negated k.products) (neg_ℤ k.bound) lt (all_negated n k.products h.are) in
    grind (arith, nat_tests)

rows_good : (v n : ℕ) (soft : List Soft) → v + length soft ≤ n
    → AllByRecursion (λ (s : Soft). IsGood n s.constraint) soft
    → AllByRecursion (AllByRecursion (IsGood n)) (eased_rows v soft)
rows_good v n [] le h = tt
rows_good v n (s ∷ soft) le h =
    (row_good v n s.constraint (omega (arith, le)) h.0, rows_good (suc v) n soft (omega (arith, le)) h.1)

hard_good : (n : ℕ) (hard : List Constraint) → AllByRecursion (IsGood n) hard
    → AllByRecursion (AllByRecursion (IsGood n)) (hard_rows hard)
hard_good n [] h = tt
hard_good n (k ∷ hard) h = ((h.0, tt), hard_good n hard h.1)

module _ {A : Type 0} (P : A → Type 0) where
  all_merged : (order : List Bool) (xs ys : List A) → AllByRecursion P xs → AllByRecursion P ys
      → AllByRecursion P (merged order xs ys)
  all_merged [] xs ys a b = all_append P xs ys a b
  all_merged (true ∷ order) xs [] a b = a
  all_merged (true ∷ order) xs (y ∷ ys) a b = (b.0, all_merged order xs ys a b.1)
  all_merged (false ∷ order) [] ys a b = b
  all_merged (false ∷ order) (x ∷ xs) ys a b = (a.0, all_merged order xs ys a.1 b)

  all_joined : (rows : List (List A)) → AllByRecursion (AllByRecursion P) rows
      → AllByRecursion P (all_of rows)
  all_joined [] h = tt
  all_joined (row ∷ rows) h = all_append P row (all_of rows) h.0 (all_joined rows h.1)

weighed_good : (v n : ℕ) (soft : List Soft) → v + length soft ≤ n
    → AllByRecursion (λ (s : Soft). 0 < s.weight) soft
    → All (IsNormalProduct n) (weighed_bits v soft)
weighed_good v n [] le h = All-nil _
weighed_good v n (s ∷ soft) le h =
    All-cons (IsNormalProduct n) (bit_product v (pos s.weight)) (weighed_bits (suc v) soft)
    (bit_normal v n (pos s.weight) (omega (arith, le)) (λ e. absurd (omega (arith, ints, e, h.0))))
    (weighed_good (suc v) n soft (omega (arith, le)) h.1)

one_good : (n : ℕ) (b : Bool) (most : ℤ) (ts : List Product) → IsGood n (compared AtMost ts most)
    → AllByRecursion (IsGood n) (at_most (if b then Some most else None) ts)
one_good n true most ts h = (h, tt)
one_good n false most ts h = tt

top_good : (v n : ℕ) (top : Option ℕ) (soft : List Soft)
    → All (IsNormalProduct n) (weighed_bits v soft) → AllByRecursion (IsGood n) (top_rows v top soft)
top_good v n None soft h = tt
top_good v n (Some top) soft h =
    one_good n (nat_le top (sum_by (λ (s : Soft). s.weight) soft)) (pos top -ℤ pos 1)
    (weighed_bits v soft) (record { are = all_negated n (weighed_bits v soft) h })

-- ---- sizes

negative_total-le : (ts : List Product) → negative_total ts ≤ products_total ts
negative_total-le [] = omega arith
negative_total-le (t ∷ ts) =
    let rest = negative_total-le ts in
    simp sum_by-cons (grind (arith, nat_tests, ints))

pub least_size : (ts : List Product) → unsigned_abs (least_sum ts) ≤ products_total ts
least_size ts = omega (arith, ints, negative_total-le ts)

eased_total : (v : ℕ) (ts : List Product) (bound : ℤ)
    → constraint_total (eased v ts bound) ≤ 2 * (products_total ts + unsigned_abs bound)
eased_total v ts bound =
    let least = least_size ts in
    grind (arith, nat_tests, ints, sum_by-append, sum_by-cons)

row_total : (v : ℕ) (k : Constraint)
    → sum_by constraint_total (eased_row v k) ≤ 4 * constraint_total k
row_total v k =
    grind (arith, nat_tests, ints, sum_by-cons, eased_total v k.products k.bound, eased_total v (map negated k.products) (neg_ℤ k.bound), negated-total k.products)

abbrev row_size : List Constraint → ℕ
row_size row = sum_by constraint_total row

joined_total : (rows : List (List Constraint))
    → sum_by constraint_total (all_of rows) ≡ sum_by row_size rows
joined_total [] = refl
joined_total (row ∷ rows) = omega (arith, sum_by-append, joined_total rows, sum_by-cons)

merged_total : (order : List Bool) (xs ys : List (List Constraint))
    → sum_by row_size (merged order xs ys) ≡ sum_by row_size xs + sum_by row_size ys
merged_total [] xs ys = sum_by-append row_size xs ys
merged_total (true ∷ order) xs [] = omega arith
merged_total (true ∷ order) xs (y ∷ ys) = omega (arith, merged_total order xs ys, sum_by-cons)
merged_total (false ∷ order) [] ys = omega arith
merged_total (false ∷ order) (x ∷ xs) ys = omega (arith, merged_total order xs ys, sum_by-cons)

hard_total : (hard : List Constraint)
    → sum_by row_size (hard_rows hard) ≡ sum_by constraint_total hard
hard_total [] = refl
hard_total (k ∷ hard) = omega (arith, sum_by-cons, hard_total hard)

soft_rows_total : (v : ℕ) (soft : List Soft) → sum_by row_size (eased_rows v soft)
    + 4 * sum_by (λ (s : Soft). s.weight) soft ≤ 4 * sum_by soft_total soft
soft_rows_total v [] = omega arith
soft_rows_total v (s ∷ soft) = omega (arith, sum_by-cons, row_total, soft_rows_total (suc v) soft)

weighed_total : (v : ℕ) (soft : List Soft)
    → products_total (weighed_bits v soft) ≡ sum_by (λ (s : Soft). s.weight) soft
weighed_total v [] = refl
weighed_total v (s ∷ soft) =
    let rest0 = weighed_total (suc v) soft in simp sum_by-cons (grind (arith, nat_tests))

top_total : (v : ℕ) (top : Option ℕ) (soft : List Soft)
    → sum_by constraint_total (top_rows v top soft)
    ≤ sum_by (λ (s : Soft). s.weight) soft + unwrap_or top 0 + 1
top_total v None soft = omega arith
top_total v (Some top) soft =
    grind (arith, nat_tests, sum_by-cons, negated-total (weighed_bits v soft), weighed_total v soft)

-- ---- the whole

rewritten_total : (s : WboContent) → problem_total (rewritten s) ≤ 4 * wbo_total s + 1
rewritten_total s =
    let rows = merged s.order (hard_rows s.hard) (eased_rows s.variables s.soft) in
    let sum = sum_by-append constraint_total (all_of rows) (top_rows s.variables s.top s.soft) in
    omega (arith, ints, joined_total rows, merged_total s.order (hard_rows s.hard) (eased_rows s.variables s.soft), soft_rows_total s.variables s.soft, top_total s.variables s.top s.soft, weighed_total s.variables s.soft, hard_total s.hard)

good_wider : (v n : ℕ) → v ≤ n → (k : Constraint) → IsNormalConstraint v k → IsGood n k
good_wider v n le k h =
    record { are = All-weaker (IsNormalProduct v) (IsNormalProduct n) (wider_product v n le) k.products h }

pub rewritten_is_sound : RewrittenIsSound
rewritten_is_sound s is =
    let n = s.variables + length s.soft in
    let le : s.variables ≤ n = omega arith in
    let bits = weighed_good s.variables n s.soft (omega arith) (recursion_from_All (λ (k : Soft). 0 < k.weight) s.soft is.weighty) in
    let wider = good_wider s.variables n le in
    let Good : Soft → Type 0 = λ k. IsGood n k.constraint in
    let hard = hard_good n s.hard (recursion_from_All (IsGood n) s.hard (All-weaker (IsNormalConstraint s.variables) (IsGood n) wider s.hard is.normal.hard)) in
    let soft = rows_good s.variables n s.soft (omega arith) (recursion_from_All Good s.soft (All-weaker (λ (k : Soft). IsNormalConstraint s.variables k.constraint) Good (λ k. wider k.constraint) s.soft is.normal.soft)) in
    let rows = all_merged (AllByRecursion (IsGood n)) s.order (hard_rows s.hard) (eased_rows s.variables s.soft) hard soft in
    let all = all_append (IsGood n) (rows_of s) (top_rows s.variables s.top s.soft) (all_joined (IsGood n) _ rows) (top_good s.variables n s.top s.soft bits) in (
      record {
        objective = bits;
        clauses = All-nil _;
        constraints = All-weaker (IsGood n) (λ k. All (IsNormalProduct n) k.products) (λ k h. h.are) (rows_of s ++ top_rows s.variables s.top s.soft) (All-from_recursion (IsGood n) (rows_of s ++ top_rows s.variables s.top s.soft) all);
        most = λ m e. absurd cc;
      },
      omega (arith, rewritten_total s, is.small),
    )
