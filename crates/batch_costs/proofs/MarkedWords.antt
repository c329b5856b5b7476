-- Words that mark assignments: their bits, what literals say of these, and what is added where they mark.
use Rattle.batch_costs.proofs.Common.{set, ℤ, pos, ◌+ℤ◌, unsigned_abs, zero, suc, ◌≤◌, ◌≡◌, ℕ, ◌+◌, ◌-◌, ◌*◌, ◌%◌, ◌/◌, ◌<◌, ◌^◌, ◌==◌, Bool, true, false, not, ◌&&◌, if◌then◌else◌, List, [], ◌∷◌, length, get_or, arith, refl, ap, sym, ◌∙◌, bit_and, bit_or, w64, bit_at, ints, length-map, get_or-set_other, get_or-set_at, sum_by, if_so, total_by, Sums, size-plus, sum_by-cons, nat_tests, and_le_r, bit_at-lt, bit_at-zero, bit_at_and, bit_at_not, bit_at_ones, bit_at_set_same, bit_at_set_other, bit_at_clear_same, bit_at_clear_other, bit_at_lowest, bit_at-suc, Literal, all_hold, holds, assignment, is_marked}
use Rattle.bits_model.specs.declared.output.Entry.{Entry}

-- ---- one word

pub marked-set : (n place k : ℕ) → place < 64 → k < 64
    → is_marked (bit_or n (1 * 2 ^ place % 2 ^ 64)) k ≡ (if k == place then true else is_marked n k)
marked-set n place k within below =
    let same = bit_at_set_same w64 n place within in
    let other = bit_at_set_other w64 n place within k in
    grind (arith, nat_tests)

pub marked-clear : (n place k : ℕ) → place < 64 → k < 64
    → is_marked (bit_and n (2 ^ 64 - 1 - 1 * 2 ^ place % 2 ^ 64)) k
    ≡ (if k == place then false else is_marked n k)
marked-clear n place k within below =
    let same = bit_at_clear_same w64 n place within in
    let other = bit_at_clear_other w64 n place within k below in
    grind (arith, nat_tests)

pub marked-not : (n k : ℕ) → n < 2 ^ 64 → k < 64
    → is_marked (2 ^ 64 - 1 - n) k ≡ not (is_marked n k)
marked-not n k fits below =
    let flips = bit_at_not w64 n k fits below in
    let bit = bit_at-lt n k in
    grind (arith, nat_tests)

pub marked-and : (a b k : ℕ) → is_marked (bit_and a b) k ≡ (is_marked a k && is_marked b k)
marked-and a b k =
    let both = bit_at_and a b k in
    let first = bit_at-lt a k in
    let second = bit_at-lt b k in
    grind (arith, nat_tests)

pub marked-ones : (k : ℕ) → k < 64 → is_marked (2 ^ 64 - 1) k ≡ true
marked-ones k below = ap (λ bit. bit == 1) (bit_at_ones 64 k below)

pub marked-zero : (k : ℕ) → is_marked 0 k ≡ false
marked-zero k = ap (λ bit. bit == 1) (bit_at-zero k)

-- ---- a word without its lowest mark

-- the number before has a 0 where a number has its lowest 1
lowest_gone : (place n : ℕ) → bit_at n place ≡ 1 → ((i : ℕ) → i < place → bit_at n i ≡ 0)
    → bit_at (n - 1) place ≡ 0
lowest_gone zero n one lower = bit_at_lowest (n - 1) ∙ omega (arith, sym (bit_at_lowest n) ∙ one)
lowest_gone (suc place) n one lower =
    let even : n % 2 ≡ 0 = sym (bit_at_lowest n) ∙ lower 0 (omega arith) in
    let half : (n - 1) / 2 ≡ n / 2 - 1 = omega (arith, even) in
    bit_at-suc (n - 1) place ∙ ap (λ m. bit_at m place) half
    ∙ lowest_gone place (n / 2) (sym (bit_at-suc n place) ∙ one)
    (λ i below. sym (bit_at-suc n i) ∙ lower (suc i) (omega (arith, below)))

-- and is the same above it
same_above : (place n k : ℕ) → bit_at n place ≡ 1 → ((i : ℕ) → i < place → bit_at n i ≡ 0)
    → place < k → bit_at (n - 1) k ≡ bit_at n k
same_above place n zero one lower above = absurd (omega (arith, above))
same_above zero n (suc k) one lower above =
    let odd : n % 2 ≡ 1 = sym (bit_at_lowest n) ∙ one in
    let half : (n - 1) / 2 ≡ n / 2 = omega (arith, odd) in
    bit_at-suc (n - 1) k ∙ ap (λ m. bit_at m k) half ∙ sym (bit_at-suc n k)
same_above (suc place) n (suc k) one lower above =
    let even : n % 2 ≡ 0 = sym (bit_at_lowest n) ∙ lower 0 (omega arith) in
    let half : (n - 1) / 2 ≡ n / 2 - 1 = omega (arith, even) in
    bit_at-suc (n - 1) k ∙ ap (λ m. bit_at m k) half
    ∙ same_above place (n / 2) k (sym (bit_at-suc n place) ∙ one)
    (λ i below. sym (bit_at-suc n i) ∙ lower (suc i) (omega (arith, below))) (omega (arith, above))
    ∙ sym (bit_at-suc n k)

pub marked-rest : (n place k : ℕ) → bit_at n place ≡ 1 → ((i : ℕ) → i < place → bit_at n i ≡ 0)
    → is_marked (bit_and n (n - 1)) k ≡ (if k == place then false else is_marked n k)
marked-rest n place k one lower =
    let both = marked-and n (n - 1) k in
    let gone = lowest_gone place n one lower in
    let above = same_above place n k one lower in
    let below = lower k in
    grind (arith, nat_tests)

pub rest-less : (n : ℕ) → 0 < n → bit_and n (n - 1) < n
rest-less n some = omega (arith, and_le_r n (n - 1), some)

-- ---- the word of a variable, and what literals say

-- a word at a place says what the assignment there says of its variable
pub value-marked : (words : List ℕ) (v k : ℕ)
    → is_marked (get_or words v 0) k ≡ get_or (assignment words k) v false
value-marked [] v k = marked-zero k
value-marked (word ∷ words) zero k = refl
value-marked (word ∷ words) (suc v) k = value-marked words v k

pub literal-marked : (words : List ℕ) (l : Literal) (k word : ℕ) → l.negated ≡ true
    → word ≡ get_or words l.variable 0 → word < 2 ^ 64 → k < 64
    → is_marked (2 ^ 64 - 1 - word) k ≡ holds (assignment words k) l
literal-marked words l k word negated is fits below =
    let value = ap (λ w. is_marked w k) is ∙ value-marked words l.variable k in
    rw negated (marked-not word k fits below ∙ ap not value)

pub both-hold : (x : List Bool) (l : Literal) (left rest : List Literal) (b : Bool) → left ≡ l ∷ rest
    → ((b && holds x l) && all_hold x rest) ≡ (b && all_hold x left)
both-hold x l left rest true cut = sym (ap (all_hold x) cut)
both-hold x l left rest false cut = refl

-- the words of an entry's nodes say together whether it counts in the state at a place
pub entry-marked : (words : List ℕ) (e : Entry) (k a b : ℕ) → a ≡ get_or words e.first 0
    → b ≡ get_or words e.second 0 → is_marked (bit_and a b) k
    ≡ (get_or (assignment words k) e.first false && get_or (assignment words k) e.second false)
entry-marked words e k a b first second =
    marked-and a b k ∙ (λ i. (ap (λ w. is_marked w k) first ∙ value-marked words e.first k) i
    && (ap (λ w. is_marked w k) second ∙ value-marked words e.second k) i)

-- ---- words whose bits at a place were written

pub same_assignment : (words : List ℕ) (x : List Bool) (k : ℕ) → length words ≡ length x
    → ((v : ℕ) → v < length words → is_marked (get_or words v 0) k ≡ get_or x v false)
    → assignment words k ≡ x
same_assignment [] [] k width each = refl
same_assignment [] (b ∷ x) k width each = absurd (omega (arith, width))
same_assignment (word ∷ words) [] k width each = absurd (omega (arith, width))
same_assignment (word ∷ words) (b ∷ x) k width each =
    λ i. each 0 (omega arith) i
    ∷ same_assignment words x k (omega (arith, width)) (λ v within. each (suc v) (omega (arith, within))) i

pub unchanged_assignment : (words old : List ℕ) (k : ℕ) → length words ≡ length old
    → ((v : ℕ) → v < length words → is_marked (get_or words v 0) k ≡ is_marked (get_or old v 0) k)
    → assignment words k ≡ assignment old k
unchanged_assignment words old k width each =
    same_assignment words (assignment old k) k (omega (arith, width, length-map old (λ w. is_marked w k)))
    (λ v within. each v within ∙ value-marked old v k)

-- ---- a number that is added where a word marks

-- the sum and the number, where it is still to be added, stay what they come to
pub added : (sums : List ℤ) (place k rest next : ℕ) (number new whole : ℤ) → length sums ≡ 64 → place < 64
    → bit_at rest place ≡ 1 → is_marked next k ≡ (if k == place then false else is_marked rest k)
    → new ≡ get_or sums place (pos 0) +ℤ number
    → get_or sums k (pos 0) +ℤ if_so (is_marked rest k) number ≡ whole
    → get_or (set sums place new) k (pos 0) +ℤ if_so (is_marked next k) number ≡ whole
added sums place k rest next number new whole places within marked cleared is before =
    ap (λ b. get_or (set sums place new) k (pos 0) +ℤ if_so b number) cleared ∙ go (k == place) refl
  where
    go : (b : Bool) → (k == place) ≡ b
        → get_or (set sums place new) k (pos 0) +ℤ if_so (if b then false else is_marked rest k) number ≡ whole
    go true same =
        let at : k ≡ place = grind (arith, nat_tests, same) in
        let here = get_or-set_at sums place k new (pos 0) at (omega (arith, places, within)) in
        let one : if_so (is_marked rest k) number ≡ number =
        ap (λ j. if_so (is_marked rest j) number) at ∙ ap (λ bit. if_so (bit == 1) number) marked in
        let old = ap (λ j. get_or sums j (pos 0)) at in
        omega (arith, ints, here, one, old, is, before)
    go false apart =
        let there = get_or-set_other sums place k new (pos 0) (grind (arith, nat_tests, apart)) in
        omega (arith, ints, there, before)

-- what counts only under a test is no more than the whole, in size
pub size-if_so : (b : Bool) (number : ℤ) → unsigned_abs (if_so b number) ≤ unsigned_abs number
size-if_so true number = omega arith
size-if_so false number = omega arith

-- a sum to which a number is still to be added has room for it
pub room : (b : Bool) (old now number : ℤ) → now +ℤ number ≡ old +ℤ if_so b number
    → unsigned_abs old + unsigned_abs number < 2 ^ 126 → unsigned_abs (now +ℤ number) < 2 ^ 126
room true old now number is small = omega (arith, ints, is, small)
room false old now number is small = omega (arith, ints, is, small)

-- before any product, what is left is the whole
pub sums_begin : {X : Type 0} (f : X → ℤ) (size : X → ℕ) (left all : List X) (sum : ℤ) → left ≡ all
    → sum ≡ pos 0 → Sums f size sum left (total_by f all) (sum_by size all)
sums_begin f size left all sum is none =
    let total = ap (total_by f) is in
    let sizes = ap (sum_by size) is in
    record {
      so_far = omega (arith, ints, total, none);
      small = omega (arith, sizes, ap unsigned_abs none);
    }

-- ---- one more number

-- the next sum is that so far and what the first of those that are left gives
pub sums_left : {X : Type 0} (f : X → ℤ) (size : X → ℕ) (left rest : List X) (x : X)
    (sum part next whole : ℤ) (most : ℕ) → left ≡ x ∷ rest → part ≡ f x
    → unsigned_abs (f x) ≤ size x → next ≡ sum +ℤ part → Sums f size sum left whole most
    → Sums f size next rest whole most
sums_left f size left rest x sum part next whole most step at_part fits at_next before =
    let sizes : sum_by size left ≡ size x + sum_by size rest =
    ap (sum_by size) step ∙ sum_by-cons size x rest in
    let value : next ≡ sum +ℤ f x = at_next ∙ ap (λ p. sum +ℤ p) at_part in
    record {
      so_far = omega (arith, ints, ap (total_by f) step, value, before.so_far);
      small = omega (arith, sizes, fits, ap unsigned_abs value, size-plus sum (f x), before.small);
    }
