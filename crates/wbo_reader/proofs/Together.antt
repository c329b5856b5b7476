-- What is added to a source one after another is the source of the whole.
use Rattle.wbo_reader.proofs.Common.{nat_tests, ◌≡◌, ℕ, ◌+◌, ◌≤◌, List, [], ◌∷◌, ◌++◌, fold, flat_map, Option, Result, Ok, sym, append-nil, append_assoc, arith, unwrap_or, sum_by, sum_by-append, TextFault, Word, ◌>>=◌, end_line, Constraint, constraint_total, normal_constraint-total, widened, widened-append, WboContent, soft_total, wbo_total, Weighed, WboText, all_literals, hard_by, hard_of, soft_by, soft_of, order_by, content_of, content_of_words, reading_of_words, head_at, constraints_at, nothing, with_constraint, with_weighed, constraints_read}

-- ---- one after another

all_added : (s : WboContent) (ks : List Weighed) → fold with_weighed s ks ≡ record s {
  variables = widened s.variables (all_literals ks);
  hard = s.hard ++ flat_map hard_of ks;
  soft = s.soft ++ flat_map soft_of ks;
  order = s.order ++ flat_map (λ k. order_by k.weight) ks;
}
all_added s [] = λ i. record s {
  hard = sym (append-nil s.hard) i;
  soft = sym (append-nil s.soft) i;
  order = sym (append-nil s.order) i;
}
all_added s (k ∷ ks) =
    grind (arith, nat_tests, all_added (with_weighed s k) ks, widened-append, append_assoc)

abbrev pub whole : Option ℕ → List Weighed → WboText
whole top ks = record { top = top; constraints = ks }

pub put_together : (top : Option ℕ) (ks : List Weighed)
    → fold with_weighed (nothing top) ks ≡ content_of (whole top ks)
put_together top ks = all_added (nothing top) ks

-- ---- a text

abbrev Source : Type 0
Source = Result WboContent TextFault

abbrev as_whole : Option ℕ → List Weighed × List Word → Result WboText TextFault
as_whole top x = Ok (whole top x.0)

abbrev normal : WboText → Source
normal t = Ok (content_of t)

abbrev rest_of : ℕ → Option ℕ × List Word → Result WboText TextFault
rest_of end head = constraints_at end head.1 >>= as_whole head.0

-- constraints after a top
abbrev pub constraints_after : ℕ → Option ℕ × List Word → Source
constraints_after end x = constraints_read (nothing x.0) end x.1

others_are : (top : Option ℕ) (read : Result (List Weighed × List Word) TextFault)
    → (read >>= as_whole top) >>= normal
    ≡ (read >>= λ (x : List Weighed × List Word). Ok (fold with_weighed (nothing top) x.0))
others_are top read = grind (arith, nat_tests, put_together)

head_is : (end : ℕ) (read : Result (Option ℕ × List Word) TextFault)
    → (read >>= rest_of end) >>= normal ≡ read >>= constraints_after end
head_is end read = grind (arith, nat_tests, others_are)

-- the source of words: a top or none, and constraints that are added to no others
pub content_of_words-put : (ws : List Word)
    → content_of_words ws ≡ head_at (end_line ws) ws >>= constraints_after (end_line ws)
unfolding content_of_words reading_of_words
content_of_words-put ws = head_is (end_line ws) (head_at (end_line ws) ws)

-- ---- sizes

hard_by-total : (weight : Option ℕ) (k : Constraint)
    → sum_by constraint_total (hard_by weight k) + sum_by soft_total (soft_by weight k)
    ≤ unwrap_or weight 0 + constraint_total k
hard_by-total weight k = grind (arith, nat_tests)

pub with_constraint-total : (s : WboContent) (weight : Option ℕ) (k : Constraint)
    → wbo_total (with_constraint s weight k) ≤ wbo_total s + unwrap_or weight 0 + constraint_total k
with_constraint-total s weight k =
    grind (arith, nat_tests, sum_by-append, hard_by-total, normal_constraint-total)
