use Rattle.posiform_check.proofs.Common.{◌<◌, ◌≤◌, List, [], ◌∷◌, length, get_or, arith, w128, to_z-of_z, OnOk, Literal, HasMore, plain_terms}
use Rattle.posiform_check.proofs.quick.add_short.Goals as goal

-- ---- what holds of the literals at the places of a line holds of the line

none_of : (P : List Literal → Type 0) (ls : List Literal) → length ls < 1 → P [] → P ls
none_of P [] below all = all
none_of P (_ ∷ _) below all = absurd (omega arith)

one_of : (P : List Literal → Type 0) (ls : List Literal) (d : Literal) → 1 ≤ length ls → length ls < 2 → P (get_or ls 0 d ∷ []) → P ls
one_of P (_ ∷ []) d least below all = all
one_of P [] d least below all = absurd (omega arith)
one_of P (_ ∷ _ ∷ _) d least below all = absurd (omega arith)

two_of : (P : List Literal → Type 0) (ls : List Literal) (d e : Literal) → 2 ≤ length ls → length ls < 3 → P (get_or ls 0 d ∷ get_or ls 1 e ∷ []) → P ls
two_of P (_ ∷ _ ∷ []) d e least below all = all
two_of P [] d e least below all = absurd (omega arith)
two_of P (_ ∷ []) d e least below all = absurd (omega arith)
two_of P (_ ∷ _ ∷ _ ∷ _) d e least below all = absurd (omega arith)

pub returns-in-empty : goal.returns-in-empty
returns-in-empty c =
    none_of (λ ls. OnOk c.add_constant.result (HasMore c.args.sums.now (plain_terms ls c.args.coefficient) c.add_constant.new.self))
    c.args.line.now c.in-empty.len_below (rw (to_z-of_z w128 c.args.coefficient c.ranges.coefficient) at c.add_constant.ensures)

pub returns-in-len1 : goal.returns-in-len1
returns-in-len1 c =
    one_of (λ ls. OnOk c.add_one.result (HasMore c.args.sums.now (plain_terms ls c.args.coefficient) c.add_one.new.self))
    c.args.line.now _ c.in-len1.len_at_least c.in-len1.len_below
    (rw (to_z-of_z w128 c.args.coefficient c.ranges.coefficient) at c.add_one.ensures)

pub returns-in-len2 : goal.returns-in-len2
returns-in-len2 c =
    two_of (λ ls. OnOk c.add_two.result (HasMore c.args.sums.now (plain_terms ls c.args.coefficient) c.add_two.new.self))
    c.args.line.now _ _ c.in-len2.len_at_least c.in-len2.len_below
    (rw (to_z-of_z w128 c.args.coefficient c.ranges.coefficient) at c.add_two.ensures)
