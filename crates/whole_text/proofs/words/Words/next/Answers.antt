use Rattle.whole_text.proofs.Common.{nat_tests, arith, Stride}
use Rattle.whole_text.proofs.Cursors.{cursor_behind, first_few, first_within, later, narrow_first, wide_first, words_cut}
use Rattle.whole_text.proofs.words.Words.next.Goals as goal

-- a stride for where there is none
abbrev none : Stride
none = record { len = 0; lines = 0 }

pub split_at-requires : goal.split_at-requires
split_at-requires c = grind (arith, nat_tests, narrow_first, first_within, later)

pub overflow_add-self : goal.overflow_add-self
overflow_add-self c = grind (arith, nat_tests, narrow_first, first_few, later)

pub invariant_of-self : goal.invariant_of-self
invariant_of-self c = grind (arith, nat_tests, narrow_first, cursor_behind, later)

pub returns-in-len1-up : goal.returns-in-len1-up
returns-in-len1-up c = grind (arith, nat_tests, narrow_first, words_cut, later)

pub split_at-requires-in-len1-up-wide : goal.split_at-requires-in-len1-up-wide
split_at-requires-in-len1-up-wide c =
    grind (arith, nat_tests, wide_first, none, first_within, later)

pub overflow_add-self-in-len1-up-wide : goal.overflow_add-self-in-len1-up-wide
overflow_add-self-in-len1-up-wide c = grind (arith, nat_tests, wide_first, none, first_few, later)

pub invariant_of-self-in-len1-up-wide : goal.invariant_of-self-in-len1-up-wide
invariant_of-self-in-len1-up-wide c =
    grind (arith, nat_tests, wide_first, none, cursor_behind, later)

pub returns-in-len1-up-wide : goal.returns-in-len1-up-wide
returns-in-len1-up-wide c = grind (arith, nat_tests, wide_first, none, words_cut, later)
