use Rattle.whole_text.proofs.Common.{nat_tests, arith, ne_eqb}
use Rattle.whole_text.proofs.Strides.{strides_mark, stride_again, wide_marks-push}
use Rattle.whole_text.proofs.packed.push_stride.Goals as goal

pub returns-then-stride-lt2-clause-pushed : goal.returns-then-stride-lt2-clause-pushed
returns-then-stride-lt2-clause-pushed c = grind (arith, nat_tests, strides_mark, stride_again)

pub returns-then-stride-lt2-clause-every : goal.returns-then-stride-lt2-clause-every
returns-then-stride-lt2-clause-every c = grind (arith, nat_tests, ne_eqb, wide_marks-push)
