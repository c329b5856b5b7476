use Rattle.problem_form.proofs.Lemmas.{ints, nat_tests, arith, length-zip_with, zip_with-at}
use Rattle.problem_form.proofs.product_list.ProductList.at.Goals as goal

pub at-requires : goal.at-requires
at-requires c = grind (arith, nat_tests, length-zip_with)

pub index-requires : goal.index-requires
index-requires c = grind (arith, nat_tests, length-zip_with)

pub returns : goal.returns
returns c = grind (arith, nat_tests, ints, length-zip_with, zip_with-at)
