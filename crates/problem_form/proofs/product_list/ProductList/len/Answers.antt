use Rattle.problem_form.proofs.Lemmas.{arith, nat_tests, length-zip_with}
use Rattle.problem_form.proofs.product_list.ProductList.len.Goals as goal

pub returns : goal.returns
returns c = grind (arith, nat_tests, length-zip_with)
