use Rattle.base.proofs.Products.{times_assoc, times-plus, times-le}
use Rattle.base.proofs.laws.laws_of_products.Goals as goal

pub returns-clause-associate : goal.returns-clause-associate
returns-clause-associate c = times_assoc

pub returns-clause-distribute : goal.returns-clause-distribute
returns-clause-distribute c = times-plus

pub returns-clause-order : goal.returns-clause-order
returns-clause-order c = times-le
