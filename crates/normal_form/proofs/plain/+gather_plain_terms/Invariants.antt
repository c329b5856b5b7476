use Rattle.std.proofs.Common.{length}
use Rattle.normal_form.proofs.plain.+gather_plain_terms.Given as goal

abbrev pub decreases-gather_plain_terms : goal.decreases-gather_plain_terms
decreases-gather_plain_terms g l = length l.literals.now
