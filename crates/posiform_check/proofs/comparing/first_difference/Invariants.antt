use Rattle.posiform_check.proofs.Common.{◌≡◌, [], option_map, in_front, behind_next, difference, lent_term}
use Rattle.posiform_check.proofs.comparing.first_difference.Given as goal

-- the difference is that of what is left of both
abbrev pub invariant-loop-set : goal.invariant-loop-set
invariant-loop-set l =
    difference l.set-iterator (behind_next (option_map lent_term l.next) l.others)
    ≡ difference (in_front [] l.constant l.form.content.terms) l.other.content.terms
