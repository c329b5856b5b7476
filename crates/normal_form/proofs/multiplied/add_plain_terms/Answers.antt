use Rattle.normal_form.proofs.PlainSteps.{coefficient_small, room-additions}
use Rattle.normal_form.proofs.multiplied.add_plain_terms.Goals as goal

pub gather_plain_terms-requires-clause-room : goal.gather_plain_terms-requires-clause-room
gather_plain_terms-requires-clause-room c = room-additions c.args.terms.now _ c.requires

pub gather_plain_terms-requires-clause-small : goal.gather_plain_terms-requires-clause-small
gather_plain_terms-requires-clause-small c =
    coefficient_small c.args.terms.now c.args.list.now.items c.args.literals.now c.args.coefficient.now c.requires
