use Rattle.elimination_order.proofs.NodesOnce.{order-once}
use Rattle.elimination_order.proofs.Usual.{usual_order}
use Rattle.elimination_order.proofs.UsualWidths.{usual_widths}
use Rattle.elimination_order.proofs.laws.laws_of_orders.Goals as goal

pub returns-clause-read : goal.returns-clause-read
returns-clause-read c = order-once

pub returns-clause-usual : goal.returns-clause-usual
returns-clause-usual c = usual_order

pub returns-clause-usual_widths : goal.returns-clause-usual_widths
returns-clause-usual_widths c = usual_widths
