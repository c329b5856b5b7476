use Rattle.posiform_check.proofs.Common.{◌∙◌, sym, drop-at}
use Rattle.posiform_check.proofs.lines.LinesIterator.next.Goals as goal

pub returns-clause-steps : goal.returns-clause-steps
returns-clause-steps c =
    sym c.self.view_is ∙ drop-at c.self.inside.list.now c.self.inside.next _ c.at-line.ensures
