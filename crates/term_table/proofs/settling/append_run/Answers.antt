use Rattle.term_table.proofs.Common.{List, sym, subst, Run, AreSettling}
use Rattle.term_table.proofs.settling.append_run.Goals as goal

pub settle-requires : goal.settle-requires
settle-requires c =
    subst (λ (rs : List Run). AreSettling rs c.args.entry) (sym c.as_slice.ensures) c.requires
