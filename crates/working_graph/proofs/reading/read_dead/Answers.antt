use Rattle.working_graph.proofs.Common.{Ok, sym, ap, ◌∙◌, ◌>>=◌}
use Rattle.working_graph.proofs.reading.read_dead.Goals as goal

pub returns-clause-exact : goal.returns-clause-exact
returns-clause-exact c =
    ap (λ read. read >>= λ parts. Ok (record { graph = c.args.chimera; parts = parts }))
    c.in_ok-parts.ensures.exact ∙ ap Ok (sym c.in_ok-without.ensures)
