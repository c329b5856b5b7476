use Rattle.run_steps.proofs.Lemmas.{refl, ap, NamedFiles, Board, Qubits, ChainSource, Site, Steps, ◌>>=◌, gives, ground_file, target_file, chains_step, siting, first_refuses, still_refuses, takes_given, takes_same, then_takes}
use Rattle.command_words.specs.declared.names.Which.TheVariants.{Map}
use Rattle.run_steps.proofs.placements.take_site.Goals as goal

-- the site of these qubits and chains
abbrev site_of : Board → Qubits → ChainSource → Site
site_of board qubits chain_source = record { qubits = qubits; chain_source = chain_source; ties = board.ties }

-- what comes after the qubits
abbrev after : Board → NamedFiles → Qubits → Steps Site
after board held qubits =
    chains_step held (ground_file board.ground Map) >>= λ chain_source. gives (site_of board qubits chain_source)

pub returns-in_err-qubits : goal.returns-in_err-qubits
unfolding siting
returns-in_err-qubits g c = first_refuses _ _ c.from_residual.ensures.1 c.in_err-qubits.ensures

pub returns : goal.returns
unfolding siting
returns g c =
    then_takes (after c.args.board.now) c.in_ok-qubits.ensures
    (takes_given (site_of c.args.board.now c.in_ok-qubits.qubits) refl
    (takes_same (λ held. ap (λ target. chains_step held (target_file target Map)) c.requires) c.in_ok-chain_source.ensures))

pub returns-in_err-chain_source : goal.returns-in_err-chain_source
unfolding siting
returns-in_err-chain_source g c =
    then_takes (after c.args.board.now) c.in_ok-qubits.ensures
    (still_refuses _ c.from_residual-in_err-chain_source.ensures.1
    (takes_same (λ held. ap (λ target. chains_step held (target_file target Map)) c.requires) c.in_err-chain_source.ensures))
