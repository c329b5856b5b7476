use Rattle.cut_chains.proofs.Common.{chains_sound, as_chains, cut_joins}
use Rattle.cut_chains.proofs.laws.laws_of_cut_links.Goals as goal

pub returns : goal.returns
returns c = record { sound = λ link. chains_sound (as_chains link); joins = cut_joins }
