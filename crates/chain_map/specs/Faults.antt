-- What an answer says of a map.
use Rattle.chain_map.specs.declared.faults.EmbedFault.{EmbedFault}
use Rattle.chain_map.specs.declared.faults.CheckAnswer.{CheckAnswer}
use Rattle.chain_map.specs.declared.faults.CheckAnswer.TheVariants.{Fault, NoMemory}

-- a fact of the fault, where there is one
abbrev pub IfFault : CheckAnswer → (EmbedFault → Type 0) → Type 0
IfFault (Fault f) P = P f
IfFault NoMemory P = Unit {0}
