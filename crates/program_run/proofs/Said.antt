-- What a sink was told of a line.
use Rattle.program_run.proofs.Common.{nat_tests, arith, ℕ, List, Result, OnOk, OnErr, append-nil, HasCause, Taken, Takes, TakesFront, IsSaid}

-- what was written with no error, or with one that has its cause, is said
pub said_of : {T E : Type 0} (old new : Taken) (before now : ℕ) (line : List ℕ)
    (result : Result T E) → OnOk result (Takes old new line)
    → OnErr result (TakesFront old new line) → HasCause before now result
    → IsSaid old new before now line
said_of old new before now line result whole front cause = grind (arith, nat_tests, append-nil)
