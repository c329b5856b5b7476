-- What files tell where a limit is passed that is not of bytes.
use Rattle.run_steps.proofs.Common.{nat_tests, arith, ◌≢◌, ℕ, List, LimitKind, Counts, IsLimited, IsReadTo, Bytes}

pub limits_refused : (name : List ℕ) (count number : ℕ) (kind : LimitKind) (old new : Counts)
    → kind ≢ Bytes → IsReadTo name count old new → IsLimited kind number name count old new
limits_refused name count number kind old new other read = grind (arith, nat_tests)
