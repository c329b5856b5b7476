use Rattle.embedding_check.proofs.Common.{◌≡◌, length, AllZip, IsPlaceOf, rows_before}
use Rattle.embedding_check.proofs.places.push_rows.Given as goal

-- the couplings of the rows so far have their places
abbrev pub invariant-loop-k : goal.invariant-loop-k
invariant-loop-k g l = record {
  table : length l.noted ≡ length l.chains;
  placed : AllZip (IsPlaceOf (g.H.Hardware.joined l.hardware) l.chains) (rows_before l.couplings l.k) l.places.items;
}
