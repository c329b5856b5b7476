use Rattle.embedding_check.proofs.Common.{ℕ, ◌<◌, ◌++◌, List, take, get_or, AllZip, Entry, IsCoupled, IsPlaceOf}
use Rattle.embedding_check.proofs.places.push_places.Given as goal

-- the places are those that were there, and those of the couplings so far
abbrev pub invariant-loop-k : goal.invariant-loop-k
invariant-loop-k g l = record {
  placed : (before : List Entry) → AllZip (IsPlaceOf (g.H.Hardware.joined l.hardware) l.chains) before l.initial.places.items
      → AllZip (IsPlaceOf (g.H.Hardware.joined l.hardware) l.chains) (before ++ take l.k l.row) l.places.items;
  coupled : (i : ℕ) (d : Entry) → i < l.k → IsCoupled (g.H.Hardware.joined l.hardware) l.chains (get_or l.row i d);
}
