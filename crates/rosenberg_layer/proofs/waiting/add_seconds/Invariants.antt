use Rattle.rosenberg_layer.proofs.Common.{◌≡◌, ◌++◌, map, take, drop, key_of}
use Rattle.rosenberg_layer.proofs.waiting.add_seconds.Given as goal

-- the keys so far, and the terms that are left
abbrev pub invariant-loop-i : goal.invariant-loop-i
invariant-loop-i l =
    l.keys.items ≡ map (key_of l.terms) (take l.i l.fn.keys.items) ++ drop l.i l.fn.keys.items
