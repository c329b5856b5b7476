use Rattle.rosenberg_layer.proofs.Common.{◌≡◌, ◌++◌, ◌<◌, ◌^◌, map, All, Literal, code_of}
use Rattle.rosenberg_layer.proofs.rings.append_lent.Given as goal

-- the codes so far and those that are left stand behind those that were there
abbrev pub invariant-loop-literal : goal.invariant-loop-literal
invariant-loop-literal l = record {
  all : l.codes.items ++ map code_of l.literal-iterator
      ≡ l.initial.codes.items ++ map code_of l.fn.literals;
  narrow : All (λ (k : Literal). k.variable < 2 ^ 31) l.literal-iterator;
}
