use Rattle.posiform_check.proofs.Common.{◌≤◌, ◌^◌, All, length, Answered, complements, Line, pairs}
use Rattle.posiform_check.proofs.limits.pairs_of.Given as goal

-- the products so far and those of the lines that are left are the whole
abbrev pub invariant-loop-line : goal.invariant-loop-line
invariant-loop-line l = record {
  counted : Answered (λ (k : Line). 2 ^ complements k.literals) l.total l.line-iterator
      (pairs l.lines);
  few : All (λ (k : Line). length k.literals ≤ 8) l.line-iterator;
}
