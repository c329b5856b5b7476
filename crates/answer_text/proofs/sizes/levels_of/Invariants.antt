use Rattle.answer_text.proofs.Common.{◌≡◌, fold, max, min, reduce, sizes}
use Rattle.answer_text.proofs.Levels.{least_from}
use Rattle.answer_text.proofs.sizes.levels_of.Given as goal

-- the levels so far, and those of the entries that are left, are those of all
abbrev pub invariant-loop-entry : goal.invariant-loop-entry
invariant-loop-entry l = record {
  least : least_from l.levels.least (sizes l.entry-iterator) ≡ reduce min (sizes l.entries);
  greatest : fold max l.levels.greatest (sizes l.entry-iterator) ≡ fold max 0 (sizes l.entries);
}
