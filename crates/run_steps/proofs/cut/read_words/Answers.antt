use Rattle.std.proofs.Common.{string_bytes}
use Rattle.run_steps.proofs.Lemmas.{begun_held}
use Rattle.run_steps.proofs.Ended.{ended_to_end, ended_too_long, ended_fault, ended_calm, ended_taken}
use Rattle.run_steps.proofs.cut.read_words.Goals as goal

pub cut_begun-requires-clause-front : goal.cut_begun-requires-clause-front
cut_begun-requires-clause-front g c =
    let begun = c.in-Ok.ensures in
    rw (begun.held, begun.named) begun.rest

pub returns-in-Ok-clause-words : goal.returns-in-Ok-clause-words
returns-in-Ok-clause-words g c =
    let begun = c.in-Ok.ensures in
    rw (begun.held, begun.named) at c.cut_begun.ensures.words

pub returns-in-Ok-clause-to_end : goal.returns-in-Ok-clause-to_end
returns-in-Ok-clause-to_end g c = ended_to_end _ _ (g.F.Files.counts c.cut_begun.new.files) _ c.cut_begun.ensures.end

pub returns-in-Ok-clause-no_end : goal.returns-in-Ok-clause-no_end
returns-in-Ok-clause-no_end g c = ended_too_long _ _ (g.F.Files.counts c.cut_begun.new.files) _ c.cut_begun.ensures.end

pub returns-in-Ok-clause-fault : goal.returns-in-Ok-clause-fault
returns-in-Ok-clause-fault g c =
    rw c.in-Ok.ensures.faults at (ended_fault _ _ (g.F.Files.counts c.cut_begun.new.files) _ c.cut_begun.ensures.end)

pub returns-in-Ok-clause-calm : goal.returns-in-Ok-clause-calm
returns-in-Ok-clause-calm g c =
    rw c.in-Ok.ensures.faults at (ended_calm _ _ (g.F.Files.counts c.cut_begun.new.files) _ c.cut_begun.ensures.end)

pub returns-in-Ok-clause-unheld : goal.returns-in-Ok-clause-unheld
returns-in-Ok-clause-unheld g c =
    begun_held _ (g.F.Files.held c.args.files.now) (string_bytes c.args.name) _ _ c.in-Ok.ensures.rest

pub returns-in-Ok-clause-at_most : goal.returns-in-Ok-clause-at_most
returns-in-Ok-clause-at_most g c = (ended_taken _ _ (g.F.Files.counts c.cut_begun.new.files) _ c.cut_begun.ensures.end).0

pub returns-in-Ok-clause-too_long : goal.returns-in-Ok-clause-too_long
returns-in-Ok-clause-too_long g c = (ended_taken _ _ (g.F.Files.counts c.cut_begun.new.files) _ c.cut_begun.ensures.end).1

pub returns-in-Ok-clause-longer : goal.returns-in-Ok-clause-longer
returns-in-Ok-clause-longer g c =
    let begun = c.in-Ok.ensures in
    rw (begun.held, begun.named) at c.cut_begun.ensures.longer
