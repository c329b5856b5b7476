use Rattle.source_texts.proofs.Readings.{relaxes_stood_for}
use Rattle.source_texts.proofs.Standing.{problem_stands}
use Rattle.source_texts.proofs.laws.problems_stand_for_sources.Goals as goal

pub returns-clause-stands : goal.returns-clause-stands
returns-clause-stands c = problem_stands

pub returns-clause-relaxed : goal.returns-clause-relaxed
returns-clause-relaxed c = relaxes_stood_for
