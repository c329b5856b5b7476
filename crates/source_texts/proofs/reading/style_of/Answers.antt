use Rattle.source_texts.proofs.Common.{ap, sym, style_of}
use Rattle.source_texts.proofs.reading.style_of.Goals as goal

pub returns-in-Wbo : goal.returns-in-Wbo
returns-in-Wbo c = ap style_of (sym c.in-Wbo.is)
