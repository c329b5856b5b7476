use Rattle.wbo_reader.proofs.Relaxing.{extends_after_rewrites}
use Rattle.wbo_reader.proofs.laws.laws_of_extensions.Goals as goal

pub returns : goal.returns
returns c = extends_after_rewrites
