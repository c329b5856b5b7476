use Rattle.sample_text.proofs.EachRead.{each_sample_is_read}
use Rattle.sample_text.proofs.laws.laws_of_samples.Goals as goal

pub returns : goal.returns
returns c = record { read = each_sample_is_read }
