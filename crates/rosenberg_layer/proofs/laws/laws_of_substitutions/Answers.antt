use Rattle.rosenberg_layer.proofs.Common.{zero, suc, run_keeps}
use Rattle.rosenberg_layer.proofs.Ends.{image-low, image-next, substituted-takes, IsLow-image, nodes-few}
use Rattle.rosenberg_layer.proofs.laws.laws_of_substitutions.Goals as goal

pub returns : goal.returns
returns c = record {
  keeps = λ t sound. run_keeps (suc zero) t sound;
  stay = image-low;
  next = image-next;
  end = substituted-takes;
  low = IsLow-image;
  few = nodes-few;
}
