use Rattle.chain_layer.proofs.Written.{image_fits_output, image_is_joined, read_off_the_chains}
use Rattle.chain_layer.proofs.laws.laws_of_images.Goals as goal

pub returns : goal.returns
returns c = record {
  fits = image_fits_output;
  joined = image_is_joined;
  read_off = read_off_the_chains;
}
