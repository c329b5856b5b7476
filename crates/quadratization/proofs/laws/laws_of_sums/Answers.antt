use Rattle.quadratization.proofs.Common.{arith, quad_total-image, quad_size-image, size-image, IsLow-image, low_of, table_of, total-low_of}
use Rattle.quadratization.proofs.AtOnce.{sums_give_image, image-quad, sum_is_image, image_has_sums}
use Rattle.quadratization.proofs.laws.laws_of_sums.Goals as goal

pub returns : goal.returns
returns c = record {
  parts = sums_give_image;
  closed = sum_is_image;
  has = image_has_sums;
  quad = image-quad;
  total = λ t additions.
      omega (arith, quad_total-image (low_of t) (IsLow-image (table_of t)), total-low_of t additions);
  size = λ t. omega (arith, quad_size-image (low_of t) (IsLow-image (table_of t)), size-image (table_of t));
}
