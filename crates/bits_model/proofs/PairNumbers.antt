-- The number of a pair tells both of its nodes.
use Rattle.bits_model.proofs.Common.{◌≡◌, ◌/◌, ◌%◌, ◌^◌, arith, pair_number, PairsHaveNumbers}

pub pair_of_number : PairsHaveNumbers
pair_of_number e low =
    let first : pair_number e / 2 ^ 32 ≡ e.first = omega (arith, low) in
    let second : pair_number e % 2 ^ 32 ≡ e.second = omega (arith, low) in
    λ k. record { first = first k; second = second k; weight = e.weight }
