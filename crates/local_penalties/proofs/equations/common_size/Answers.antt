use Rattle.local_penalties.proofs.Common.{◌≡◌, subst, cond, rules, slice_get, list_all, size, true, false, common_size}
use Rattle.std.specs.Option.{option_map_or}
use Rattle.local_penalties.proofs.LocalSteps.{common-sized}
use Rattle.local_penalties.proofs.Sizes.{has_size}
use Rattle.local_penalties.proofs.equations.common_size.Goals as goal

pub returns-then-have_size : goal.returns-then-have_size
returns-then-have_size c =
    let ts = c.args.products in
    let n = c.first_size-size.result in
    let first : n ≡ option_map_or size (slice_get ts 0) 0 = search rules in
    let all : list_all (has_size n) ts ≡ true = search rules in
    subst (λ b. cond b n 0 ≡ common_size ts) all (common-sized n ts first)

pub returns-else-have_size : goal.returns-else-have_size
returns-else-have_size c =
    let ts = c.args.products in
    let n = c.first_size-size.result in
    let first : n ≡ option_map_or size (slice_get ts 0) 0 = search rules in
    let all : list_all (has_size n) ts ≡ false = search rules in
    subst (λ b. cond b n 0 ≡ common_size ts) all (common-sized n ts first)
