-- What is made of a plan.
use Rattle.program_run.proofs.Common.{nat_tests, ◌≡◌, ◌≤◌, ◌^◌, arith, Written, weight_total, Made, Plan, IsMadeBy, IsModelled}

pub modelled : (plan : Plan) (made : Made) → IsMadeBy plan made → IsModelled plan made.model
modelled plan made is = record {
  can_stand = is.can_stand;
  by = is.by;
  stands = is.stands;
  made = is.built;
}

-- ---- its numbers

pub small_weights : (plan : Plan) (m : Written) → IsModelled plan m
    → weight_total m.entries ≤ 2 ^ 121
small_weights plan m made = grind (arith, nat_tests)

pub own_variables : (plan : Plan) (m : Written) → IsModelled plan m
    → m.variables ≡ plan.read.variables
own_variables plan m made = grind (arith, nat_tests)
