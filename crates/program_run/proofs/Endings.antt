-- How the steps of a command end.
use Rattle.program_run.proofs.Common.{nat_tests, ◌≡◌, ℕ, arith, Ok, Err, Some, Result, refl, sym, ◌∙◌, Option, Written, Counts, NamedFiles, Request, Command, name_of, model_files, last_files, Plan, Status, IsReading, IsRefusal, IsDoneOrFault, IsUsageOf, CountsReadFault, faults_counted, Steps, Last, Refuses, AreFilesAsked, IsEndOf, IsEnd, Ends, MeetsOutcome, IsModelled, EndsOf, Done, NotEmbedded}
use Rattle.command_words.specs.declared.commands.Request.TheVariants as requests
use Rattle.program_run.proofs.OneModel.{one_model}

-- ---- of a plan

-- its last step refuses
pub last_refuses : (status : Status) (plan : Plan) (last : Written → Steps Last)
    (m : Written) → IsModelled plan m → IsReading status → Refuses status (last m)
    → EndsOf status plan last
last_refuses status plan last m made refusal is = grind (arith, nat_tests)

-- all is done
pub last_gives : (plan : Plan) (last : Written → Steps Last) (m : Written)
    (x : Last) → IsModelled plan m → (last m).end ≡ Some (Ok x) → EndsOf Done plan last
last_gives plan last m x made e = (made.can_stand, (m, made.by, (x, e)))

-- ---- of all steps

-- the plan stands, and its end is that of all
pub plan_ends : (status : Status) (plans : Steps Plan) (last : ℕ → Written → Steps Last)
    (plan : Plan) → plans.end ≡ Some (Ok plan) → EndsOf status plan (last plan.read.variables)
    → Ends status plans last
plan_ends status plans last plan e is = grind (arith, nat_tests)

-- the plan is refused
pub plan_refused : (status : Status) (plans : Steps Plan) (last : ℕ → Written → Steps Last)
    → IsRefusal status → Refuses status plans → Ends status plans last
plan_refused status plans last refusal is = grind (arith, nat_tests)

-- ---- there is one end

both : {A : Type 0} (step : Option (Result A Status)) (x : A) (status : Status)
    → step ≡ Some (Ok x) → step ≡ Some (Err status) → ⊥
both step x status e f = let same = sym e ∙ f in absurd cc

plan_done : (plan : Plan) (last : Written → Steps Last) (status : Status)
    → IsEndOf plan last Done → IsEndOf plan last status → status ≡ Done
plan_done plan last Done done is = refl
plan_done plan last (NotEmbedded fault) done is = absurd (is.1 done.0)
plan_done plan last status done is = absurd (grind (arith, nat_tests, one_model, both))

-- where all is done, there is no other end
pub one_end : (end : Option (Result Plan Status)) (last : ℕ → Written → Steps Last)
    (status : Status) → IsEnd end last Done → IsEnd end last status → status ≡ Done
one_end end last status done is = grind (arith, nat_tests, plan_done)

-- a status that is neither a fault nor want of memory is Done where all is done
pub done_is_met : (plans : Steps Plan) (last : ℕ → Written → Steps Last)
    (status : Status) → IsEnd plans.end last Done → Ends status plans last → IsDoneOrFault status
done_is_met plans last status done is = grind (arith, nat_tests, one_end)

-- so it is of what is asked
pub done_is_complete : (held : NamedFiles) (said : Result Request ℕ) (status : Status)
    → MeetsOutcome held said status → MeetsOutcome held said Done → IsDoneOrFault status
done_is_complete held said status meets done = grind (arith, nat_tests, done_is_met)

-- ---- faults are counted

-- a command's status is a fault of its files exactly where the store counted one
pub command_counted : (command : Command) (status : Status) (a b : Counts)
    → IsUsageOf status (Ok (requests.Command command))
    → AreFilesAsked (requests.Command command) status a b → CountsReadFault status a.faults b.faults
command_counted command status a b usage files =
    faults_counted (name_of command) (model_files command) (last_files command) status
    (requests.Command command) a b usage files
