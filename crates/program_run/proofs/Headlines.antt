-- What answers a command is what it asks for, however it was made.
use Rattle.program_run.proofs.Common.{nat_tests, arith, ◌≡◌, ℕ, ℤ, Bool, List, length, Ok, Option, Result, Source, Written, NamedFiles, Taken, Format, Slack, Ask, Command, Request, most_of, form_said, names_of, source_of, Status, ties_of, form_in, OnWriting, Last, format_in, Delivers, IsAnswer, IsAskedOf, IsExtended, IsExtension, IsSaidTo, IsHeadlined}
use Rattle.program_run.proofs.Answering.{planned_is}

-- ---- the source

-- a text that says a source says its form
form_of_source : (slack : Slack) (format : Format) (text : List ℕ) (s : Source)
    → source_of slack format text ≡ Ok s → form_said format text ≡ Ok s.form
form_of_source slack format text s e = grind (arith, nat_tests)

-- ---- what is asked

module _ (s : Source) (most : Option ℤ) (names : Option (List (List ℕ))) (m : Written)
    (P Q : List Bool → List ℕ → Type 0) (so : (x : List Bool) (text : List ℕ) → P x text → Q x text)
  where
    -- what is asked is asked still where what an assignment extends to is as Q says it
    asked_so : (ask : Ask) (last : Last) (text : List ℕ) → IsAskedOf ask s most names P m last text
        → IsAskedOf ask s most names Q m last text
    asked_so ask last text is = grind (arith, nat_tests)

-- ---- the headline

headline_of : (held : NamedFiles) (command : Command) (text : List ℕ) → IsAnswer held command text
    → IsHeadlined held command text
headline_of held command text answer =
    let format = format_in command.origin in
    let most = most_of command.bound in
    let s = answer.source in
    let m = answer.model in record {
      written = answer.from.text;
      found = answer.from.found;
      source = s;
      says = form_of_source command.slack format answer.from.text s answer.from.says;
      small = answer.small;
      base = answer.plan.options.target;
      placed = (planned_is held command answer.plan answer.planned).placed;
      nodes = length (form_in answer.plan).fields;
      model = m;
      stands = answer.stands;
      asked = record {
        last = answer.asked.last;
        read = answer.asked.read;
        said = asked_so s most (names_of format answer.from.text) m
            (IsExtended command s answer.plan m)
            (IsExtension (ties_of answer.plan.options.target) command s m)
            (λ x t is. is.extension) command.ask answer.asked.last text answer.asked.said;
      };
    }

headline_said : (held : NamedFiles) (said : Result Request ℕ) (text : List ℕ)
    → IsSaidTo said (IsAnswer held) text → IsSaidTo said (IsHeadlined held) text
headline_said held said text is = grind (arith, nat_tests, headline_of)

pub headline_delivered : (asked : Result Request ℕ) (told : Option NamedFiles) (status : Status)
    (old new : Taken) → Delivers IsAnswer asked told status old new
    → Delivers IsHeadlined asked told status old new
headline_delivered asked told status old new is = grind (arith, nat_tests, headline_said)

-- what holds once the writing has begun holds of what follows from it
pub writing_so : {P Q : Type 0} (status : Status) → (P → Q) → OnWriting status P
    → OnWriting status Q
writing_so status so is = grind (arith, nat_tests)
