-- What a command wants of what was read stands for the source and costs as it does.
use Rattle.program_run.proofs.Common.{nat_tests, arith, ⊤, ◌≡◌, ℕ, ℤ, List, None, Ok, Option, refl, subst, ◌∙◌, ap, sym, Source, WboContent, Format, Slack, Command, PenaltyScope, most_of, Read, AreEnoughIn, CostsAs, StandsBounded, StandsFor, bounded, bounded_read, penalized, problem_of, penalized_costs, penalized_stands, slacked_costs, slacked_stands, prepared, wanted, Global, Local}
use Rattle.command_words.specs.declared.commands.Format.TheVariants.{Wbo}

pub stands_wanted : (s : Source) (command : Command) (own : Read) → StandsBounded s own
    → AreEnoughIn command.penalty (wanted command own)
    → StandsFor command.penalty (bounded (most_of command.bound) s) (wanted command own)
stands_wanted s command own stands enough =
    let most = most_of command.bound in
    penalized_stands command.penalty (bounded most s) (prepared command own)
    (slacked_stands command.slack s own stands most) enough

pub costs_wanted : (s : Source) (command : Command) (own : Read)
    → ((most : Option ℤ) → CostsAs most s (bounded_read most own))
    → CostsAs (most_of command.bound) s (wanted command own)
costs_wanted s command own costs =
    let most = most_of command.bound in
    penalized_costs command.penalty most s (prepared command own)
    (slacked_costs command.slack most s own (costs most))

penalized_names : (scope : PenaltyScope) (r : Read) → (penalized scope r).names ≡ r.names
penalized_names Global r = refl
penalized_names Local r = refl

pub wanted_names : (command : Command) (own : Read) → (wanted command own).names ≡ own.names
wanted_names command own = penalized_names command.penalty (prepared command own)

-- ---- soft constraints

-- texts of one format alone have soft constraints
abbrev pub HasSoft : Format → Option WboContent → Type 0
HasSoft Wbo soft = ⊤
HasSoft format soft = soft ≡ None

pub soft_read : (slack : Slack) (format : Format) (text : List ℕ) (r : Read)
    → problem_of slack format text ≡ Ok r → HasSoft format r.soft
soft_read slack format text r e = grind (arith, nat_tests)

penalized_soft : (scope : PenaltyScope) (r : Read) → (penalized scope r).soft ≡ r.soft
penalized_soft Global r = refl
penalized_soft Local r = refl

pub soft_wanted : (format : Format) (command : Command) (own made : Read)
    → wanted command own ≡ made → HasSoft format own.soft → HasSoft format made.soft
soft_wanted format command own made given has =
    subst (HasSoft format)
    (sym (penalized_soft command.penalty (prepared command own)) ∙ ap (λ (r : Read). r.soft) given) has
