-- What is asked of the model of a command's plan answers the command.
use Rattle.program_run.proofs.Common.{nat_tests, ◌≡◌, ℕ, ℤ, pos, ◌*ℤ◌, ◌≤ℤ◌, Bool, List, length, take, Ok, Some, None, refl, sym, ap, ◌∙◌, subst, arith, ints, by_lt_z, Option, NamedFiles, IsOf, Source, energy, times-lt, Relaxes, Written, IsWellFormed, form_of, decoding_of, Demand, Faithful, HasChains, IsLeastState, least_states_tell, length-read_off, Choices, FitsFields, model_text, IsTextOf, texts_tell_models, decoding_text, extension_text, proof_text, Format, Ask, ChainStrength, most_of, Command, PenaltyScope, Read, AreEnoughIn, CostsAs, KeepsSoft, StandsFor, bounded, carried, names_of, names_read, problem_stands, problem_costs, ising_of, ExtendsTo, IsLeastTo, IsMadeOf, Plan, ties_of, demand_of, form_in, StandsOn, Last, Bits, InOrder, Several, gives, checking, placing, planning, last_step, format_in, IsSmall, bounded_cost, judgement_by, said_cost, IsExtendedBy, IsModelled, IsModelText, IsSolvedBy, IsTold, IsToldOf, OfState, asked_width, proving, stating, IsMadeText, EveryStateStands, EveryStateStays, judgement_of, Extends, IsAnswer, IsAskedOf, IsDecoded, IsExtended, IsLeastAsked, IsLeastExtension, IsLeastWhereWhole, IsModelFor, IsProved, IsSolved, TellsSource, bits_were, bound, Decode, Extend, Prove, Choi, Cut, Global, Local, ◌>>=◌, ModelTarget}
use Rattle.command_words.specs.declared.commands.Make.{Make}
use Rattle.command_words.specs.declared.commands.Ask.TheVariants as asks
use Rattle.problem_form.specs.Problems as problems
use Rattle.command_words.specs.declared.commands.Format.TheVariants as formats
use Rattle.model_pipeline.specs.Models as models
use Rattle.model_pipeline.specs.declared.options.ModelTarget.TheVariants.{Nodes, Qubits}
use Rattle.program_run.proofs.Scored.{alike_where_wide, scanned_widths, scored_alike}
use Rattle.program_run.proofs.SmallCosts.{said_is_small}
use Rattle.program_run.proofs.Wanted.{HasSoft, costs_wanted, soft_read, soft_wanted, stands_wanted, wanted_names}
use Rattle.program_run.proofs.Taken.{source_is_taken}
use Rattle.program_run.proofs.Widths.{has_few_nodes}
use Rattle.program_run.proofs.Asked.{IsProvedState, stated_width, proved_is, proved_least}
use Rattle.program_run.proofs.Stood.{alike, model_stands, state_stays}

-- ---- what a plan is of

-- the plan has what was read and chosen
pub record IsPlanned (held : NamedFiles) (command : Command) (plan : Plan)
    : Type 0 where
  pub checked : (checking held command).end ≡ Some (Ok plan.read)
  pub placed : (placing held command.target).end ≡ Some (Ok plan.options.target)
  pub unit : plan.options.unit ≡ command.unit

pub planned_is : (held : NamedFiles) (command : Command) (plan : Plan)
    → (planning held command).end ≡ Some (Ok plan) → IsPlanned held command plan
unfolding planning
planned_is held command plan e = grind (arith, nat_tests, bound)

-- ---- the model stands for the source

stands_on : (base : ModelTarget) (choices : Choices) (command : Command) (s : Source) (r : Read)
    (m : Written) → StandsFor command.penalty s r
    → StandsOn base choices command.unit r.variables r.problem m
    → IsModelFor base command (length (ising_of choices r.problem).fields) s m
stands_on (Nodes target) choices command s r m stands made =
    let nodes = length (ising_of choices r.problem).fields in
    model_stands command s r m stands (Nodes target) nodes (record {
      fits = made.fits;
      bounded = made.bounded;
      well_formed = made.well_formed;
      variables = made.variables;
      scale = made.scale;
      threshold = made.threshold;
      unit = made.unit;
      stands = made.relaxes command.penalty stands.penalties;
    }) made.kind refl (grind (arith, nat_tests))
stands_on (Qubits site) choices command s r m stands made =
    let nodes = length (ising_of choices r.problem).fields in
    model_stands command s r m stands (Qubits site) nodes (record {
      fits = made.fits;
      bounded = made.bounded;
      well_formed = made.well_formed;
      variables = made.variables;
      scale = made.scale;
      threshold = made.threshold;
      unit = made.unit;
      stands = made.stands command.penalty stands.penalties;
    }) made.kind refl
    (subst (λ k. HasChains k (demand_of command.unit (Qubits site) nodes) m) (sym made.kind)
    made.embedded)

stays_on : (base : ModelTarget) (choices : Choices) (command : Command) (s : Source) (r : Read)
    (m : Written) → StandsFor command.penalty (bounded (most_of command.bound) s) r
    → CostsAs (most_of command.bound) s r → (format : Format) → HasSoft format r.soft
    → StandsOn base choices command.unit r.variables r.problem m
    → EveryStateStays (ties_of base) format (bounded (most_of command.bound) s) m
stays_on (Nodes target) choices command s r m stands costs format soft made =
    state_stays command.penalty (most_of command.bound) s r m stands costs made.variables Choi format soft
    (made.relaxes command.penalty stands.penalties) made.stays
stays_on (Qubits site) choices command s r m stands costs format soft made =
    state_stays command.penalty (most_of command.bound) s r m stands costs made.variables site.ties format
    soft (made.stands command.penalty stands.penalties) made.stays

-- ---- what is told of it

text_is_its : (m : Written) → IsWellFormed m → FitsFields m → IsTextOf m (model_text m)
text_is_its m formed fits = record {
  says = refl;
  only = λ n other fit same. texts_tell_models n m other formed fit fits same;
}

tells_source : (s : Source) (demand : Demand) (m : Written) (state : List Bool)
    → Faithful s demand m → IsLeastState (form_of m) state → TellsSource s m state
tells_source s demand m state faithful least = grind (arith, nat_tests, least_states_tell)

unscaled-le : (a v w : ℤ) → pos 1 ≤ℤ a → (a *ℤ v) ≤ℤ (a *ℤ w) → v ≤ℤ w
unscaled-le a v w p h =
    by_lt_z w v (λ lt. absurd (omega (arith, ints, times-lt a w v p lt, h))) (λ le. le)

-- where every state stands for the source, one whose energy is the whole cost is a least one
least_where_whole : (s : Source) (m : Written) (x state : List Bool)
    → Relaxes s.form (form_of m) (decoding_of m) m.unit m.figures → Extends s m x state
    → IsLeastWhereWhole s m x state
least_where_whole s m x state relaxes extends v whole other w decodes =
    let lies = relaxes.bound other w v (ap s.form.cost decodes ∙ whole) in
    unscaled-le m.unit (energy (form_of m) state) (energy (form_of m) other) relaxes.unit
    (subst (λ e. e ≤ℤ (m.unit *ℤ energy (form_of m) other)) (sym (extends.scaled v whole)) lies)

module _ (command : Command) (plan : Plan) (s : Source) (m : Written)
    (names : Option (List (List ℕ))) (made : IsModelled plan m)
    (stands : StandsFor command.penalty (bounded (most_of command.bound) s) plan.read)
    (costs : CostsAs (most_of command.bound) s plan.read)
    (soft : HasSoft (format_in command.origin) plan.read.soft) (named : names ≡ plan.read.names)
    (its : IsModelFor plan.options.target command (length (form_in plan).fields)
    (bounded (most_of command.bound) s) m) where
  -- the most that an assignment may cost
  abbrev most : Option ℤ
  most = most_of command.bound

  own : m.variables ≡ s.form.bits
  own = its.faithful.stated.variables

  -- what a state decodes to has the width of the source
  decoded_width : (y : List Bool) → length y ≡ m.nodes → IsOf s.form ((decoding_of m).decoded y)
  decoded_width y w = length-read_off m y m.kind its.faithful.well_formed.kind w ∙ own

  -- and costs what the source says
  decoded_cost : (y : List Bool) → length y ≡ m.nodes
      → said_cost plan.read ((decoding_of m).decoded y) ≡ s.form.cost ((decoding_of m).decoded y)
  decoded_cost y w = costs.same ((decoding_of m).decoded y) (decoded_width y w)

  -- and with the bound what the bounded source says
  decoded_bounded : (y : List Bool) → length y ≡ m.nodes
      → bounded_cost plan.read ((decoding_of m).decoded y)
      ≡ (bounded most s).form.cost ((decoding_of m).decoded y)
  decoded_bounded y w = costs.told ((decoding_of m).decoded y) (decoded_width y w)

  solved : (order : List ℕ) (text : List ℕ) → IsSolvedBy order plan.read m text
      → IsSolved order s most names m text
  solved order text told = grind (arith, nat_tests, tells_source, decoded_bounded)

  proved : (bits : List Bool) (text : List ℕ) → IsProvedState m bits
      → text ≡ proof_text (energy (form_of m) bits) ((decoding_of m).decoded bits)
      plan.read.names (bounded_cost plan.read ((decoding_of m).decoded bits))
      → IsProved s most names m bits text
  proved bits text is told =
      let x = (decoding_of m).decoded bits in
      let value = energy (form_of m) bits in
      let demand = demand_of command.unit plan.options.target (length (form_in plan).fields) in
      let least = proved_least m bits is in
      record {
        least = least;
        tells = tells_source (bounded most s) demand m bits its.faithful least;
        said = told
            ∙ ap (λ (n : Option (List (List ℕ))). proof_text value x n (bounded_cost plan.read x))
            (sym named) ∙ ap (λ c. proof_text value x names c) (decoded_bounded bits is.width);
      }

  decoded : (bits : List Bool) (text : List ℕ) → length bits ≡ m.nodes
      → text ≡ decoding_text ((decoding_of m).decoded bits) plan.read.names
      (said_cost plan.read ((decoding_of m).decoded bits)) (energy (form_of m) bits)
      → IsDecoded s names m bits text
  decoded bits text w told = grind (arith, nat_tests, decoded_cost)

  -- ---- an assignment

  -- the first bits of what a state decodes to with all variables of the problem
  first_bits : (y : List Bool) → length y ≡ m.nodes → (decoding_of m).decoded y
      ≡ take s.form.bits ((models.decoding_to plan.read.problem.variables m).decoded y)
  first_bits y w =
      alike command.penalty (bounded most s) plan.read m stands (own ∙ sym stands.variables) y w

  source_extends : (x state : List Bool) → IsOf s.form x
      → ExtendsTo plan.read.problem.variables (problems.form_of plan.read.problem) m
      (carried plan.read.soft x) state → Extends (bounded most s) m x state
  source_extends x state w extends = record {
    width = extends.width;
    decodes = first_bits state extends.width ∙ ap (take s.form.bits) extends.decodes
        ∙ costs.begins x w;
    scaled = λ v whole. extends.scaled v (costs.carries x w ∙ whole);
  }

  -- without soft constraints the problem has the source's variables
  plain_least : (x state : List Bool) → IsOf s.form x → plan.read.soft ≡ None
      → IsLeastTo plan.read.problem.variables m (carried plan.read.soft x) state
      → IsLeastExtension m x state
  plain_least x state w none least other wide decodes = grind (arith, nat_tests)

  least_by : (ties : ChainStrength) (scope : PenaltyScope) (f : Format) (x state : List Bool)
      → IsOf s.form x → HasSoft f plan.read.soft → EveryStateStands ties scope (bounded most s) m
      → Extends (bounded most s) m x state
      → (ties ≡ Choi → IsLeastTo plan.read.problem.variables m (carried plan.read.soft x) state)
      → IsLeastAsked ties scope f (bounded most s) m x state
  least_by Cut scope f x state w is every extends least = tt
  least_by Choi Local formats.Wbo x state w is every extends least = tt
  least_by Choi Global formats.Wbo x state w is every extends least =
      least_where_whole (bounded most s) m x state every extends
  least_by Choi scope f x state w is every extends least = plain_least x state w is (least refl)

  -- the texts that the plan's own steps make
  abbrev ByPlan : List Bool → List ℕ → Type 0
  ByPlan x text = IsExtended command s plan m x text

  extended : (x : List Bool) (text : List ℕ) → IsOf s.form x
      → IsExtendedBy plan.options.choices plan.read m x text → ByPlan x text
  extended x text w told =
      let extends = source_extends x told.state w told.extends in
      record {
        extension = record {
          state = told.state;
          extends = extends;
          least = least_by (ties_of plan.options.target) command.penalty (format_in command.origin) x told.state w
              soft its.every extends
              (λ choi. told.least plan.read.variables
              (subst (λ ties. IsMadeOf ties plan.read.variables plan.options.choices plan.read.problem m) choi
              made.made));
          said = told.said ∙ ap (λ c. extension_text told.state c (energy (form_of m) told.state))
              (costs.same x w);
        };
        exact = told.exact;
      }

  model_asked : (make : Make) (last : Last) (text : List ℕ) → IsModelText make m text
      → IsAskedOf (asks.Make make) s most names ByPlan m last text
  model_asked make last text told = grind (arith, nat_tests, text_is_its)

  -- bits that were read, and proved where a certificate is asked for
  bits_asked : (held : NamedFiles) (name : List ℕ) (of : OfState) (read bits : List Bool)
      (text : List ℕ) → (stating held name (asked_width of plan.read.variables m)).end ≡ Some (Ok read)
      → (proving held of m read).end ≡ Some (Ok bits)
      → IsToldOf of plan.read plan.options.choices m bits text
      → IsAskedOf (asks.State name of) s most names ByPlan m (Bits bits) text
  bits_asked held name Decode read bits text e f told =
      let same : read ≡ bits = cc in
      decoded bits text
      (subst (λ y. length y ≡ m.nodes) same (stated_width held name m.nodes read e)) told
  bits_asked held name Extend read bits text e f told =
      let same : read ≡ bits = cc in
      extended bits text
      (subst (λ x. length x ≡ plan.read.variables) same
      (stated_width held name plan.read.variables read e) ∙ stands.variables) told
  bits_asked held name (Prove certificate) read bits text e f told =
      proved bits text (proved_is held name certificate m read bits e f) told

  -- what the step that reads bits gives
  stepped : (held : NamedFiles) (name : List ℕ) (of : OfState) (last : Last) (text : List ℕ)
      → (last_step held (asks.State name of) plan.read.variables m).end ≡ Some (Ok last)
      → IsTold (asks.State name of) plan.read plan.options.choices m last text
      → IsAskedOf (asks.State name of) s most names ByPlan m last text
  stepped held name of last text e told =
      let read = bound (stating held name (asked_width of plan.read.variables m))
      (λ r. proving held of m r >>= λ bits. gives (Bits bits)) last e in
      let were = bits_were (proving held of m read.0) last read.2 in
      subst (λ l. IsAskedOf (asks.State name of) s most names ByPlan m l text) were.2
      (bits_asked held name of read.0 were.0 text read.1 were.1
      (subst (λ l. IsTold (asks.State name of) plan.read plan.options.choices m l text) (sym were.2) told))

  solved_asked : (order : Option (List ℕ)) (last : Last) (text : List ℕ)
      → IsTold (asks.Solve order) plan.read plan.options.choices m last text
      → IsAskedOf (asks.Solve order) s most names ByPlan m last text
  solved_asked order (InOrder nodes) text told = solved nodes text told
  solved_asked order last text told = absurd told

  -- the states that are read have the model's width
  scored_asked : (held : NamedFiles) (name : List ℕ) (last : Last) (text : List ℕ)
      → (last_step held (asks.Evaluate name) plan.read.variables m).end ≡ Some (Ok last)
      → IsTold (asks.Evaluate name) plan.read plan.options.choices m last text
      → IsAskedOf (asks.Evaluate name) s most names ByPlan m last text
  scored_asked held name (Several states) text e told =
      let wide = scanned_widths held name m.nodes states e in
      scored_alike (judgement_by plan.read m) (judgement_of s m) m plan.read.names names states text
      (sym named) (grind (arith, nat_tests, alike_where_wide, decoded_cost)) told
  scored_asked held name last text e told = absurd told

  asked_of : (held : NamedFiles) (ask : Ask) (last : Last) (text : List ℕ)
      → (last_step held ask plan.read.variables m).end ≡ Some (Ok last)
      → IsTold ask plan.read plan.options.choices m last text
      → IsAskedOf ask s most names ByPlan m last text
  asked_of held (asks.Make make) last text e told = model_asked make last text told
  asked_of held (asks.Solve order) last text e told = solved_asked order last text told
  asked_of held (asks.Evaluate name) last text e told = scored_asked held name last text e told
  asked_of held (asks.State name of) last text e told = stepped held name of last text e told

-- ---- the answer

pub made_answers : (held : NamedFiles) (command : Command) (plan : Plan) (text : List ℕ)
    → (planning held command).end ≡ Some (Ok plan)
    → KeepsSoft plan.read → AreEnoughIn command.penalty plan.read
    → IsMadeText command.ask plan (last_step held command.ask plan.read.variables) text
    → IsAnswer held command text
made_answers held command plan text e kept enough made =
    let planned = planned_is held command plan e in
    let taken = source_is_taken held command plan.read planned.checked in
    let format = format_in command.origin in
    let most = most_of command.bound in
    let slack = command.slack in
    let s = problem_stands slack format taken.text taken.own taken.read in
    let m = made.model in
    let costs = subst (CostsAs most s.0) taken.given (costs_wanted s.0 command taken.own
    (λ bound. problem_costs slack format taken.text taken.own s.0 bound taken.read s.1)) in
    let own_stands = subst (StandsFor command.penalty (bounded most s.0)) taken.given
    (stands_wanted s.0 command taken.own s.2
    (subst (AreEnoughIn command.penalty) (sym taken.given) enough)) in
    let named : names_of format taken.text ≡ plan.read.names =
    names_read slack format taken.text taken.own taken.read ∙ sym (wanted_names command taken.own)
    ∙ ap (λ (r : Read). r.names) taken.given in
    let soft = soft_wanted format command taken.own plan.read taken.given
    (soft_read slack format taken.text taken.own taken.read) in
    let stands_there = subst (λ u. StandsOn plan.options.target plan.options.choices u plan.read.variables plan.read.problem m)
    planned.unit made.made.stands in
    let stands =
    stands_on plan.options.target plan.options.choices command (bounded most s.0) plan.read m own_stands stands_there in
    record {
      source = s.0;
      from = record { text = taken.text; found = taken.found; says = s.1 };
      plan = plan;
      planned = e;
      model = m;
      by = made.made.by;
      stands = stands;
      stays = stays_on plan.options.target plan.options.choices command s.0 plan.read m own_stands costs format soft stands_there;
      small = λ x wide. subst IsSmall (costs.same x wide)
          (said_is_small command.choices.normal plan.read x kept taken.within);
      few = has_few_nodes plan m made.made.can_stand made.made.by made.made.stands;
      asked = record {
        last = made.last;
        read = subst (λ n. (last_step held command.ask n m).end ≡ Some (Ok made.last))
            own_stands.variables made.read;
        said = asked_of command plan s.0 m (names_of format taken.text) made.made own_stands costs
            soft named stands held command.ask made.last text made.read made.told;
      };
    }
