-- The state that the steps extend an assignment to has the least energy of those that decode to it.
use Rattle.model_pipeline.proofs.Common.{nat_tests, ◌≡◌, pos, Bool, List, length, take, sym, ap, ◌∙◌, subst, arith, None, IfOk, Result, take-take, BitsLink, first_bits, Extends, ExtendsLeast, figures_after, least-trans, Choices, Normal, High, ProblemContent, form_of, IsNormal, limit_fault, TableContent, figures, penalty_extends, multilinear_extends, mono_reaches, rosen_reaches, flat_keeps, flat_reaches, low_terms_of, quad_by, terms_of, low_extension, extension_by, extension_of, ExtendsLeastBy, IsLeastExtension, LowFits, ◌≤◌, ℕ, take-map, Kind, Written, read_off, read_off_the_chains, FirstAreDecoded, LeastExtends, AreLinks, ReadOffIsDecoded, StepLinks, quad_decoding, steps_decoding, Monomial, Rosenberg}
use Rattle.problem_form.specs.declared.limits.Normal.TheVariants.{Literal, Multilinear}
use Rattle.model_pipeline.proofs.Standing.{problem_has_quad, figures-still, low_keeps, steps, term_link, flat_link, low_link, steps-first}
use Rattle.bits_model.specs.declared.output.Kind.TheVariants.{Qubo, Ising, Qubits}
use Rattle.term_table.specs.Tables as tables
use Rattle.penalty_layer.specs.Penalty as penalty
use Rattle.quad_form.specs.Quads as quads
use Rattle.quad_form.specs.Flat as flat
use Rattle.chain_layer.specs.Image as chains

-- slack bits extend an assignment with the least cost
terms_extend : (normal : Normal) (a : BitsLink) (p : ProblemContent) (x : List Bool)
    → penalty.Fits a p → length x ≡ p.variables
    → ExtendsLeast (form_of p) (tables.form_of (terms_of normal p)) (first_bits a) (figures p) x
    (penalty.extension p x)
terms_extend Literal a p x fits width = penalty_extends a p x fits width
terms_extend Multilinear a p x fits width = multilinear_extends a p x fits width

-- the bits of the new nodes reach the cost
low_reaches : (high : High) (b : BitsLink) (t : TableContent) (x : List Bool) → LowFits high b t
    → length x ≡ t.width
    → Extends (tables.form_of t) (tables.form_of (low_terms_of high t)) (first_bits b) (pos 1) (pos 0)
    x (low_extension high t x)
low_reaches Monomial b t x fits width = mono_reaches b t x fits width
low_reaches Rosenberg b t x fits width = rosen_reaches b t x fits width

module _ (normal : Normal) (high : High) (p : ProblemContent) where
  extends_by_steps : (a b c : BitsLink) (x : List Bool) → penalty.Fits a p
      → LowFits high b (terms_of normal p) → flat.Fits c (low_terms_of high (terms_of normal p))
      → length x ≡ p.variables → ExtendsLeastBy normal high p x (extension_by normal high p x)
  extends_by_steps a b c x fits_a fits_b fits_c width =
      let t = terms_of normal p in
      let low = low_terms_of high t in
      let f = form_of p in
      let g = quads.form_of (quad_by normal high p) in
      let y = extension_by normal high p x in
      let slack = terms_extend normal a p x fits_a width in
      let reached = low_reaches high b t (penalty.extension p x) fits_b slack.width in
      let middle = least-trans (low_keeps high b t fits_b) slack reached in
      let last = flat_reaches c low y fits_c reached.width in
      let whole = least-trans (flat_keeps c low fits_c) middle last in
      let still : figures_after (figures_after (figures p) (pos 1) (pos 0)) (pos 1) (pos 0) ≡ figures p =
      ap (λ n. figures_after n (pos 1) (pos 0)) (figures-still (figures p)) ∙ figures-still (figures p) in
      let least : ExtendsLeast f g (steps a b c) (figures p) x y =
      subst (λ n. ExtendsLeast f g (steps a b c) n x y) still whole in
      let alike = steps-first normal high p a b c fits_a fits_b in
      record {
        width = least.width;
        decodes = sym (alike y) ∙ least.decodes;
        scaled = least.scaled;
        least = λ z w same. least.least z w (alike z ∙ same);
      }

-- by the steps that a command chooses, where the problem is within their limits
pub least_by : (choices : Choices) (p : ProblemContent) (x y : List Bool) → IsNormal p
    → limit_fault choices.normal p ≡ None → length x ≡ p.variables → y ≡ extension_of choices p x
    → IsLeastExtension choices p x y
least_by choices p x y normal within width same =
    let on = problem_has_quad choices.normal choices.high p normal within in
    let a = term_link choices.normal choices.high p normal on in
    let b = low_link choices.high (terms_of choices.normal p) on in
    let c = flat_link choices.high (terms_of choices.normal p) on in
    subst (IsLeastExtension choices p x) (sym same)
    (extends_by_steps choices.normal choices.high p a.0 b.0 c.0 x a.1 b.1 c.1 width)

-- what is true of every value is true of a result's
pub if_ok-always : {T E : Type 0} (r : Result T E) {P : T → Type 0} → ((y : T) → P y) → IfOk r P
if_ok-always r f = grind (arith, nat_tests)

-- What is read off a state of a model is what the decoders of the steps give in a row.

module _ (choices : Choices) (p : ProblemContent) (m : Written) (links : StepLinks)
    (few : m.variables ≤ p.variables) (fits : AreLinks choices p m links) where
  -- the first bits of what the decoders to a quadratic form give are those of its state
  first_of : (y : List Bool)
      → take m.variables ((quad_decoding links).decoded y) ≡ take m.variables y
  first_of y = grind (arith, nat_tests, steps-first, take-take)

  pub decoded_by : (kind : Kind) (y : List Bool) → read_off kind m.variables m.chains y
      ≡ take m.variables ((steps_decoding kind links).decoded y)
  decoded_by Qubo y = sym (first_of y)
  decoded_by Ising y = sym (first_of y)
  decoded_by (Qubits graph) y =
      ap (λ cs. read_off (Qubits graph) m.variables cs y) (sym fits.chains)
      ∙ read_off_the_chains links.chains graph m.variables y
      ∙ sym (first_of ((chains.decoding links.chains).decoded y))

pub read_off_is_decoded : ReadOffIsDecoded
read_off_is_decoded choices p m links few fits y = decoded_by choices p m links few fits m.kind y

-- ---- with more variables

first_read : (kind : Kind) (own variables : ℕ) (chains : List (List ℕ)) (y : List Bool)
    → own ≤ variables → read_off kind own chains y ≡ take own (read_off kind variables chains y)
first_read kind own variables chains y few = grind (arith, nat_tests, take-take, take-map)

pub first_are_decoded : FirstAreDecoded
first_are_decoded m variables y few = grind (arith, nat_tests, first_read)

pub least_extends : LeastExtends
least_extends f m variables x y same extends least = grind (arith, nat_tests)
