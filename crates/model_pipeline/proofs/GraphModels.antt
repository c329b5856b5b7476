-- What is known of the qubits that there are, and of chains that can stand on them.
use Rattle.model_pipeline.proofs.Common.{◌≡◌, ◌≤◌, ◌<◌, ℕ, ◌^◌, true, List, [], length, refl, arith, nat_tests, IsingContent, IsIsing, Chimera, Graph, HasNumbers, qubits_of, place_of, are_joined-comm, clique_valid, IsValidOn, joined_in-comm, working_clique_valid, Qubits, ChainSource, chains_of, clique_in, fabric_in, graph_in, in_numbers, places_in, listed_fabric, Part, CanStandAt, inr, ℤ, ◌*ℤ◌, ap, sym, subst, ◌∙◌, ints, Figures, UnitChoice, Written, scale_of, Choices, ProblemContent, form_of, upper, figures, QuadContent, IsQuad, coupled, length-fields, image_is_ising, total-image, ChainStrength, Fabric, Site, CanStandBy, AreSmall, IsQubitModelOf, ising_figures, IsQuadratized, IsIsingOf, ising_of, site_chains, IsGraphModelOf, IsFormAt, StandsAt, IsMadeOf}
use Rattle.model_pipeline.specs.declared.site.ChainSource.TheVariants.{Clique, Map}
use Rattle.ising_form.proofs.Images.{size-image}
use Rattle.model_pipeline.proofs.Standing.{ising_figures_are_stated, spins_stand}
use Rattle.model_pipeline.specs.declared.site.Qubits.TheVariants as which
use Rattle.ising_form.specs.Spins as spins
use Rattle.listed_graph.specs.Parts as listed
use Rattle.listed_graph.specs.Parts.{exists_in, joined_in}
use Rattle.listed_graph.specs.laws.ListedJoins as listed_joins
use Rattle.listed_graph.specs.laws.ListedJoins.{exists_in-below}
use Rattle.chimera_graph.specs.Graph as chimeras
use Rattle.std.proofs.Math.Nat.{min-le_right, min-eq_left, le-min}
use Rattle.std.proofs.lemmas.Bool.{and_parts, lt-ltb, ltb-true}
use Rattle.std.specs.Prelude.{Bool, false, ◌&&◌, nat_lt}

-- ---- the qubits

pub sized_in : (qubits : Qubits) → (fabric_in qubits).qubits ≡ qubits_of (graph_in qubits)
sized_in qubits = grind (arith, nat_tests)

-- there are few of them
chimera_few : (graph : Chimera) → chimeras.qubits_of graph ≤ 2 ^ 20
chimera_few graph = grind (arith, nat_tests)

pub few_in : (qubits : Qubits) → (fabric_in qubits).qubits ≤ 2 ^ 20
few_in (which.All graph) = chimera_few graph
few_in (which.Working w) = chimera_few w.graph
few_in (which.Listed parts) = min-le_right (listed.qubits_of parts) (2 ^ 20)

-- the numbers of a graph fit their fields: none of them is greater than the number of qubits
chimera_numbers : (graph : Chimera) → HasNumbers (in_numbers graph)
chimera_numbers graph = grind (arith, nat_tests)

pub numbers_in : (qubits : Qubits) → HasNumbers (graph_in qubits)
numbers_in (which.All graph) = chimera_numbers graph
numbers_in (which.Working w) = chimera_numbers w.graph
numbers_in (which.Listed parts) = omega (arith, few_in (which.Listed parts))

pub joined_both_ways : (qubits : Qubits) (a b : ℕ)
    → (fabric_in qubits).joined a b ≡ (fabric_in qubits).joined b a
joined_both_ways (which.All graph) a b = are_joined-comm (place_of graph a) (place_of graph b)
joined_both_ways (which.Working w) a b = joined_in-comm w a b
joined_both_ways (which.Listed parts) a b = listed_joins.joined_in-comm parts a b

pub below_in : (qubits : Qubits) (q : ℕ) → (fabric_in qubits).exists q ≡ true → q < (fabric_in qubits).qubits
below_in (which.All graph) q h = grind (arith, nat_tests)
below_in (which.Working w) q h = grind (arith, nat_tests)
below_in (which.Listed parts) q h =
    let both = and_parts (exists_in parts q) (nat_lt q (2 ^ 20)) h in
    le-min (exists_in-below parts q both.0) (ltb-true q (2 ^ 20) both.1)

-- the qubits that parts name, and the joins that they are
abbrev named_fabric : List Part → Fabric
named_fabric parts = record {
  qubits = listed.qubits_of parts;
  exists = exists_in parts;
  joined = joined_in parts;
}

both_of : (b c : Bool) → (b ≡ true → c ≡ true) → b ≡ (b && c)
both_of true c h = sym (h refl)
both_of false c h = refl

-- of parts that name no qubit of 2 ^ 20 or more these are all
pub listed_is : (parts : List Part) → listed.qubits_of parts ≤ 2 ^ 20
    → named_fabric parts ≡ listed_fabric parts
listed_is parts few = λ i. record {
  qubits = sym (min-eq_left few) i;
  exists = λ q. both_of (exists_in parts q) (nat_lt q (2 ^ 20))
      (λ here. lt-ltb q (2 ^ 20) (omega (arith, exists_in-below parts q here, few))) i;
  joined = joined_in parts;
}

-- ---- chains that can stand

-- without nodes no chains are a valid map
pub no_nodes_valid : (parts : List Part) (f : IsingContent) → IsIsing f → length f.fields ≤ 0
    → IsValidOn (listed_fabric parts) f []
no_nodes_valid parts f ising none = record {
  counted = omega (arith, none);
  filled = λ k d low. absurd (omega (arith, low));
  within = λ k d low. absurd (omega (arith, low));
  once = λ q. omega arith;
  connected = λ k d low. absurd (omega (arith, low));
  coupled = λ k d low. absurd (omega (arith, ising.couplings k d low, none));
}

-- where there are places for all nodes, a clique is a valid map
pub clique_in_valid : (qubits : Qubits) (f : IsingContent) → IsIsing f
    → length f.fields ≤ places_in qubits
    → IsValidOn (fabric_in qubits) f (clique_in qubits (length f.fields))
clique_in_valid (which.All graph) f ising fits =
    clique_valid graph (length f.fields) fits f ising refl
clique_in_valid (which.Working w) f ising fits =
    working_clique_valid w (length f.fields) fits f ising refl
clique_in_valid (which.Listed parts) f ising fits = no_nodes_valid parts f ising fits

pub site_valid : (qubits : Qubits) (chain_source : ChainSource) (f : IsingContent) → IsIsing f
    → CanStandAt qubits chain_source f
    → IsValidOn (fabric_in qubits) f (chains_of qubits chain_source (length f.fields))
site_valid qubits Clique f ising can = clique_in_valid qubits f ising can
site_valid qubits (Map map) f ising can = can

-- The model of a problem on the qubits of a graph: what it promises of the problem.

-- ---- the Ising form

-- of a form that stands for a problem, with the problem's figures
spun_stands : (p : ProblemContent) (q : QuadContent) → IsQuad q → IsQuadratized p q (figures p)
    → IsIsingOf p (spins.image q) (ising_figures (figures p))
spun_stands p q kept made =
    grind (
      arith,
      nat_tests,
      ising_figures_are_stated,
      length-fields,
      coupled,
      image_is_ising,
      total-image,
      size-image,
      spins_stand,
    )

-- the same where the form and the figures are equal to these
pub spun_as : (p : ProblemContent) (q : QuadContent) (n : Figures) (f : IsingContent) (m : Figures)
    → IsQuad q → IsQuadratized p q n → f ≡ spins.image q → m ≡ ising_figures n → IsIsingOf p f m
spun_as p q n f m kept made form figured = grind (arith, nat_tests, spun_stands)

-- ---- its model on the qubits of a graph

module _ (p : ProblemContent) (own : ℕ) (choice : UnitChoice) (ties : ChainStrength) (graph : Graph)
    (fabric : Fabric) (map : List (List ℕ)) (m : Written) (f : IsingContent) where
  -- the figures are small
  small : IsIsingOf p f (ising_figures (figures p)) → AreSmall (ising_figures (figures p))
  small spun = record {
    scale = omega (arith, ints);
    offset = spun.offset_low;
    threshold = spun.threshold_low;
  }

  graph_stands : IsIsingOf p f (ising_figures (figures p))
      → IsQubitModelOf f (ising_figures (figures p)) own choice ties graph fabric map m
      → IsGraphModelOf p own choice ties graph fabric map m
  graph_stands spun of =
      let stands = spun.stands.1 in record {
        kind = of.kind;
        fits = of.fits;
        bounded = of.bounded (record { total = spun.total; figures = small spun });
        well_formed = of.well_formed;
        variables = of.variables;
        scale = of.scale ∙ sym (ap scale_of of.kind);
        threshold = omega (arith, ints, of.threshold, ap (λ (a : ℤ). a *ℤ upper p) of.scale);
        unit = of.unit;
        embedded = of.embedded;
        stands = λ scope allowed.
            of.stands scope (form_of p) spun.stands.0 p.variables spun.enough stands.decodes refl
            (stands.relaxes scope allowed);
        stays =
            of.stays (form_of p) spun.stands.0 p.variables spun.enough stands.decodes refl stands.stays;
      }

  -- with the figures of the Ising form
  pub graph_model : (n : Figures) → IsIsingOf p f n → IsQubitModelOf f n own choice ties graph fabric map m
      → IsGraphModelOf p own choice ties graph fabric map m
  graph_model n spun of = grind (arith, nat_tests, graph_stands)

-- ---- a model at a site

-- it stands for what the form relaxes
abbrev FormStandsAt : Site → UnitChoice → ℕ → Written → IsingContent → Figures → Type 0
FormStandsAt site unit own m f n =
    IsQubitModelOf f n own unit site.ties (graph_in site.qubits) (fabric_in site.qubits)
    (chains_of site.qubits site.chain_source (length f.fields)) m

module _ (site : Site) (choices : Choices) (unit : UnitChoice) (own : ℕ) (p : ProblemContent) where
  -- of the problem's form it is the problem's
  pub form_at_site : (m : Written) (f : IsingContent) (n : Figures) → f ≡ ising_of choices p
      → IsIsingOf p f n → IsFormAt site unit f own n m → FormStandsAt site unit own m f n
      → IsFormAt site unit (ising_of choices p) own (ising_figures (figures p)) m
      × StandsAt site choices unit own p m
  form_at_site m f n form spun by stands =
      let graph = graph_in site.qubits in
      let fabric = fabric_in site.qubits in
      let chains = λ (g : IsingContent). chains_of site.qubits site.chain_source (length g.fields) in (
        subst (λ g. IsFormAt site unit g own (ising_figures (figures p)) m) form
            (subst (λ r. IsFormAt site unit f own r m) spun.figures by),
        subst (λ g. IsGraphModelOf p own unit site.ties graph fabric (chains g) m) form
            (graph_model p own unit site.ties graph fabric (chains f) m f n spun stands),
      )

  pub made_at_site : (m : Written) → IsIsing (ising_of choices p) → own ≤ p.variables
      → CanStandBy site (ising_of choices p)
      → IsFormAt site unit (ising_of choices p) own (ising_figures (figures p)) m
      → IsMadeOf site.ties own choices p m
  made_at_site m ising few can by = (
    few,
    inr (
      unit,
      site.qubits,
      site_chains site choices p,
      site_valid site.qubits site.chain_source (ising_of choices p) ising can,
      by,
    ),
  )
