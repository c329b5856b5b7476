use Rattle.model_pipeline.specs.declared.site.ChainSource.TheVariants.{Map}
use Rattle.run_steps.proofs.Lemmas.{ap, sym, gives, chains_step, refl, still_refuses, takes_given, takes_none, takes_same}
use Rattle.run_steps.proofs.placements.take_chain_source.Goals as goal

pub returns-in-None : goal.returns-in-None
unfolding chains_step
returns-in-None g c =
    takes_none (rw (← c.in-None.ensures) refl) (λ held. rw (← c.in-None.ensures) refl)

pub take_named-requires : goal.take_named-requires
take_named-requires g c = sym c.in-Some.ensures

pub returns-in_ok-map-in-Some : goal.returns-in_ok-map-in-Some
unfolding chains_step
returns-in_ok-map-in-Some g c =
    takes_same (λ held. ap (chains_step held) c.in-Some.ensures) (takes_given Map refl c.in_ok-map-in-Some.ensures.took)

pub returns-in_err-map-in-Some : goal.returns-in_err-map-in-Some
unfolding chains_step
returns-in_err-map-in-Some g c =
    takes_same (λ held. ap (chains_step held) c.in-Some.ensures)
    (still_refuses (λ held map. gives (Map map)) c.from_residual.ensures.1 c.in_err-map-in-Some.ensures.took)
