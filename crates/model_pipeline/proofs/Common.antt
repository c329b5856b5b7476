-- What the proofs of this crate stand on, of std and of the crates below.
pub use Rattle.std.proofs.Common.{◌≡◌, ◌≤◌, ℕ, Bool, List, map, take, sym, ap, ◌∙◌, zero, suc, ◌+◌, ◌-◌, true, false, cond, leb, [], ◌∷◌, length, None, pos, int_lt, refl, arith, ◌<◌, ◌⊎◌, inl, inr, ◌*◌, ◌^◌, ℤ, ◌+ℤ◌, ◌*ℤ◌, ◌≤ℤ◌, ◌++◌, if◌then◌else◌, subst, All, negsuc, ◌<ℤ◌, rules, to_z, of_z}
pub use Rattle.quadratization.proofs.Common.{weight_total, sum_by, AllByRecursion, slice_index_or, nat_tests, sum_by-cons, sum_by-append, Term, IsTermSet, with_additions, TableContent, IsTable, table_size, sets_sum-cons, sets_sum, coefficient_of-with_additions, terms_total-with_additions, nodes_for, new_nodes, length-image, ints, fits_signed_from_abs, to_z-of_z, All-nil, All-map, All-from_recursion, recursion_from_All, QuadContent, IsQuad, quad_total, quad_size, quad_total-image, quad_size-image, OfSet, All-with_additions, AreTerms-with_additions, contribution_sets, all_nodes-le, table_of, additions_of, IsTable-low_of, HeldContent, HasPlaces, AreHeld, IsWithin, w128, IsQuad-image, length-map-range_with_len, total_by, IfOk-weaker, take-map, length-map, run, excess, contributions, IsTable-table_of, Entry, Literal, Product}
pub use Rattle.working_graph.proofs.Common.{IsingContent, IsIsing, Fabric, IsValidOn, Joins, IsConnected, place_of, Embedding, IsEmbedding, IsChecked, are_joined-comm, clique_valid, joined_in-comm, checked_embeds, IfErr-weaker, if_fault, append-nil, Chimera, EmbedFault, fault_invalid}
pub use Rattle.normal_form.proofs.Common.{sets_sum-with_additions, ExtendsLeast, first_bits, multilinear_extends, multilinear_relaxes, pow_mono, pow-add, scaled, product_terms, products_with, complements, AreFew, sets_sum-contributions, product_term, square_terms, slack_form, constraint_terms, opposites_length, square_is, contributions-sets, multiplied, IsSmall, figures, clause_term, Figures, BitsLink, Clause, Constraint, multilinear_stays, clause_terms, own, rest}
pub use Rattle.ising_form.proofs.Common.{Written, read_off, spins_energy, Decoding, Reduces, Keeps, figures_moved, node_entries, weights_of, counted_in, entry_in, unit_of, ising_total, ising_unit, reduced, coupled, image, length-fields, spins_keeps, spins_reaches, FitsOutput, is_on_chain, written_entries, written_of, same_bits, one_le_quad_unit, Kind}
pub use Rattle.quad_form.proofs.Common.{is_coupler, bits_energy, flat_keeps, flat_reaches, greatest_within, quad_unit, same_tables}
pub use Rattle.model_pipeline.proofs.faithful.Common.{decoding_after, Reaches, figures_after, StandsAtLeast, IsLeast, times-lt}
pub use Rattle.cut_chains.proofs.Common.{read_off_the_chains, Extends, cut_keeps, cut_reaches, take-take}
pub use Rattle.penalty_layer.proofs.Common.{node_count, plain_terms, penalty_extends, penalty_relaxes, penalty_stays, length-union}
pub use Rattle.command_words.proofs.Common.{UnitChoice}
pub use Rattle.chain_layer.proofs.Common.{chains_keep, chains_reach}
pub use Rattle.rosenberg_layer.proofs.Common.{substituted, rosen_reaches, rosen_keeps, width-run-le}
pub use Rattle.problem_form.specs.declared.limits.Choices.{Choices}
pub use Rattle.problem_form.specs.Problems.{ProblemContent, form_of, IsNormal}
pub use Rattle.model_pipeline.specs.Models.{decoding_to, low_terms_of, terms_of, IsModelOf, qubo_model, ising_figures, quad_by, quad_of, form_model, model}
pub use Rattle.model_pipeline.specs.Extensions.{FirstAreDecoded, LeastExtends, IsMadeOf, low_extension, extension_by, extension_of, ExtendsLeastBy, IsLeastExtension, ExtendsTo, FitsState, IsLeastTo, IsMade, link_by, state_on}
pub use Rattle.model_pipeline.specs.Decoders.{AreLinks, ReadOffIsDecoded, StepLinks, quad_decoding, steps_decoding, LowFits}
pub use Rattle.problem_form.specs.declared.limits.High.{High}
pub use Rattle.model_pipeline.specs.Sizes.{NodesAreFew}
pub use Rattle.std.specs.Prelude.{unsigned_abs, neg_ℤ, IfOk, Result, nat_le, nat_lt, FitsSigned, ◌-ℤ◌, IfErr}
pub use Rattle.std.proofs.Math.Nat.{mul-le-mul_right, mul-le-mul_left, zero-div}
pub use Rattle.base.specs.Costs.{Form, IsOf, energy}
pub use Rattle.model_pipeline.specs.faithful.Bounds.{AreBounded}
pub use Rattle.model_pipeline.specs.faithful.Faithful.{scale_of, HasUnit}
pub use Rattle.form_steps.specs.laws.Composed.{least-trans}
pub use Rattle.model_text.specs.Rows.{FitsFigures, HasNumbers}
pub use Rattle.form_steps.specs.laws.AtLeast.{keeps_after_by, keeps_stays_above, reduces_after_by, reduces_stays_above}
pub use Rattle.form_steps.proofs.Alike.{by_alike, stays_above_alike}
pub use Rattle.form_steps.specs.Relations.{RelaxesBy, StaysAbove}
pub use Rattle.form_steps.specs.declared.scope.PenaltyScope.{PenaltyScope}
pub use Rattle.problem_form.specs.Limits.{upper, limit_fault, penalty, factor, product_bits, clause_bits, constraint_bits, constraint_degree, most_complements, summands, slack_bits, auxiliary_bits}
pub use Rattle.quad_form.proofs.UnitEntries.{sizes_of_weights}
pub use Rattle.model_pipeline.specs.QubitModels.{chained_model, chained_figures, image_tied, offset_tied, qubit_model}
pub use Rattle.model_pipeline.specs.Formed.{AddTo, Stands, IsQuadratized, IsIsingOf, HasRoom, HaveRoom}
pub use Rattle.ising_form.proofs.Images.{image_is_ising, total-image}
pub use Rattle.model_pipeline.specs.declared.site.Site.{Site}
pub use Rattle.bits_model.specs.declared.output.Graph.{Graph}
pub use Rattle.bits_model.specs.Output.{qubits_of}
pub use Rattle.model_pipeline.specs.Sites.{chains_of, fabric_in, graph_in, in_numbers, CanStandBy, clique_in, places_in, whole_fabric, listed_fabric, CanStandAt, IsFaultBy}
pub use Rattle.model_pipeline.specs.QubitStanding.{AreSmall, IsQubitModelOf, HasChainRoom, StandsForWhat, LeastStandBy, StandsBy, StaysForWhat, StaysBy}
pub use Rattle.model_pipeline.specs.GraphModels.{ising_of, site_chains, IsGraphModelOf, IsFormAt, StandsAt}
pub use Rattle.problem_form.specs.declared.limits.Normal.{Normal}
pub use Rattle.monomial_layer.specs.laws.Kept.{mono_reaches, mono_keeps}
pub use Rattle.penalty_layer.proofs.Sizes.{AreShort, length-slack_form, slack_form-short}
pub use Rattle.normal_form.proofs.Complements.{complements-opposites, few-square, few-slack_form}
pub use Rattle.std.proofs.lemmas.Bool.{le-ltb, cases_Bool}
pub use Rattle.quad_form.proofs.Divisors.{greatest_divides, none_or_within, unit_of_nothing}
pub use Rattle.ising_form.proofs.ChainedNodes.{AllRec-filter}
pub use Rattle.rosenberg_layer.specs.laws.Sets.{IsSound-run}
pub use Rattle.rosenberg_layer.proofs.Ends.{IsLow-image}
pub use Rattle.rosenberg_layer.proofs.Growth.{size-image}
pub use Rattle.penalty_layer.proofs.Admitted.{threshold_within, image_size}
pub use Rattle.normal_form.proofs.Limits.{penalty_admits}
pub use Rattle.normal_form.proofs.MultipliedOut.{AreAdditions-multiplied_out, small-additions, total-multiplied}
pub use Rattle.normal_form.proofs.Sizes.{size_within}
pub use Rattle.quadratization.proofs.Apart.{sum_for-with_additions, nodes-table}
pub use Rattle.quadratization.proofs.AtOnce.{image-quad}
pub use Rattle.quadratization.proofs.ProblemTerms.{places_at_first, total-additions}
pub use Rattle.penalty_layer.proofs.RoomForTerms.{AreAdditions-contributions}
pub use Rattle.ising_form.proofs.ReducedForms.{reduced_is_ising, made_total, one_le_ising_unit, made_reduces}
pub use Rattle.ising_form.proofs.WrittenModels.{written_is_well_formed, written_total, made_is_reduced, written_energy}
pub use Rattle.working_graph.proofs.WorkingCliques.{working_clique_valid}
pub use Rattle.model_pipeline.specs.declared.site.Qubits.{Qubits}
pub use Rattle.model_pipeline.specs.declared.site.ChainSource.{ChainSource}
pub use Rattle.model_pipeline.proofs.faithful.LeastStates.{relaxed_stands}
pub use Rattle.model_pipeline.proofs.faithful.LeastSteps.{kept_stands, reduced_stands}
pub use Rattle.cut_chains.proofs.CutSizes.{cut_is_ising, cut_offset_small, cut_total_grows}
pub use Rattle.cut_chains.proofs.Joined.{cut_fits_output, cut_is_joined}
pub use Rattle.chain_map.specs.Faults.{IfFault}
pub use Rattle.model_text.proofs.Numerals.{size_fits}
pub use Rattle.base.specs.declared.unit.UnitChoice.TheVariants.{One, Reduce}
pub use Rattle.command_words.specs.declared.commands.NodeModel.TheVariants.{Qubo, Ising}
pub use Rattle.problem_form.specs.declared.limits.High.TheVariants.{Monomial, Rosenberg}
pub use Rattle.cut_chains.specs.declared.link.CutLink.{CutLink}
pub use Rattle.chain_layer.specs.declared.link.ChainLink.{ChainLink}
pub use Rattle.command_words.specs.declared.commands.ChainStrength.TheVariants.{Choi, Cut}
pub use Rattle.command_words.specs.declared.commands.ChainStrength.{ChainStrength}
pub use Rattle.command_words.specs.declared.commands.NodeModel.{NodeModel}
pub use Rattle.part_lists.specs.declared.parts.Part.{Part}
