-- What the proofs of this crate stand on, of std and of the crates below.
pub use Rattle.base.specs.declared.costs.Figures.{Figures}
pub use Rattle.term_table.proofs.Common.{All-more, terms_cost, IsTable, with_appended, complements, contributions, ArePlain, plain_terms, plain, with_front, Ordering, drop_more, take_all, length-drop, Fills, mul-le-mul_right, mul-le-mul_left, pow_mono, rest_more}
pub use Rattle.problem_form.proofs.Common.{take, nat_le, map-append, take-append-drop, Literal, with_literal}
pub use Rattle.problem_form.specs.declared.terms.Product.{Product}
pub use Rattle.problem_form.specs.declared.terms.Clause.{Clause}
pub use Rattle.problem_form.specs.declared.terms.Constraint.{Constraint}
pub use Rattle.penalty_layer.proofs.Common.{◌≡◌, ◌+◌, ◌≤◌, ◌^◌, pos, sym, ap, subst, arith, All, ℕ, suc, ◌*◌, Bool, true, false, not, cond, List, [], ◌∷◌, ◌++◌, map, fold, max, count_by, refl, ◌∙◌, ℤ, length, ◌-◌, ◌<◌, None, neg_ℤ, unsigned_abs, drop, get_or, rules, to_z, of_z, All-from_recursion, recursion_from_All, All-nil, All-head, All-tail, ProblemContent, Term, terms_total, IsTermSet, KeptTable, kept_at_once, table_size, TableContent, AreAdditions, with_more, terms_total-with_additions, terms_total-cons, terms_total-append, sets_sum, sets_sum-cons, sets_sum-with_additions, if◌then◌else◌, AllByRecursion, sum_by, append-nil, append_assoc, sum_by-cons, sum_by-append, literal_set, union, scaled, product_terms, products_with, product_term, square_terms, node, slack_terms, slack_form, constraint_terms, HasRoomFor, nat_tests, terms_size-once, w128, to_z-of_z, ints, fills_as, fills_more, fills_same, room_as, room_first, room_next, room_same, fills_if_ok}
pub use Rattle.form_steps.specs.declared.layer.BitsLink.{BitsLink}
pub use Rattle.form_steps.specs.Links.{first_bits}
pub use Rattle.form_steps.specs.Relations.{RelaxesBy, StaysAbove, ExtendsLeast}
pub use Rattle.form_steps.specs.declared.scope.PenaltyScope.{PenaltyScope}
pub use Rattle.problem_form.specs.PartPenalties.{own, rest}
pub use Rattle.term_table.proofs.KeptTerms.{All-with_additions, OfSet, Ascends-with_additions}
pub use Rattle.term_table.proofs.PlainSums.{contributions-grow, AreFew, complements-cons, terms_total-plain_terms, sets_sum-contributions}
pub use Rattle.normal_form.specs.Multilinear.{expanded, image, Admits, multiplied, IsMultilinear, IsSmall}
pub use Rattle.normal_form.specs.laws.Relaxing.{multilinear_relaxes, multilinear_stays, multilinear_extends, cost_expanded}
pub use Rattle.problem_form.specs.Limits.{clause_complements, most_complements, negations, penalty, slack_range, slack_bits, limit_fault, degree, pairs, product_pairs, clause_pairs, constraint_pairs, constraint_degree, summands, weight, most_degree}
pub use Rattle.penalty_layer.specs.Penalty.{opposite, clause_term, clause_terms, figures}
pub use Rattle.penalty_layer.specs.Slack.{slack_weights}
pub use Rattle.penalty_layer.proofs.Bounds.{AtMost, most_of, of_map, raised}
pub use Rattle.term_table.proofs.Loops.{with_more-append}
pub use Rattle.term_table.proofs.PlainSets.{contributions-sets, contributions-plain}
pub use Rattle.normal_form.specs.Behind.{behind}
pub use Rattle.std.proofs.lemmas.List.Concat.{flat_map-append}
pub use Rattle.std.proofs.lemmas.Nat.{pow-add}
pub use Rattle.form_steps.proofs.Growth.{one_le_pow}
pub use Rattle.penalty_layer.proofs.Sizes.{spread, square, square-mono, constraint-size}
pub use Rattle.penalty_layer.proofs.Sums.{square_is, contributions-total}
pub use Rattle.penalty_layer.proofs.Sets.{contribution_sets}
pub use Rattle.penalty_layer.proofs.OppositeSets.{opposites_length}
pub use Rattle.std.proofs.lemmas.Result.{IfOk-weaker, on_ok_weaker}
