-- The tables between additions and their quadratic form, which are never made. Nothing here has to
-- be believed.
use Rattle.std.specs.Prelude.{◌+◌, ◌*◌, ◌≤◌, ◌^◌}
use Rattle.std.proofs.Common.{arith}
use Rattle.std.proofs.lemmas.List.Elements.{recursion_from_All}
use Rattle.term_table.specs.Terms.{terms_total}
use Rattle.term_table.specs.Tables.{TableContent, IsTable, AreAdditions}
use Rattle.term_table.proofs.Additions.{terms_total-with_additions}
use Rattle.term_table.proofs.KeptTerms.{AreTerms-with_additions}
use Rattle.monomial_layer.specs.Monomials.{all_new_terms}
use Rattle.monomial_layer.specs.Monomials as monomials
use Rattle.monomial_layer.proofs.Sets.{sets-all_new_terms}
use Rattle.monomial_layer.proofs.Sizes.{total-image}
use Rattle.quadratization.specs.Apart.{table_of}

-- the sums of additions are a table
pub IsTable-table_of : (t : TableContent) → AreAdditions t → IsTable (table_of t)
IsTable-table_of t additions = record {
  terms = AreTerms-with_additions t.width t.terms additions.sets;
  small = omega (arith, additions.small, terms_total-with_additions t.terms);
}

-- the table of quadratic terms
abbrev pub low_of : TableContent → TableContent
low_of t = monomials.image (table_of t)

-- with one more on both sides, the sizes of the quadratic terms sum up to at most 2^24 times what
-- those of the additions do
pub total-low_of : (t : TableContent) → AreAdditions t
    → terms_total (low_of t).terms + 1 ≤ (terms_total t.terms + 1) * 2 ^ 24
total-low_of t additions =
    omega (
      arith,
      total-image (table_of t) (IsTable-table_of t additions),
      terms_total-with_additions (all_new_terms (table_of t).terms t.width),
      terms_total-with_additions t.terms,
    )

-- the quadratic terms are one too
pub IsTable-low_of : (t : TableContent) → AreAdditions t
    → (terms_total t.terms + 1) * 2 ^ 26 ≤ 2 ^ 124 → IsTable (low_of t)
IsTable-low_of t additions total =
    let table = IsTable-table_of t additions in
    let sets = sets-all_new_terms (low_of t).width t.width t.width (table_of t).terms (omega arith)
    (omega arith) (recursion_from_All _ _ table.terms.sets) in
    record {
      terms = AreTerms-with_additions (low_of t).width (all_new_terms (table_of t).terms t.width) sets;
      small = omega (arith, total, total-low_of t additions);
    }
