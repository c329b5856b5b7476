-- The value of a certificate and of a model, and forms with the same coefficients, which have one
-- value.
use Rattle.posiform_check.proofs.Common.{elements, nat_tests, ◌≡◌, Bool, List, [], ◌∷◌, pos, ◌+ℤ◌, ◌≤ℤ◌, arith, All, AllByRecursion, ints, recursion_from_All, total_by, total_by-flat_map, total_by-same, Term, terms_cost, with_additions, terms_cost-plain_terms, terms_cost-with_additions, coefficient_of-with_additions, Ascends-with_additions, nonzero-with_additions, same_terms, Line, CertificateContent, certificate_terms, AreSameForms, Entry, Kind, energy, Written, form_of, bits_energy, spins_energy, entry_energy, bit_sets, spin_sets, entry_terms, model_terms, spin_constant, line_value, ℕ, ℤ, refl, ◌∙◌, flat_map, if_so, Literal, all_hold, list_all-literal_set, all_hold-clash, written, bound_of, kept_line, content_of, ReadingKeepsValues, total_by-append}

-- forms with the same coefficients make one table
pub same_table : (ts us : List Term) → AreSameForms ts us
    → with_additions [] ts ≡ with_additions [] us
same_table ts us same =
    same_terms (with_additions [] ts) (with_additions [] us) (Ascends-with_additions ts)
    (Ascends-with_additions us) (nonzero-with_additions ts) (nonzero-with_additions us)
    (λ set. grind (arith, nat_tests, elements, coefficient_of-with_additions))

-- and have the same value for every list of bits
pub same_value : (ts us : List Term) → AreSameForms ts us → (y : List Bool)
    → terms_cost y ts ≡ terms_cost y us
same_value ts us same y =
    grind (arith, nat_tests, terms_cost-with_additions y ts, same_table ts us same, terms_cost-with_additions y us)

pub certificate_value : (c : CertificateContent) (y : List Bool)
    → terms_cost y (certificate_terms c) ≡ c.bound +ℤ total_by (line_value y) c.lines
certificate_value c y =
    grind (arith, nat_tests, ints, total_by-flat_map, total_by-same, terms_cost-plain_terms)

sum_not_negative : (y : List Bool) (ls : List Line)
    → AllByRecursion (λ (l : Line). pos 0 ≤ℤ l.coefficient) ls → pos 0 ≤ℤ total_by (line_value y) ls
sum_not_negative y [] h = omega (arith, ints)
sum_not_negative y (l ∷ ls) h = grind (arith, nat_tests, ints, sum_not_negative y ls h.1)

-- without negative lines no value is below the bound
pub bound_below : (c : CertificateContent) (y : List Bool)
    → All (λ (l : Line). pos 0 ≤ℤ l.coefficient) c.lines
    → c.bound ≤ℤ terms_cost y (certificate_terms c)
bound_below c y signs =
    let sum = sum_not_negative y c.lines
    (recursion_from_All (λ (l : Line). pos 0 ≤ℤ l.coefficient) c.lines signs) in
    omega (arith, ints, certificate_value c y)

-- ---- the bit form of a model is its energy

bits_value : (y : List Bool) (e : Entry) → pos 0 +ℤ terms_cost y (bit_sets e) ≡ bits_energy y e
bits_value y e = grind (arith, nat_tests, ints)

-- an entry of spins, in bits: a field times one spin, a coupling times two
spins_value : (y : List Bool) (e : Entry)
    → spin_constant e +ℤ terms_cost y (spin_sets e) ≡ spins_energy y e
spins_value y e = grind (arith, nat_tests, ints)

entry_value : (kind : Kind) (y : List Bool) (e : Entry)
    → terms_cost y (entry_terms kind e) ≡ entry_energy kind y e
entry_value kind y e = grind (arith, nat_tests, bits_value, spins_value)

pub model_value : (m : Written) (y : List Bool)
    → terms_cost y (model_terms m) ≡ energy (form_of m) y
model_value m y = grind (arith, nat_tests, total_by-flat_map, total_by-same, entry_value)

-- ---- what is read has the value of the lines as they are written

module _ (y : List Bool) where
  -- what a line gives to the bound and to the lines is its value
  one_line : (ls : List Literal) (c : ℤ) (n : ℕ)
      → bound_of (written ls c n) +ℤ total_by (line_value y) (kept_line (written ls c n))
      ≡ if_so (all_hold y ls) c
  one_line ls c n = grind (arith, nat_tests, ints, all_hold-clash, list_all-literal_set)

  all_lines : (ls : List Line)
      → total_by bound_of ls +ℤ total_by (line_value y) (flat_map kept_line ls)
      ≡ total_by (line_value y) ls
  all_lines [] = refl
  all_lines (l ∷ ls) =
      let total = total_by-append (line_value y) (kept_line l) (flat_map kept_line ls) in
      omega (arith, ints, one_line l.literals l.coefficient l.line, all_lines ls)

pub reading_keeps_values : ReadingKeepsValues
reading_keeps_values ls y = certificate_value (content_of ls) y ∙ all_lines y ls
