-- How many numbers of qubits parts have, and which of them they name.
use Rattle.listed_graph.proofs.Common.{complete-below, nat_tests, ◌≡◌, ℕ, suc, ◌+◌, ◌≤◌, ◌<◌, true, List, [], ◌∷◌, ◌++◌, length, take, get_or, max, All, arith, ap, ◌∙◌, Part, IsPart, is_named, qubits_of, most}
use Rattle.std.proofs.Common.{zero}
use Rattle.std.proofs.lemmas.List.{take_more}
use Rattle.listed_graph.specs.Parts.{beyond}
use Rattle.part_lists.specs.declared.parts.Part.TheVariants.{Qubit, Coupler}

-- a part lies below the most
pub beyond_few : (part : Part) → IsPart part → beyond part ≤ most
beyond_few (Qubit a) kept = omega (arith, complete-below a kept)
beyond_few (Coupler a b) kept =
    let low = complete-below a kept.0 in let other = complete-below b kept.1 in grind (arith, nat_tests)

-- one part more
counted_more : (parts : List Part) (part : Part)
    → qubits_of (parts ++ part ∷ []) ≡ max (qubits_of parts) (beyond part)
counted_more [] part = grind (arith, nat_tests)
counted_more (first ∷ parts) part =
    let rest = counted_more parts part in grind (arith, nat_tests, rest)

pub count_more : (parts : List Part) (k : ℕ) (d : Part) → k < length parts
    → qubits_of (take (k + 1) parts) ≡ max (qubits_of (take k parts)) (beyond (get_or parts k d))
count_more parts k d low =
    ap qubits_of (take_more parts k d low) ∙ counted_more (take k parts) (get_or parts k d)

-- each part lies below their count
pub beyond_below : (parts : List Part) (k : ℕ) (d : Part) → k < length parts
    → beyond (get_or parts k d) ≤ qubits_of parts
beyond_below [] k d low = omega (arith, low)
beyond_below (part ∷ parts) zero d low = grind (arith, nat_tests)
beyond_below (part ∷ parts) (suc k) d low =
    let rest = beyond_below parts k d (omega (arith, low)) in grind (arith, nat_tests)
