-- The bits that a text has, and the file that they are taken from.
use Rattle.run_steps.proofs.Common.{nat_tests, arith, ◌≡◌, ℕ, Bool, true, List, [], ◌∷◌, length, map, find, Ok, Some, length-map, eqb-true, Option, option_map, NamedFiles, find_file, is_one, is_state, lines_of, stating, state_of}

-- ---- how many they are

-- the line that is found passes
line_passes : (p : List ℕ → Bool) (lines : List (List ℕ)) (line : List ℕ)
    → find p lines ≡ Some line → p line ≡ true
line_passes p [] line e = absurd cc
line_passes p (first ∷ rest) line e = grind (arith, nat_tests, line_passes p rest line)

fitting_width : (width : ℕ) (found : Option (List ℕ)) (bits : List Bool)
    → ((line : List ℕ) → found ≡ Some line → is_state width line ≡ true)
    → option_map (map is_one) found ≡ Some bits → length bits ≡ width
fitting_width width found bits fits e = grind (arith, nat_tests, length-map, eqb-true)

-- a state has as many bits as were asked for
pub state_has_width : (width : ℕ) (text : List ℕ) (bits : List Bool)
    → state_of width text ≡ Some bits → length bits ≡ width
state_has_width width text bits e =
    fitting_width width (find (is_state width) (lines_of text)) bits
    (line_passes (is_state width) (lines_of text)) e

-- ---- where they are from

-- the bits that a step took are read from the held file
pub state_is_taken : (held : NamedFiles) (name : List ℕ) (width : ℕ) (bits : List Bool)
    → (stating held name width).end ≡ Some (Ok bits)
    → (bytes : List ℕ) × (find_file held name ≡ Some bytes) × (state_of width bytes ≡ Some bits)
unfolding stating
state_is_taken held name width bits e = grind (arith, nat_tests)
