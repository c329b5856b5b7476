-- Pairs of a name and bytes, and the index of the first pair with a name.
use Rattle.edge_io.proofs.Common.{nat_tests, ◌≡◌, ℕ, zero, suc, ◌<◌, Bool, true, false, cond, List, [], ◌∷◌, map, length, get_or, Some, None, refl, sym, ap, arith, not, string_bytes, String, Vec, Global, bytes_eq, nat_lt, length-map, prefix_len, position, Option, ltb-true, NamedFiles, find_file, bytes_at, IsIndexOf}

-- a pair as the code holds it
abbrev pub Pair : Type 0
Pair = String Global × Vec ℕ Global

-- a pair as clauses see it
abbrev pub seen : Pair → List ℕ × List ℕ
seen file = (string_bytes file.0, file.1.items)

-- the test that the code makes of each pair
abbrev pub has_name : List ℕ → Pair → Bool
has_name name file = bytes_eq (string_bytes file.0) name

-- what clauses see at an index is what the code holds there
pub bytes_at-map : (files : List Pair) (i : ℕ) (file : Pair) → i < length files → file ≡ get_or files i file
    → bytes_at (map seen files) i ≡ file.1.items
bytes_at-map [] i file within is = absurd (omega arith)
bytes_at-map (_ ∷ files) zero file within is = sym (ap (λ (p : Pair). p.1.items) is)
bytes_at-map (_ ∷ files) (suc i) file within is = bytes_at-map files i file (omega arith) is

-- how many pairs stand before the first one with the name
abbrev pub pairs_before : List ℕ → List Pair → ℕ
pairs_before name files = prefix_len (λ file. not (has_name name file)) files

-- the bytes at an index, where it is one of a list of this length
abbrev pub bytes_within : NamedFiles → ℕ → ℕ → Option (List ℕ)
bytes_within files n size = cond (nat_lt n size) (Some (bytes_at files n)) None

-- the bytes at that index are those that the name finds: by induction, one pair at a time
bytes_within-pairs_before : (name : List ℕ) (files : List Pair)
    → bytes_within (map seen files) (pairs_before name files) (length files) ≡ find_file (map seen files) name
bytes_within-pairs_before name [] = refl
bytes_within-pairs_before name (file ∷ files) =
    grind (arith, nat_tests, bytes_within-pairs_before name files)

-- the test whether the index is within the list decides whether the name is held
index_by_test : (files : NamedFiles) (name : List ℕ) (n : ℕ) (b : Bool) → nat_lt n (length files) ≡ b
    → cond b (Some (bytes_at files n)) None ≡ find_file files name → IsIndexOf files name (cond b (Some n) None)
index_by_test files name n true test found = (ltb-true _ _ test, sym found)
index_by_test files name n false test found = sym found

-- the first pair that passes the test is the one that the name finds
pub position-has_name : (name : List ℕ) (files : List Pair) → IsIndexOf (map seen files) name (position (has_name name) files)
position-has_name name files =
    let same : length (map seen files) ≡ length files = simp length-map in
    rw (sym same) (index_by_test (map seen files) name (pairs_before name files) _ refl
    (rw same (bytes_within-pairs_before name files)))
