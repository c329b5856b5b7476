-- What is left of a file in memory after each call.
use Rattle.edge_io.proofs.Common.{nat_tests, ◌≡◌, ℕ, zero, suc, ◌+◌, ◌-◌, ◌<◌, ◌≤◌, min, List, ◌++◌, length, take, drop, Some, None, refl, ap, ◌∙◌, subst, arith, take-append_seam, common_steps, take-append-drop, take_rest, length-take, length-drop, length-append, nil_from_length, Consumes, IsAtEnd, Option, NamedFiles, find_file, after_first, bytes_at, rest_from}

-- once a begin was called, all is told
after_first-some : (begun : ℕ) (told : List ℕ) → 1 ≤ begun → after_first begun told ≡ told
after_first-some zero told some = absurd (omega arith)
after_first-some (suc begun) told some = refl

-- a begin at the index of a name leaves the whole of the named file
pub begins_at : (files : NamedFiles) (name : List ℕ) (i begun : ℕ) → find_file files name ≡ Some (bytes_at files i) → 1 ≤ begun
    → (left : List ℕ) × (find_file files name ≡ Some left) × (Some (after_first begun (rest_from files (Some i) 0)) ≡ Some left)
begins_at files name i begun found some = (bytes_at files i, found, ap Some (after_first-some begun _ some))

-- the first n bytes of the buffer left the front of the rest, and none only at the end or with no
-- room
abbrev pub Reads : List ℕ → List ℕ → List ℕ → ℕ → Type 0
Reads old new buffer n =
    Consumes (Some old) (Some new) (take n buffer) × (n ≡ 0 → 0 < length buffer → IsAtEnd (Some new))

-- as many bytes as fit were copied to the front of a buffer, from a place of the file on
reads_copied : (all into copied : List ℕ) (at n : ℕ) → n ≡ min (length into) (length (drop at all))
    → copied ≡ take n (drop at all) → Reads (drop at all) (drop (at + n) all) (copied ++ drop n into) n
reads_copied all into copied at n fits same =
    let rest = drop at all in
    let buffer = copied ++ drop n into in
    let long : length copied ≡ n = ap length same ∙ length-take n rest ∙ omega arith in
    let front : take n buffer ≡ copied =
    subst (λ (k : ℕ). take k buffer ≡ copied) long (take-append_seam copied (drop n into)) in
    let later : drop (at + n) all ≡ drop n rest = grind (arith, common_steps) in
    let split : take n buffer ++ drop (at + n) all ≡ rest =
    ap (λ l. l ++ drop (at + n) all) (front ∙ same) ∙ ap (λ l. take n rest ++ l) later ∙ take-append-drop n rest in
    grind (arith, nat_tests, nil_from_length, length-drop, length-append)

-- the same of the begun file, whose rest is a slice of its bytes
pub reads_on : (files : NamedFiles) (index : Option ℕ) (i begun : ℕ) (bytes into copied : List ℕ) (at n : ℕ)
    → index ≡ Some i → (begun ≡ 0 → index ≡ None) → bytes ≡ bytes_at files i
    → n ≡ min (length into) (length (take (length bytes - at) (drop at bytes))) → copied ≡ take n (take (length bytes - at) (drop at bytes))
    → Reads (after_first begun (rest_from files index at)) (after_first begun (rest_from files index (at + n))) (copied ++ drop n into) n
reads_on files index i begun bytes into copied more n is unbegun given fits same =
    grind (arith, nat_tests, take_rest, reads_copied)
