-- Pieces that are joined one after another.
use Rattle.program_run.proofs.Common.{nat_tests, ◌≡◌, ℕ, zero, suc, ◌+◌, ◌<◌, ◌≤◌, true, false, List, [], ◌∷◌, ◌++◌, length, length-append, append_assoc, append-nil, take, slice_index_or, ap, arith, Bor, Result, IsOk, is_err, joined_bytes}

-- the bytes of the first pieces
abbrev pub front_bytes : ℕ → List (Bor (List ℕ)) → List ℕ
front_bytes n pieces = joined_bytes (take n pieces)

-- those of one more piece
pub front_more : (n : ℕ) (pieces : List (Bor (List ℕ))) (other : Bor (List ℕ)) → n < length pieces
    → front_bytes (suc n) pieces ≡ front_bytes n pieces ++ (slice_index_or pieces n other).now
front_more n [] other inside = absurd (omega arith)
front_more zero (p ∷ ps) other inside = append-nil p.now
front_more (suc n) (p ∷ ps) other inside =
    grind (arith, nat_tests, front_more n ps other (omega arith), append_assoc)

-- with a piece more they are at most all bytes
pub front_length : (n : ℕ) (pieces : List (Bor (List ℕ))) → length (front_bytes n pieces) ≤ length (joined_bytes pieces)
front_length zero ps = omega arith
front_length (suc n) [] = omega arith
front_length (suc n) (p ∷ ps) = grind (arith, nat_tests, front_length n ps, length-append)

-- where a front of the pieces has no room for one more, they have none together
pub no_room : (line : List ℕ) (n : ℕ) (pieces : List (Bor (List ℕ))) (other : Bor (List ℕ)) (most : ℕ)
    → line ≡ front_bytes n pieces → n < length pieces
    → most < length line + length (slice_index_or pieces n other).now
    → length (joined_bytes pieces) ≤ most → false ≡ true
no_room line n pieces other most joined inside over room =
    let all = front_length (suc n) pieces in
    let more = ap length (front_more n pieces other inside) in
    let both = length-append (front_bytes n pieces) (slice_index_or pieces n other).now in
    absurd (omega (arith, over, room, ap length joined))

pub no_true : false ≡ true → ⊥
no_true e = cc

-- a list that was not extended had too little room
pub too_long : {T E : Type 0} (r : Result T E) (n most : ℕ) → is_err r ≡ true → (n ≤ most → IsOk r) → most < n
too_long r n most failed fits = grind (arith, nat_tests)
