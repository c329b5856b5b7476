-- What stands in a line from a place on, after a text was written before that place.
use Rattle.model_text.proofs.Common.{◌≡◌, ℕ, ◌+◌, ◌-◌, ◌≤◌, ℤ, List, [], ◌∷◌, ◌++◌, length, take, drop, sym, ap, ◌∙◌, arith, append_assoc, length-append, length-drop, take-take, drop-drop, signed_decimal, EndsIn}
use Rattle.std.proofs.Math.Seq.{drop-append_seam, take-append_seam}

pub kept_behind : (at end : ℕ) (xs ys text : List ℕ) → at + length text ≡ end
    → drop at xs ≡ text ++ drop end ys → drop end xs ≡ drop end ys
kept_behind at end xs ys text long written =
    ap (λ (n : ℕ). drop n xs) (sym long) ∙ sym (drop-drop (length text) at xs)
    ∙ ap (drop (length text)) written ∙ drop-append_seam text (drop end ys)

-- a text and one byte behind it
pub kept_after : (at mid end byte : ℕ) (xs ys zs text : List ℕ) → at + length text ≡ mid
    → mid + 1 ≡ end → drop at xs ≡ text ++ drop mid ys → drop mid ys ≡ byte ∷ drop end zs
    → drop end xs ≡ drop end zs
kept_after at mid end byte xs ys zs text long next written last =
    kept_behind at end xs zs (text ++ byte ∷ []) (omega (arith, long, next, length-append text (byte ∷ [])))
    (written ∙ ap (λ (l : List ℕ). text ++ l) last ∙ sym (append_assoc text (byte ∷ []) (drop end zs)))

-- lists that are alike from one place on are alike from each later one on
pub later_same : (k n : ℕ) (xs ys : List ℕ) → k ≤ n → drop k xs ≡ drop k ys
    → drop n xs ≡ drop n ys
later_same k n xs ys le same =
    let cut : k + (n - k) ≡ n = omega (arith, le) in
    ap (λ (m : ℕ). drop m xs) (sym cut) ∙ sym (drop-drop (n - k) k xs) ∙ ap (drop (n - k)) same
    ∙ drop-drop (n - k) k ys ∙ ap (λ (m : ℕ). drop m ys) cut

-- a weight's text and a line feed were written before the end
pub ends_in : (at mid : ℕ) (xs ys zs text : List ℕ) (weight : ℤ) → 27 ≤ at
    → at + length text ≡ mid → mid + 1 ≡ 48 → drop at xs ≡ text ++ drop mid ys
    → drop mid ys ≡ 10 ∷ drop 48 zs → text ≡ signed_decimal weight → EndsIn xs at weight
ends_in at mid xs ys zs text weight low long next written last same =
    let stays = kept_after at mid 48 10 xs ys zs text long next written last in
    (low, omega (arith, long, next), written ∙ (λ i. same i ++ (last ∙ ap (λ (l : List ℕ). 10 ∷ l) (sym stays)) i))

-- nodes were written before a weight's text, which stands still
pub ends_still : (at k : ℕ) (xs ys : List ℕ) (weight : ℤ) → k ≤ at → EndsIn ys at weight
    → drop k xs ≡ drop k ys → EndsIn xs at weight
ends_still at k xs ys weight le ends same =
    let tail = later_same k 48 xs ys (omega (arith, le, ends.1)) same in
    (ends.0, ends.1, later_same k at xs ys le same ∙ ends.2 ∙ ap (λ (l : List ℕ). signed_decimal weight ++ 10 ∷ l) (sym tail))

-- a row is a front, a node and a space, and a weight's text and a line feed
pub row_front : (at k end : ℕ) (xs ys zs front node text : List ℕ) → length xs ≡ 96
    → length zs ≡ 96 → at ≤ 48 → drop at xs ≡ front ++ drop k ys
    → drop k ys ≡ node ++ 32 ∷ drop end zs → drop end zs ≡ text ++ 10 ∷ drop 48 zs
    → take (48 - at) (take (at + 48 - at) (drop at xs)) ≡ front ++ (node ++ 32 ∷ (text ++ 10 ∷ []))
row_front at k end xs ys zs front node text long same le first second third =
    let last = text ++ 10 ∷ [] in
    let later = node ++ 32 ∷ last in
    let rest = drop 48 zs in
    let tail = third ∙ sym (append_assoc text (10 ∷ []) rest) in
    let nodes = second ∙ ap (λ (l : List ℕ). node ++ 32 ∷ l) tail ∙ sym (append_assoc node (32 ∷ last) rest) in
    let whole = first ∙ ap (λ (l : List ℕ). front ++ l) nodes ∙ sym (append_assoc front later rest) in
    let count : length (front ++ later) ≡ 48 - at =
    omega (arith, ap length whole, length-append (front ++ later) rest, length-drop at xs, length-drop 48 zs, long, same, le) in
    take-take (48 - at) (at + 48 - at) (drop at xs) (omega (arith, le)) ∙ ap (take (48 - at)) whole
    ∙ ap (λ (n : ℕ). take n ((front ++ later) ++ rest)) (sym count) ∙ take-append_seam (front ++ later) rest
