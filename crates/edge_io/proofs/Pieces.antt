-- What a sink has taken of a piece, and of several pieces one after the other.
use Rattle.edge_io.proofs.Common.{nat_tests, ◌≡◌, ℕ, ◌+◌, ◌-◌, ◌<◌, ◌≤◌, List, [], ◌∷◌, ◌++◌, sym, ap, ◌∙◌, subst, append_assoc, length, take, drop, get_or, Bor, arith, Appends-nil, Appends-trans, take-append-drop, take_rest, take_more, append-nil, length-append, length-take, flat_map-append, Appends, RoseBy, Taken, Takes, TakesFront, Passes, joined_bytes}

-- ---- what is told of one piece and the next

Takes-nil : (a : Taken) → Takes a a []
Takes-nil a = record { bytes = Appends-nil a.bytes; count = omega arith }

pub Takes-trans : (a b c : Taken) (xs ys : List ℕ) → Takes a b xs → Takes b c ys → Takes a c (xs ++ ys)
Takes-trans a b c xs ys h k = record {
  bytes = Appends-trans a.bytes b.bytes c.bytes xs ys h.bytes k.bytes;
  count = omega (arith, h.count, k.count, length-append xs ys);
}

-- a write took n bytes
pub Takes-write : (a b : Taken) (piece : List ℕ) (n : ℕ) → n ≤ length piece → Appends a.bytes b.bytes (take n piece)
    → RoseBy n a.count b.count → Takes a b (take n piece)
Takes-write a b piece n within bytes count = record { bytes = bytes; count = omega (arith, count, length-take n piece) }

-- a front of the piece was taken, and then n bytes of what was left of it
pub piece_more : (a b c : Taken) (piece front rest : List ℕ) (n : ℕ) → piece ≡ front ++ rest
    → Takes a b front → Takes b c (take n rest)
    → (more : List ℕ) × (piece ≡ more ++ take (length rest - n) (drop n rest)) × Takes a c more
piece_more a b c piece front rest n split before now =
    let more = front ++ take n rest in
    let cut = ap (λ l. front ++ l) (sym (take-append-drop n rest)) in
    let moved = sym (append_assoc front (take n rest) (drop n rest)) in
    let left = ap (λ l. more ++ l) (sym (take_rest rest n)) in
    (more, split ∙ cut ∙ moved ∙ left, Takes-trans a b c front (take n rest) before now)

-- the pieces up to and with the next one
joined_bytes-take_more : (pieces : List (Bor (List ℕ))) (i : ℕ) (d : Bor (List ℕ)) → i < length pieces
    → joined_bytes (take (i + 1) pieces) ≡ joined_bytes (take i pieces) ++ (get_or pieces i d).now
joined_bytes-take_more pieces i d within =
    let piece = get_or pieces i d in
    ap joined_bytes (take_more pieces i d within)
    ∙ flat_map-append (λ (p : Bor (List ℕ)). p.now) (take i pieces) (piece ∷ [])
    ∙ ap (λ l. joined_bytes (take i pieces) ++ l) (append-nil piece.now)

-- one piece more was taken whole
pub pieces_more : (a b c : Taken) (pieces : List (Bor (List ℕ))) (i : ℕ) (d : Bor (List ℕ)) → i < length pieces
    → Takes a b (joined_bytes (take i pieces)) → Takes b c (get_or pieces i d).now → Takes a c (joined_bytes (take (i + 1) pieces))
pieces_more a b c pieces i d within before now =
    subst (Takes a c) (sym (joined_bytes-take_more pieces i d within)) (Takes-trans a b c _ _ before now)

-- of the next piece a front was taken
pub pieces_front : (a b c : Taken) (pieces : List (Bor (List ℕ))) (i : ℕ) (d : Bor (List ℕ)) → i < length pieces
    → Takes a b (joined_bytes (take i pieces)) → TakesFront b c (get_or pieces i d).now → TakesFront a c (joined_bytes pieces)
pieces_front a b c pieces i d within before now =
    let done = joined_bytes (take i pieces) in
    let piece = (get_or pieces i d).now in
    let later = joined_bytes (drop (i + 1) pieces) in
    let all : joined_bytes pieces ≡ (done ++ piece) ++ later =
    ap joined_bytes (sym (take-append-drop (i + 1) pieces))
    ∙ flat_map-append (λ (p : Bor (List ℕ)). p.now) (take (i + 1) pieces) (drop (i + 1) pieces)
    ∙ ap (λ l. l ++ later) (joined_bytes-take_more pieces i d within) in
    let split : (done ++ piece) ++ later ≡ (done ++ now.0) ++ (now.1 ++ later) =
    ap (λ l. (done ++ l) ++ later) now.2 ∙ simp append_assoc in
    (done ++ now.0, now.1 ++ later, all ∙ split, Takes-trans a b c _ _ before now.3)

-- ---- pending bytes before a sink

-- one piece and then another
pub Passes-trans : (a b c : Taken) (p q r xs ys : List ℕ) → Passes a b p q xs → Passes b c q r ys → Passes a c p r (xs ++ ys)
Passes-trans a b c p q r xs ys h k =
    let cut : p ++ (xs ++ ys) ≡ (h.0 ++ k.0) ++ r =
    sym (append_assoc p xs ys) ∙ ap (λ l. l ++ ys) h.1 ∙ append_assoc h.0 q ys ∙ ap (λ l. h.0 ++ l) k.1 ∙ sym (append_assoc h.0 k.0 r) in
    (h.0 ++ k.0, cut, Takes-trans a b c h.0 k.0 h.2 k.2)

-- one piece, and then of the pending bytes and another piece only a front
pub Passes-front : (a b c : Taken) (p q xs ys : List ℕ) → Passes a b p q xs → TakesFront b c (q ++ ys) → TakesFront a c (p ++ (xs ++ ys))
Passes-front a b c p q xs ys h k =
    let cut : p ++ (xs ++ ys) ≡ (h.0 ++ k.0) ++ k.1 =
    sym (append_assoc p xs ys) ∙ ap (λ l. l ++ ys) h.1 ∙ append_assoc h.0 q ys ∙ ap (λ l. h.0 ++ l) k.2 ∙ sym (append_assoc h.0 k.0 k.1) in
    (h.0 ++ k.0, k.1, cut, Takes-trans a b c h.0 k.0 h.2 k.3)

-- a piece that stays pending
pub Passes-kept : (a : Taken) (p left xs : List ℕ) → left ≡ p ++ xs → Passes a a p left xs
Passes-kept a p left xs e = ([], sym e, Takes-nil a)

-- a piece that went to the sink with all that was pending
pub Passes-written : (a b : Taken) (p left xs : List ℕ) → left ≡ [] → Takes a b (p ++ xs) → Passes a b p left xs
Passes-written a b p left xs e h = (p ++ xs, sym (ap (λ l. (p ++ xs) ++ l) e ∙ append-nil (p ++ xs)), h)

-- a front of a front
pub TakesFront-more : (a b : Taken) (xs ys : List ℕ) → TakesFront a b xs → TakesFront a b (xs ++ ys)
TakesFront-more a b xs ys h = (h.0, h.1 ++ ys, ap (λ l. l ++ ys) h.2 ∙ append_assoc h.0 h.1 ys, h.3)

-- the rest of a piece was cut at a place
pub parts_again : (piece front rest part after : List ℕ) (n : ℕ) → piece ≡ front ++ rest → part ≡ take n rest → after ≡ drop n rest → piece ≡ (front ++ part) ++ after
parts_again piece front rest part after n e p a =
    grind (arith, nat_tests, take-append-drop, append_assoc)
