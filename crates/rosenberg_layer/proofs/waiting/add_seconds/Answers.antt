use Rattle.rosenberg_layer.proofs.Common.{◌≡◌, ℕ, ◌+◌, ◌*◌, ◌^◌, ◌<◌, ◌≤◌, ◌++◌, List, length, map, take, drop, get_or, set, ap, sym, subst, ◌∙◌, rules, arith, append-nil, drop_all, drop_more, get_or_at, length-map, length-take, take_all, map_over_more, key_of}
use Rattle.rosenberg_layer.proofs.waiting.add_seconds.Goals as goal

-- what is still to be changed is as it was
read_at : (f : ℕ → ℕ) (xs ys : List ℕ) (i t : ℕ) → i < length xs
    → ys ≡ map f (take i xs) ++ drop i xs → t ≡ get_or ys i t → t ≡ get_or xs i t
read_at f xs ys i t inside is read =
    let front : length (map f (take i xs)) ≡ i = simp (length-map, length-take) (omega (arith, inside)) in
    read ∙ ap (λ zs. get_or zs i t) is
    ∙ ap (λ zs. get_or (map f (take i xs) ++ zs) i t) (drop_more xs i t inside)
    ∙ get_or_at (map f (take i xs)) (get_or xs i t) (drop (i + 1) xs) t i front

pub second-requires : goal.second-requires
second-requires c =
    let xs = c.args.keys.now.items in
    let keys = c.loop-i.keys.items in
    let i = c.loop-i.i in
    let t = c.index-term.result.now in
    let within : i < length xs = search rules in
    let read : t ≡ get_or keys i t = search rules in
    let is = read_at (key_of c.args.terms.now) xs keys i t within c.loop-i.invariant read in
    subst (λ n. n < length c.args.terms.now) (sym is) (c.requires.terms i t within)

pub overflow_add-from : goal.overflow_add-from
overflow_add-from c =
    let xs = c.args.keys.now.items in
    let keys = c.loop-i.keys.items in
    let i = c.loop-i.i in
    let t = c.index-term.result.now in
    let within : i < length xs = search rules in
    let read : t ≡ get_or keys i t = search rules in
    let is = read_at (key_of c.args.terms.now) xs keys i t within c.loop-i.invariant read in
    omega (arith, is, c.requires.terms i t within, c.requires.narrow, c.from.ensures, c.second.type_inv)

pub returns : goal.returns
returns c =
    let f = key_of c.args.terms.now in
    let xs = c.args.keys.now.items in
    let i = c.loop-i.i in
    let low : length xs ≤ i =
    omega (arith, c.loop-i-test.false, c.len-i-end.ensures, c.args.keys.now.ok.0) in
    c.loop-i.invariant ∙ (λ j. map f (take_all i xs low j) ++ drop_all i xs low j)
    ∙ append-nil (map f xs)

pub loop-i-preserved : goal.loop-i-preserved
loop-i-preserved c =
    let xs = c.args.keys.now.items in
    let keys = c.loop-i.keys.items in
    let i = c.loop-i.i in
    let t = c.index-term.result.now in
    let within : i < length xs = search rules in
    let read : t ≡ get_or keys i t = search rules in
    ap (λ n. set keys i (n * 2 ^ 32 + t)) (c.from.ensures ∙ c.second.ensures)
    ∙ map_over_more (key_of c.args.terms.now) xs keys i t within c.loop-i.invariant read
