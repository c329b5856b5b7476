use Rattle.embedding_check.proofs.Common.{◌≡◌, ◌<◌, ℕ, suc, true, List, [], ◌∷◌, length, get_or, sym, subst, ap, ◌∙◌, arith, rules, nat_tests, Contains-get_or, Contains-permutation, IsPermutation-sym, length_permutation, is_in, first_of, Found, waiting, nil_from_length}
use Rattle.embedding_check.proofs.Levels.{level_first, level_next, level_last, one_rising}
use Rattle.embedding_check.proofs.search.search_chain.Goals as goal

pub levels-init : goal.levels-init
levels-init g c =
    let first = c.args.first in
    let begun = c.in_ok-search.ensures in
    let one : c.in_ok-level.level.items ≡ first ∷ [] = c.in_ok-level.ensures.items in
    let at = level_first _ c.args.chain.now c.args.sorted.now c.in_ok-search.search first c.requires.sorted begun.waits
    c.requires.below c.requires.first begun.gone begun.others in
    record {
      at = (0, rw one at);
      rising = rw one (one_rising first);
      none = begun.none;
      parents = begun.parents;
    }

pub spread_level-requires-clause-level : goal.spread_level-requires-clause-level
spread_level-requires-clause-level g c =
    let qs = c.args.sorted.now in
    let at = c.levels.invariant.at.1 in
    subst (λ (l : List ℕ). (k d : ℕ) → k < length l → get_or l k d < length qs) (sym c.deref.ensures.value)
    (λ k d h. (at.here (get_or c.levels.level.items k d) (Contains-get_or c.levels.level.items k d h)).0)

pub levels-smaller : goal.levels-smaller
levels-smaller g c =
    let level = c.levels.level.items in
    let some : 0 < length level = search (rules, nat_tests, c.is_empty.ensures, c.levels-test.true) in
    let waits = ap (λ (f : Found). waiting f) c.next_level.ensures.rest in
    let moved = length_permutation _ _ c.next_level.ensures.permutation in
    let none = ap (λ (l : List ℕ). length l) c.levels.invariant.none in
    omega (arith, some, waits, moved, c.in_ok-spread_level.ensures.moves.counted, none)

pub levels-preserved : goal.levels-preserved
levels-preserved g c =
    let joined = g.H.Hardware.joined c.args.hardware.now in
    let chain = c.args.chain.now in
    let qs = c.args.sorted.now in
    let next = c.next_level.new.level.items in
    let t = c.spread_level.new.self in
    let inv = c.levels.invariant in
    let rest = c.next_level.ensures.rest in
    let moved = c.next_level.ensures.permutation in
    let in' : is_in chain (first_of chain) ≡ true =
    subst (λ q. is_in chain q ≡ true) c.requires.first (c.requires.sorted.inside c.args.first c.requires.below) in
    let takes = rw c.deref.ensures.value at c.in_ok-spread_level.ensures in
    let after = level_next joined chain qs c.levels.level.items inv.at.0 c.levels.search c.requires.sorted inv.at.1 next t in' inv.none inv.rising takes
    (λ i h. Contains-permutation next t.next i (IsPermutation-sym t.next next moved) h)
    (λ i h. Contains-permutation t.next next i moved h) in
    record {
      at = (suc inv.at.0, rw rest after);
      rising = λ i j le below. c.next_level.ensures.sorted i j 0 le below;
      none = ap (λ (f : Found). f.next) rest;
      parents = ap (λ (f : Found). length f.parents) rest ∙ takes.moves.parents ∙ inv.parents;
    }

pub returns : goal.returns
returns g c =
    let chain = c.args.chain.now in
    let in' : is_in chain (first_of chain) ≡ true =
    subst (λ q. is_in chain q ≡ true) c.requires.first (c.requires.sorted.inside c.args.first c.requires.below) in
    let none : length c.levels.level.items ≡ 0 = search (rules, nat_tests, c.is_empty.ensures, c.levels-test.false) in
    level_last _ chain _ c.levels.level.items c.levels.invariant.at.0 c.levels.search in' c.requires.sorted c.levels.invariant.at.1 (nil_from_length c.levels.level.items none) c.levels.invariant.parents
