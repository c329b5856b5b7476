-- One node after another: what the words that are left say, and the marks.
use Rattle.elimination_order.proofs.Common.{nat_tests, ◌≡◌, ℕ, ◌<◌, Bool, true, false, ◌||◌, eqb, refl, ap, arith, List, [], ◌∷◌, ◌++◌, length, set, length-set, get_or-set_other, get_or-set_same, append_assoc, append-nil, Ok, Err, Result, list_any-append, is_in, TextFault, Word, ◌>>=◌, AreMarks, after_front, new_node, nodes_at, or-false}

-- ---- words

go_on : (front : List ℕ) (n : ℕ) (rest : Result (List ℕ) TextFault)
    → after_front front (rest >>= (λ others. Ok (n ∷ others))) ≡ after_front (front ++ n ∷ []) rest
go_on front n rest = grind (arith, nat_tests, append_assoc)

-- one node more
pub named_more : (nodes : ℕ) (named : List ℕ) (w : Word) (ws : List Word) (n : ℕ)
    → new_node nodes named w ≡ Ok n → after_front named (nodes_at nodes named (w ∷ ws))
    ≡ after_front (named ++ n ∷ []) (nodes_at nodes (named ++ n ∷ []) ws)
unfolding nodes_at
named_more nodes named w ws n read = grind (arith, nat_tests, go_on)

pub named_fault : (nodes : ℕ) (named : List ℕ) (w : Word) (ws : List Word) (f : TextFault)
    → new_node nodes named w ≡ Err f → after_front named (nodes_at nodes named (w ∷ ws)) ≡ Err f
unfolding nodes_at
named_fault nodes named w ws f read = grind (arith, nat_tests)

pub named_end : (nodes : ℕ) (named : List ℕ) → after_front named (nodes_at nodes named []) ≡ Ok named
unfolding nodes_at
named_end nodes named = ap Ok (append-nil named)

pub front_none : (r : Result (List ℕ) TextFault) → after_front [] r ≡ r
front_none r = grind (arith, nat_tests)

-- ---- marks

in-push : (named : List ℕ) (n m : ℕ) → is_in (named ++ n ∷ []) m ≡ (is_in named m || eqb n m)
in-push named n m = grind (arith, nat_tests, list_any-append, or-false)

-- one node more is marked
pub marks_more : (marks : List Bool) (named : List ℕ) (n : ℕ) → n < length marks
    → AreMarks (length marks) marks named
    → AreMarks (length (set marks n true)) (set marks n true) (named ++ n ∷ [])
marks_more marks named n h are = record {
  long = refl;
  at = λ m k.
      let here = get_or-set_same marks n true false h in
      let other = get_or-set_other marks n m true false in
      let before = are.at m in
      let push = in-push named n m in
      let size = length-set marks n true in
      grind (arith, nat_tests);
}
