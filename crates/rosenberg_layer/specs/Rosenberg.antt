-- A new node takes the place of a pair of literals in all terms of degree 3 or more that have both,
-- one pair after another, until no such term is left.
--
-- Let p and q be the first two literals of the first term of degree 3 or more, w a new node, and m
-- the sum of the sizes of the coefficients of the terms of degree 3 or more that have p and q. In
-- each of these w takes their place, and m * (p q - 2 p w - 2 q w + 3 w) is added. That is 0 where w
-- is the product of p and q, and at least m elsewhere. See Rosenberg, Reduction of bivalent
-- maximization to the quadratic case (1975).
--
-- So -4 * x * y * z gets the pair x, y and m = 4: it becomes -4 * z * w with
-- 4 * x * y - 8 * x * w - 8 * y * w + 12 * w. With x = 1, y = 0 and w = 1 the tie costs 4, and no
-- more than that is what the term gains by a node that is not its pair's product.
use Rattle.std.specs.Prelude.{◌≡◌, ℕ, zero, suc, ◌+◌, ◌-◌, ◌*◌, pos, neg_ℤ, Bool, false, not, ◌&&◌, nat_le, List, [], ◌∷◌, ◌++◌, map, length, fold, Option, Some, None, if◌then◌else◌}
use Rattle.std.specs.List.{filter, list_any, sum_by}
use Rattle.std.specs.Ordering.{is_eq}
use Rattle.form_steps.specs.declared.layer.BitsLink.{BitsLink}
use Rattle.literal_lists.specs.declared.literal.Literal.{Literal}
use Rattle.literal_lists.specs.Literals.{holds, literal_cmp}
use Rattle.term_table.specs.Terms.{Term, terms_total, with_additions}
use Rattle.term_table.specs.Tables.{TableContent, IsTable}

-- the node of a number, as a literal
abbrev pub node : ℕ → Literal
node n = record { variable = n; negated = false }

-- two literals that a node is to stand for
abbrev pub Pair : Type 0
Pair = Literal × Literal

-- ---- the terms that have both literals

-- the two are the same literal
abbrev pub is_literal : Literal → Literal → Bool
is_literal l k = is_eq (literal_cmp l k)

-- the literal is in the set
abbrev pub has_literal : Literal → List Literal → Bool
has_literal l ls = list_any (is_literal l) ls

-- the set without the literal
abbrev pub without : Literal → List Literal → List Literal
without l ls = filter (λ k. not (is_literal l k)) ls

-- a term of degree 3 or more
abbrev pub is_long : Term → Bool
is_long t = nat_le 3 (length t.0)

-- a term of degree 3 or more that has both literals of the pair, wherever they stand in it
abbrev pub has_pair : Pair → Term → Bool
has_pair pair t = is_long t && (has_literal pair.0 t.0 && has_literal pair.1 t.0)

-- ---- one substitution

-- A term that has the pair, with the node in its place, last; another stays as it is. The node has
-- the greatest number so far, so the term stays in order.
abbrev pub new_term : Pair → Literal → Term → Term
new_term pair w t =
    if has_pair pair t then (without pair.0 (without pair.1 t.0) ++ w ∷ [], t.1) else t

-- The sum of the sizes of the coefficients of the terms that have the pair. It is the least weight
-- with which a node that is not its pair's product never pays.
abbrev pub pair_total : Pair → List Term → ℕ
pair_total pair ts = terms_total (filter (has_pair pair) ts)

-- The terms m * (p q - 2 p w - 2 q w + 3 w), which tie the node to the product of the pair. For w =
-- p q they come to 0, for all four values of p and q; for another w to m, or to 3 * m where w is 1
-- and both are 0.
abbrev pub tie_terms : Pair → Literal → ℕ → List Term
tie_terms pair w m =
    (pair.0 ∷ pair.1 ∷ [], pos m)
    ∷ (pair.0 ∷ w ∷ [], neg_ℤ (pos (2 * m)))
    ∷ (pair.1 ∷ w ∷ [], neg_ℤ (pos (2 * m)))
    ∷ (w ∷ [], pos (3 * m))
    ∷ []

-- what the terms become when the node stands for the pair
abbrev pub replaced : Pair → Literal → List Term → List Term
replaced pair w ts = map (new_term pair w) ts ++ tie_terms pair w (pair_total pair ts)

-- The table with a new node for the pair, numbered after all others. Terms of one set are summed,
-- also with those that tie the node.
abbrev pub with_pair : Pair → TableContent → TableContent
with_pair pair t = record {
  width = t.width + 1;
  terms = with_additions [] (replaced pair (node t.width) t.terms);
}

-- ---- the run

-- the first two literals of the first term
abbrev pub front_pair : List Term → Option Pair
front_pair ((p ∷ q ∷ ls, c) ∷ ts) = Some (p, q)
front_pair _ = None

-- The first two literals of the first term of degree 3 or more. Terms are in order, so it is the
-- same whatever else is in the table.
abbrev pub next_pair : List Term → Option Pair
next_pair ts = front_pair (filter is_long ts)

-- the table with a new node for the pair, if there is one
abbrev pub with_next : Option Pair → TableContent → TableContent
with_next None t = t
with_next (Some pair) t = with_pair pair t

-- the table after one substitution, or as it was where no term has degree 3 or more
abbrev pub substituted : TableContent → TableContent
substituted t = with_next (next_pair t.terms) t

-- The table after so many substitutions. Where no term is long any more, further steps change
-- nothing.
abbrev pub run : ℕ → TableContent → TableContent
run zero t = t
run (suc k) t = run k (substituted t)

-- The sum of d - 2 over the terms of a degree d of 3 or more: each substitution takes from it, so
-- there are at most so many. A term of degree 5 counts 3, and is quadratic after 3 substitutions
-- that touch it.
abbrev pub excess : List Term → ℕ
excess ts = sum_by (λ t. length t.0 - 2) ts

-- the table at the end of the run, where no term has degree 3 or more
abbrev pub image : TableContent → TableContent
image t = run (excess t.terms) t

-- ---- the bits of the new nodes

-- the pair before others, if there is one
abbrev pub next_before : Option Pair → List Pair → List Pair
next_before None pairs = pairs
next_before (Some pair) pairs = pair ∷ pairs

-- the pairs of the first so many substitutions
abbrev pub pairs_of : ℕ → TableContent → List Pair
pairs_of zero t = []
pairs_of (suc k) t = next_before (next_pair t.terms) (pairs_of k (substituted t))

-- a state, and the product of two of its literals
abbrev pub with_product : List Bool → Pair → List Bool
with_product y pair = y ++ (holds y pair.0 && holds y pair.1) ∷ []

-- An assignment, and for each new node the product of its two literals. So each tie costs 0, and
-- each replaced term what it cost.
abbrev pub extension : List Bool → TableContent → List Bool
extension x t = fold with_product x (pairs_of (excess t.terms) t)

-- ---- the layer's link

-- a link between a table and its image
pub record Fits (link : BitsLink) (t : TableContent) : Type 0 where
  -- the state begins with the bits of the table's nodes
  pub source : link.source_width ≡ t.width
  -- and has one bit more for each substitution
  pub target : link.target_width ≡ (image t).width
  -- the terms are in order, over those nodes
  pub table : IsTable t
