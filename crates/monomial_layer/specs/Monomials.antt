-- Quadratic terms in place of each term of degree 3 or more, with new nodes.
--
-- Let d be the degree, c the coefficient, s the number of true literals and s2 that of their pairs.
--
-- Where c is negative, a new node w stands for all literals: |c| * w * ((d - 1) - s). See Freedman
-- and Drineas, Energy minimization via graph cuts: settling what is possible (2005).
--
-- Where c is positive, there are floor((d - 1) / 2) new nodes w1, w2, .. and c * s2 plus the sum
-- over i of c * wi * (fi * (2i - s) - 1), where fi is 1 for the last node of an odd degree and 2
-- elsewhere. See Ishikawa, Transformation of general binary MRF minimization to the first-order
-- case (2011).
--
-- So -4 * x * y * z becomes 8 * w - 4 * x * w - 4 * y * w - 4 * z * w, and 2 * x * y * z becomes 2
-- * x * y + 2 * x * z + 2 * y * z and 2 * w - 2 * x * w - 2 * y * w - 2 * z * w.
use Rattle.std.specs.Prelude.{◌≡◌, ℕ, zero, suc, ◌+◌, ◌-◌, ◌*◌, ◌/◌, ℤ, pos, neg_ℤ, ◌*ℤ◌, Bool, false, nat_eq, nat_le, int_lt, List, [], ◌∷◌, ◌++◌, map, length, if◌then◌else◌}
use Rattle.std.specs.List.{count_by, flat_map, sum_by}
use Rattle.form_steps.specs.declared.layer.BitsLink.{BitsLink}
use Rattle.literal_lists.specs.declared.literal.Literal.{Literal}
use Rattle.literal_lists.specs.Literals.{holds, all_hold}
use Rattle.term_table.specs.Terms.{Term, with_additions}
use Rattle.term_table.specs.Tables.{TableContent, IsTable}

-- The node of a number, as a literal. It is never complemented.
abbrev pub node : ℕ → Literal
node n = record { variable = n; negated = false }

-- ---- sums of products, multiplied out

-- a literal times each of a list, with the literal first: the node or variable of the lesser number
-- stands first in a set
abbrev pub with_each : Literal → ℤ → List Literal → List Term
with_each l c ks = map (λ k. (l ∷ k ∷ [], c)) ks

-- each of a list times a literal that stands after all of them, as a new node does
abbrev pub each_with : List Literal → Literal → ℤ → List Term
each_with ks l c = map (λ k. (k ∷ l ∷ [], c)) ks

-- the products of all pairs, each with this coefficient: d * (d - 1) / 2 of them
abbrev pub pair_terms : List Literal → ℤ → List Term
pair_terms [] c = []
pair_terms (l ∷ ls) c = with_each l c ls ++ pair_terms ls c

-- ---- in place of one term

-- One node where the coefficient is negative: it is worth taking where all literals are true. The
-- node costs |c| * (d - 1) and gives back |c| for each true literal.
abbrev pub negative_terms : List Literal → ℤ → ℕ → List Term
negative_terms ls c n = (node n ∷ [], neg_ℤ (c *ℤ pos (length ls - 1))) ∷ each_with ls (node n) c

-- The factor of the node after k others, in a term of degree d: 1 for the last of an odd degree. A
-- term of degree 5 has two nodes, of the factors 2 and 1; one of degree 6 has two of factor 2.
abbrev pub factor : ℕ → ℕ → ℕ
factor d k = if nat_eq d (2 * k + 3) then 1 else 2

-- The node w after k others: c * w * (f * (2 * (k + 1) - s) - 1). It costs c * (f * (2 * k + 2) -
-- 1) where it is 1, and gives back c * f for each true literal.
abbrev pub node_term : List Literal → ℤ → Literal → ℕ → List Term
node_term ls c w k =
    (w ∷ [], c *ℤ pos (factor (length ls) k * (2 * k + 2) - 1))
    ∷ each_with ls w (neg_ℤ (c *ℤ pos (factor (length ls) k)))

-- the first k nodes, numbered from n on
abbrev pub node_terms : List Literal → ℤ → ℕ → ℕ → List Term
node_terms ls c n zero = []
node_terms ls c n (suc k) = node_terms ls c n k ++ node_term ls c (node (n + k)) k

-- How many nodes a positive term of degree d has. For the degrees 3 to 6 they are 1, 1, 2 and 2.
abbrev pub nodes_for : ℕ → ℕ
nodes_for d = (d - 1) / 2

-- the pairs, and the nodes, where the coefficient is positive: what the pairs cost too much, the
-- nodes give back
abbrev pub positive_terms : List Literal → ℤ → ℕ → List Term
positive_terms ls c n = pair_terms ls c ++ node_terms ls c n (nodes_for (length ls))

-- ---- in place of a list of terms

-- a term of degree at most 2 stays as it is
abbrev pub is_low : Term → Bool
is_low t = nat_le (length t.0) 2

-- How many new nodes a term has. A term of degree 2 or less has none, and a negative one has one,
-- whatever its degree is.
abbrev pub new_nodes : Term → ℕ
new_nodes t = if is_low t then 0 else (if int_lt t.1 (pos 0) then 1 else nodes_for (length t.0))

-- what stands for a term, its new nodes being numbered from n on
abbrev pub new_terms : Term → ℕ → List Term
new_terms t n =
    if is_low t
    then t ∷ []
    else (if int_lt t.1 (pos 0) then negative_terms t.0 t.1 n else positive_terms t.0 t.1 n)

-- What stands for each term, one after another. The new nodes of a term are numbered after those of
-- the terms before it.
abbrev pub all_new_terms : List Term → ℕ → List Term
all_new_terms [] n = []
all_new_terms (t ∷ ts) n = new_terms t n ++ all_new_terms ts (n + new_nodes t)

-- ---- the layer's members

-- The new nodes are numbered after the variables, in the order of the terms. Terms of one set that
-- come from two terms are summed, and what sums to 0 is left out.
abbrev pub image : TableContent → TableContent
image t = record {
  width = t.width + sum_by new_nodes t.terms;
  terms = with_additions [] (all_new_terms t.terms t.width);
}

-- a link between a table and its image
pub record Fits (link : BitsLink) (t : TableContent) : Type 0 where
  -- the state begins with the bits of the table's nodes
  pub source : link.source_width ≡ t.width
  -- and has the bits of all new nodes after them
  pub target : link.target_width ≡ t.width + sum_by new_nodes t.terms
  -- the terms are in order, over those nodes
  pub table : IsTable t

-- ---- the bits of the new nodes

-- A node is 1 where what it is multiplied by is negative: the node after k others where at least 2
-- * (k + 1) literals are true. With 3 true literals the first node is 1 and the second is 0.
abbrev pub is_taken : ℕ → ℕ → Bool
is_taken s k = nat_le (2 * k + 2) s

-- the first n values of a function
abbrev pub first_values : (ℕ → Bool) → ℕ → List Bool
first_values f zero = []
first_values f (suc n) = first_values f n ++ f n ∷ []

-- how many literals are true
abbrev pub true_literals : List Bool → List Literal → ℕ
true_literals x ls = count_by (holds x) ls

-- The bits of a term's new nodes, under an assignment. A negative term's node is 1 where all
-- literals are true.
abbrev pub new_bits : List Bool → Term → List Bool
new_bits x t =
    if is_low t
    then []
    else (
    if int_lt t.1 (pos 0)
    then all_hold x t.0 ∷ []
    else first_values (is_taken (true_literals x t.0)) (nodes_for (length t.0))
    )

-- An assignment, and the bits of all new nodes. The bits of the new nodes of each term, in the
-- order of the terms.
abbrev pub extension : List Bool → List Term → List Bool
extension x ts = x ++ flat_map (new_bits x) ts
