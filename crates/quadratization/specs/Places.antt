-- What a term gives a quadratic form, without any term in between.
--
-- Let c be the coefficient of a term of three literals or more, d its degree, e the number of its
-- complements. Where c is positive, each pair of its literals is multiplied out, and each of its
-- new nodes with all its literals. Where c is negative, its one new node is. A complement turns the
-- sign of its couplers, and moves as much to the other node, or to the constant.
use Rattle.std.specs.Prelude.{ℕ, zero, suc, ◌+◌, ◌-◌, ◌*◌, ◌/◌, ℤ, pos, neg_ℤ, ◌-ℤ◌, ◌*ℤ◌, int_lt, List, [], ◌∷◌, ◌++◌, map, length, if◌then◌else◌}
use Rattle.std.specs.List.{count_by}
use Rattle.bits_model.specs.declared.output.Entry.{Entry}
use Rattle.literal_lists.specs.declared.literal.Literal.{Literal}
use Rattle.term_table.specs.Terms.{Term}
use Rattle.quad_form.specs.Short.{signed, pair_coupler, Share}
use Rattle.quadratization.specs.TermPlaces.{Place}
use Rattle.monomial_layer.specs.Monomials.{factor, nodes_for, new_nodes}

-- how many literals are complements
abbrev pub complements : List Literal → ℕ
complements ls = count_by (λ l. l.negated) ls

-- how many pairs there are among n
abbrev pub pairs_among : ℕ → ℕ
pairs_among n = n * (n - 1) / 2

-- ---- couplers

-- the coupler of a literal and a new node
abbrev pub node_coupler : Literal → ℤ → ℕ → Entry
node_coupler l c n = record { first = l.variable; second = n; weight = signed l c }

-- the couplers of a literal and the first k new nodes, numbered from n on, of a positive term
abbrev pub node_couplers : Literal → ℕ → ℤ → ℕ → ℕ → List Entry
node_couplers l d c n zero = []
node_couplers l d c n (suc k) =
    node_couplers l d c n k ++ node_coupler l (neg_ℤ (c *ℤ pos (factor d k))) (n + k) ∷ []

-- the couplers of a literal with those after it, and with the new nodes
abbrev pub place_couplers : Place → List Entry
place_couplers p =
    if int_lt p.coefficient (pos 0)
    then node_coupler p.literal p.coefficient p.first_node ∷ []
    else (
    map (pair_coupler p.literal p.coefficient) p.later
    ++ node_couplers p.literal p.degree p.coefficient p.first_node (nodes_for p.degree)
    )

-- ---- weights of nodes

-- of a literal's variable, in a positive term with e complements: one for each other complement
abbrev pub literal_share : ℕ → ℤ → Literal → Share
literal_share e c l = (l.variable, if l.negated then neg_ℤ (c *ℤ pos (e - 1)) else (c *ℤ pos e))

-- of the new node after k others, in a positive term
abbrev pub node_share : ℕ → ℕ → ℤ → ℕ → ℕ → Share
node_share d e c n k = (n + k, c *ℤ (pos (factor d k) *ℤ (pos (2 * k + 2) -ℤ pos e) -ℤ pos 1))

-- of the first k new nodes, numbered from n on, of a positive term
abbrev pub node_shares : ℕ → ℕ → ℤ → ℕ → ℕ → List Share
node_shares d e c n zero = []
node_shares d e c n (suc k) = node_shares d e c n k ++ node_share d e c n k ∷ []

-- of the literals of a positive term with e complements, one after another
abbrev pub own_shares : ℕ → ℤ → List Literal → List Share
own_shares e c ls = map (literal_share e c) ls

-- of all new nodes of a positive term of degree d, numbered from n on
abbrev pub new_shares : ℕ → ℕ → ℤ → ℕ → List Share
new_shares d e c n = node_shares d e c n (nodes_for d)

-- of a long term, whose new nodes are numbered from n on
abbrev pub term_shares : Term → ℕ → List Share
term_shares t n =
    if int_lt t.1 (pos 0)
    then (n, t.1 *ℤ (pos (complements t.0 + 1) -ℤ pos (length t.0))) ∷ []
    else (
    own_shares (complements t.0) t.1 t.0
    ++ new_shares (length t.0) (complements t.0) t.1 n
    )

-- of long terms, their new nodes being numbered from n on
abbrev pub all_shares : List Term → ℕ → List Share
all_shares [] n = []
all_shares (t ∷ ts) n = term_shares t n ++ all_shares ts (n + new_nodes t)

-- ---- constants

-- of a long term: where it is positive, once for each pair of complements
abbrev pub long_constant : Term → ℤ
long_constant t = if int_lt t.1 (pos 0) then pos 0 else (t.1 *ℤ pos (pairs_among (complements t.0)))
