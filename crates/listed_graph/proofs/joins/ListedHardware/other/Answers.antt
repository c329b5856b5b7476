use Rattle.listed_graph.proofs.Common.{◌≡◌, ℕ, List, ◌+◌, ◌*◌, ◌^◌, ◌<◌, arith, ap, ◌∙◌, not, length, get_or}
use Rattle.std.specs.Prelude.{nat_le, ◌%◌}
use Rattle.std.specs.Vec.{vec_len}
use Rattle.std.proofs.Common.{rules}
use Rattle.std.proofs.lemmas.List.{get_or_default}
use Rattle.std.proofs.lemmas.List.Sums.{prefix_len-le-length}
use Rattle.hardware.specs.Others.{IsOther}
use Rattle.listed_graph.specs.Rows.{others_of}
use Rattle.listed_graph.proofs.joins.ListedHardware.other.Goals as goal

-- a place of an other is one of the rows
below_all : (joins : List ℕ) (a k : ℕ) → IsOther (others_of joins a) k → k < length joins
below_all joins a k place =
    let within = prefix_len-le-length (λ n. not (nat_le ((a + 1) * 2 ^ 32) n)) joins in
    omega (arith, place.below, within)

pub index-requires : goal.index-requires
index-requires c =
    let joins = c.args.self.now.joins in
    let held : vec_len joins ≡ length joins.items = search rules in
    omega (arith, held, below_all joins.items c.args._a c.args.k c.requires.place)

pub returns : goal.returns
returns c =
    let joins = c.args.self.now.joins.items in
    let below = below_all joins c.args._a c.args.k c.requires.place in
    let same : c.index.result.now ≡ get_or joins c.args.k 0 =
    c.index.ensures ∙ get_or_default joins c.args.k c.index.result.now 0 below in
    ap (λ n. n % 2 ^ 32) same
