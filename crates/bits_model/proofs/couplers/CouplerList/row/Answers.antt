use Rattle.bits_model.proofs.Common.{nat_tests, ◌≡◌, ◌+◌, ◌<◌, length, drop, ap, ◌∙◌, arith, rules, end_before, row_entries}
use Rattle.bits_model.proofs.EntryRows.{row_count_is, row_is, row_within}
use Rattle.bits_model.proofs.couplers.CouplerList.row.Goals as goal

pub index-requires : goal.index-requires
index-requires c =
    let size : length c.self.inside.starts.items ≡ c.self.inside.starts.len = search rules in
    omega (arith, row_count_is _ _ _ _ c.self.invariant c.self.view_is, c.requires, size)

pub end_of-requires : goal.end_of-requires
end_of-requires c =
    omega (arith, row_count_is _ _ _ _ c.self.invariant c.self.view_is, c.requires, ap length c.deref.ensures.value)

pub invariant_of-result : goal.invariant_of-result
invariant_of-result c = grind (arith, nat_tests, row_count_is, row_within)

pub returns : goal.returns
returns c =
    let rs = c.self.inside.starts.items in
    let ss = c.self.inside.seconds.items in
    let ws = c.self.inside.weights in
    let i = c.args.index in
    let r = c.index.result.now in
    let below : i < length rs = omega (arith, row_count_is _ _ _ _ c.self.invariant c.self.view_is, c.requires) in
    let size : c.len.result ≡ length ss = search rules in
    let end : c.end_of.result ≡ end_before (length ss) (drop (i + 1) rs) =
    c.end_of.ensures ∙ (λ j. end_before (size j) (drop (i + 1) (c.deref.ensures.value j))) in
    (λ j. row_entries (c.index.ensures j).first (c.index.ensures j).start (end j) (c.deref-2.ensures.value j) ws)
    ∙ row_is rs ss ws _ i r c.self.invariant c.self.view_is below
