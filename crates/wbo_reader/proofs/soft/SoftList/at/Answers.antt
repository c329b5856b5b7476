use Rattle.wbo_reader.proofs.Common.{◌≡◌, ◌<◌, length, rules, arith, ap, sym, ◌∙◌, slice_get, vec_len, length-zip_with, zip_with-at}
use Rattle.wbo_reader.specs.SoftLists.{soft_of}
use Rattle.wbo_reader.proofs.soft.SoftList.at.Goals as goal

pub at-requires : goal.at-requires
at-requires c =
    let fields = c.self.inside in
    let count = length-zip_with soft_of fields.constraints fields.weights.items c.self.invariant in
    omega (arith, c.requires, ap length c.self.view_is, count, c.self.invariant)

pub index-requires : goal.index-requires
index-requires c =
    let fields = c.self.inside in
    let held : vec_len fields.weights ≡ length fields.weights.items = search rules in
    let count = length-zip_with soft_of fields.constraints fields.weights.items c.self.invariant in
    omega (arith, c.requires, ap length c.self.view_is, count, held)

pub returns : goal.returns
returns c =
    let fields = c.self.inside in
    let count = length-zip_with soft_of fields.constraints fields.weights.items c.self.invariant in
    let within : c.args.i < length fields.weights.items =
    omega (arith, c.requires, ap length c.self.view_is, count) in
    let here =
    zip_with-at soft_of fields.constraints fields.weights.items c.args.i c.at.result
    c.index.result.now c.at.ensures within c.index.ensures in
    ap (λ ts. slice_get ts c.args.i) (sym c.self.view_is) ∙ here
