use Rattle.posiform_check.proofs.Common.{◌≡◌, ◌<◌, length, rules, arith, ap, sym, ◌∙◌, Some, List, ℤ, to_z, of_z, w128, slice_get, vec_len, Product, product_of, length-zip_with, zip_with-at, Line, line_of}
use Rattle.posiform_check.proofs.lines.LineList.at.Goals as goal

pub at-requires : goal.at-requires
at-requires c =
    let fields = c.self.inside in
    let count = length-zip_with line_of fields.products fields.numbers.items c.self.invariant in
    omega (arith, c.requires, ap length c.self.view_is, count, c.self.invariant)

pub index-requires : goal.index-requires
index-requires c =
    let fields = c.self.inside in
    let held : vec_len fields.numbers ≡ length fields.numbers.items = search rules in
    let count = length-zip_with line_of fields.products fields.numbers.items c.self.invariant in
    omega (arith, c.requires, ap length c.self.view_is, count, held)

pub returns : goal.returns
returns c =
    let fields = c.self.inside in
    let count = length-zip_with line_of fields.products fields.numbers.items c.self.invariant in
    let within : c.args.i < length fields.numbers.items =
    omega (arith, c.requires, ap length c.self.view_is, count) in
    let here = zip_with-at _ _ _ _ _ _ c.at.ensures within c.index.ensures in
    let parts = c.literals.inside in
    let whole : to_z w128 (of_z w128 parts.coefficient) ≡ parts.coefficient = search rules in
    ap (λ (ls : List Line). slice_get ls c.args.i) (sym c.self.view_is) ∙ here
    ∙ ap (λ (t : Product). Some (line_of t c.index.result.now)) (sym c.literals.view_is)
    ∙ ap (λ (k : ℤ). Some (line_of (product_of parts.literals k) c.index.result.now)) (sym whole)
