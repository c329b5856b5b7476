use Rattle.poly_reader.proofs.Common.{◌≡◌, ◌<◌, true, List, ℕ, [], length, ap, sym, subst, arith, is_name}
use Rattle.poly_reader.proofs.names.Names.name.Goals as goal

pub as_text-requires : goal.as_text-requires
as_text-requires c =
    let i = c.args.variable in
    let within : i < length c.self.inside.names = omega (arith, c.requires, ap length c.self.view_is) in
    subst (λ (n : List ℕ). is_name n ≡ true) (sym c.list.ensures.listed)
    (c.self.invariant i [] within)
