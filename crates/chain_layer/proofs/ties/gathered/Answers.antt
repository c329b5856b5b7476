use Rattle.chain_layer.proofs.Common.{length, sym, ap, ◌∙◌, IsingContent}
use Rattle.chain_layer.proofs.Added.{zip_lengths}
use Rattle.chain_layer.proofs.ties.gathered.Goals as goal

pub add_placed-requires : goal.add_placed-requires
add_placed-requires c =
    let form = c.behind-source.view_is ∙ c.ising.ensures.form in
    ap length (c.as_slice.ensures ∙ c.places.ensures) ∙ sym (zip_lengths _ _ _ c.requires.kept.placed)
    ∙ sym (ap (λ (f : IsingContent). length f.couplings) form)
