use Rattle.chain_layer.proofs.Common.{◌++◌, length, sym, ap, ◌∙◌, IsingContent, IfOk-weaker, IsPermutation, IsPermutation-append_left, IsPermutation-trans, all_ties, placed, subst}
use Rattle.chain_layer.proofs.Added.{zip_lengths}
use Rattle.chain_layer.proofs.ties.couplings_of.Goals as goal

pub merged-requires-clause-len : goal.merged-requires-clause-len
merged-requires-clause-len c =
    let form = c.behind-source.view_is ∙ c.ising.ensures.form in
    ap length (c.as_slice-places.ensures ∙ c.places.ensures) ∙ sym (zip_lengths _ _ _ c.requires.kept.placed)
    ∙ sym (ap (λ (f : IsingContent). length f.couplings) form)

pub returns-then-ascend-clause-same : goal.returns-then-ascend-clause-same
returns-then-ascend-clause-same c =
    let e = c.args.source.now in
    let form = ap (λ (f : IsingContent). f.couplings) (c.behind-source.view_is ∙ c.ising.ensures.form) in
    let places = c.as_slice-places.ensures ∙ c.places.ensures in
    IfOk-weaker c.merged.result _ _
    (λ list same. IsPermutation-trans (all_ties e ++ placed e.ising.couplings e.places)
    (c.in_ok-ties.ties ++ placed e.ising.couplings e.places) list
    (IsPermutation-append_left (placed e.ising.couplings e.places) (all_ties e) c.in_ok-ties.ties c.in_ok-ties.ensures.same)
    (subst (λ es. IsPermutation (c.in_ok-ties.ties ++ es) list) (λ i. placed (form i) (places i)) same))
    c.merged.ensures.same
