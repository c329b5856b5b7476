-- A qubit in no chain has the field 0.
use Rattle.chain_layer.proofs.Common.{◌≡◌, ℕ, zero, suc, ◌<◌, false, List, [], ◌∷◌, length, pos, refl, ap, ◌∙◌, arith, ◌==◌, AllByRecursion, ints, or_parts, if_so, Entry, is_chained, is_in, Embedding, IsEmbedding, chain_of, field_of, field_at, shares, all_shares, shares_of, each_of_range}
use Rattle.chain_layer.proofs.Sizes.{eqb-comm}

not_in : (chains : List (List ℕ)) (q i : ℕ) → is_chained chains q ≡ false → i < length chains
    → is_in (chain_of chains i) q ≡ false
not_in [] q i none within = absurd (omega arith)
not_in (c ∷ cs) q zero none within = (or_parts (is_in c q) (is_chained cs q) none).0
not_in (c ∷ cs) q (suc i) none within =
    not_in cs q i (or_parts (is_in c q) (is_chained cs q) none).1 (omega arith)

others : (chain : List ℕ) (q : ℕ) → is_in chain q ≡ false
    → AllByRecursion (λ p. (q == p) ≡ false) chain
others [] q none = tt
others (p ∷ ps) q none =
    let parts = or_parts (p == q) (is_in ps q) none in (eqb-comm q p ∙ parts.0, others ps q parts.1)

nothing : (es : List Entry) (q : ℕ) → AllByRecursion (λ e. (q == e.first) ≡ false) es
    → field_at es q ≡ pos 0
nothing [] q h = refl
nothing (e ∷ es) q h = omega (arith, ints, ap (λ b. if_so b e.weight) h.0, nothing es q h.1)

pub unchained_field : (e : Embedding) → IsEmbedding e → (q : ℕ) → is_chained e.chains q ≡ false
    → field_at (all_shares e) q ≡ pos 0
unchained_field e kept q none =
    nothing (all_shares e) q
    (each_of_range (λ s. (q == s.first) ≡ false) (λ i. shares (chain_of e.chains i) (field_of e i)) 0
    (length e.ising.fields) (λ i low high.
    shares_of (λ p. (q == p) ≡ false) (chain_of e.chains i) (field_of e i)
    (others (chain_of e.chains i) q (not_in e.chains q i none (omega (arith, high, kept.counted))))))
