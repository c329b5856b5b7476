-- Chains without a qubit twice, and the parents of their qubits.
use Rattle.embedding_check.proofs.Common.{AllZip, sum_by-cons, is_in, Embedding, IsEmbedding, parent_in, chain_of, occurrences-chain-le}
use Rattle.std.proofs.Common.{◌≡◌, ◌≢◌, ℕ, ◌<◌, ◌≤◌, true, false, cond, List, [], ◌∷◌, length, refl, sym, ap, ◌∙◌, arith}
use Rattle.std.specs.Prelude.{◌==◌, count_by, ⊤}
use Rattle.std.proofs.lemmas.Bool.{eq-eqb, ne_eqb, false_from_ne_true}
use Rattle.chain_layer.specs.laws.Whole.{in_first, in_rest}
use Rattle.chain_layer.specs.laws.Kept.{counted_in}

-- the qubits of the list are different: none of them is in the list behind it
abbrev pub Once : List ℕ → Type 0
Once [] = ⊤
Once (q ∷ qs) = (is_in qs q ≡ false) × Once qs

-- that is so where each occurs at most once
once_of : (qs : List ℕ) → ((q : ℕ) → count_by (λ p. p == q) qs ≤ 1) → Once qs
once_of [] h = tt
once_of (q ∷ qs) h = (
  false_from_ne_true _ (λ again.
      omega (
        arith,
        counted_in qs q again,
        h q,
        sum_by-cons (λ p. cond (p == q) 1 0) q qs,
        ap (λ b. cond {A = ℕ} b 1 0) (eq-eqb q q refl),
      )),
  once_of qs (λ p. omega (arith, h p, sum_by-cons (λ r. cond (r == p) 1 0) q qs)),
)

-- the qubits of a node's chain are different
pub chain_once : (e : Embedding) → IsEmbedding e → (i : ℕ) → i < length e.ising.fields
    → Once (chain_of e.chains i)
chain_once e kept i within =
    once_of (chain_of e.chains i) (λ q.
    omega (arith, kept.once q, occurrences-chain-le q e.chains i (omega (arith, within, kept.counted))))

-- the parents that a look-up gives: for each qubit of the second list the parent at its place,
-- where one looks among the first two
abbrev pub AreOwn : List ℕ → List ℕ → List ℕ → List ℕ → Type 0
AreOwn cs ds qs ps = AllZip (λ q p. parent_in cs ds q ≡ p) qs ps

-- a qubit that is in a list is another one than a qubit that is not
pub apart_qubits : (q c : ℕ) (cs : List ℕ) → is_in cs c ≡ false → is_in cs q ≡ true → (c ≢ q)
apart_qubits q c cs out in' same =
    let both : true ≡ false = sym in' ∙ sym (ap (is_in cs) same) ∙ out in cc

-- what holds of two lists, place by place, and implies something for a qubit of the first list
pub zip_weaker : (R S : ℕ → ℕ → Type 0) (qs ps : List ℕ)
    → ((q p : ℕ) → is_in qs q ≡ true → R q p → S q p) → AllZip R qs ps → AllZip S qs ps
zip_weaker R S [] [] over all = tt
zip_weaker R S [] (p ∷ ps) over all = all
zip_weaker R S (q ∷ qs) [] over all = all
zip_weaker R S (q ∷ qs) (p ∷ ps) over all = (
  over q p (in_first q qs) all.0,
  zip_weaker R S qs ps (λ r t in'. over r t (in_rest q r qs in')) all.1,
)

-- Where the qubits of a list are different, a look-up gives each of them the parent at its place.
-- So a tie can be named by its qubit alone.
pub own_parents : (cs ds : List ℕ) → Once cs → length cs ≡ length ds → AreOwn cs ds cs ds
own_parents [] [] once same = tt
own_parents [] (d ∷ ds) once same = absurd (omega (arith, same))
own_parents (c ∷ cs) [] once same = absurd (omega (arith, same))
own_parents (c ∷ cs) (d ∷ ds) once same = (
  ap (λ b. cond b d (parent_in cs ds c)) (eq-eqb c c refl),
  zip_weaker (λ q p. parent_in cs ds q ≡ p) (λ q p. parent_in (c ∷ cs) (d ∷ ds) q ≡ p) cs ds
      (λ q p in' own. ap (λ b. cond b d (parent_in cs ds q)) (ne_eqb c q (apart_qubits q c cs once.0 in')) ∙ own)
      (own_parents cs ds once.1 (omega (arith, same))),
)
