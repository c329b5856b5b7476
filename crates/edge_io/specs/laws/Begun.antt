-- What is told before the first begin. Nothing here has to be believed.
use Rattle.std.specs.Prelude.{◌≡◌, ℕ, List, [], refl}
use Rattle.std.specs.declared.option.Option.{Option}
use Rattle.std.specs.Io.KnownBytes.{IsAtEnd}
use Rattle.std.proofs.Common.{subst, sym}
use Rattle.edge_io.specs.Held.{after_first, since_begin}

-- before the first begin nothing is told
pub after_first-none : (begun : ℕ) (told : List ℕ) → begun ≡ 0 → after_first begun told ≡ []
after_first-none begun told none = subst (λ (n : ℕ). after_first n told ≡ []) (sym none) refl

-- nor is the rest of a file
pub since_begin-none : (begun : ℕ) (rest : Option (List ℕ)) → begun ≡ 0
    → IsAtEnd (since_begin begun rest)
since_begin-none begun rest none = subst (λ (n : ℕ). IsAtEnd (since_begin n rest)) (sym none) tt
