-- Couplers that are taken one after another, by their indices.
use Rattle.ising_form.proofs.Common.{◌≡◌, ℕ, ◌+◌, ◌-◌, ◌<◌, List, [], ◌∷◌, length, take, drop, get_or, sym, ap, ◌∙◌, arith, drop_more, length-drop, take_all, Entry}

-- how many were taken, where these are left
abbrev pub taken : List Entry → List Entry → ℕ
taken es left = length es - length left

-- e is the next of the couplers, and the others are left after it
pub record IsNext (es left rest : List Entry) (e d : Entry) : Type 0 where
  pub below : taken es left < length es
  pub item : e ≡ get_or es (taken es left) d
  pub next : taken es rest ≡ taken es left + 1
  pub here : rest ≡ drop (taken es rest) es

pub next_taken : (es left rest : List Entry) (e d : Entry) → left ≡ drop (taken es left) es
    → left ≡ e ∷ rest → IsNext es left rest e d
next_taken es left rest e d here is =
    let i = taken es left in
    let size = ap length here in
    let below : i < length es = omega (arith, size, length-drop i es, ap length is) in
    let both : e ∷ rest ≡ get_or es i d ∷ drop (i + 1) es = sym is ∙ here ∙ drop_more es i d below in
    let item : e ≡ get_or es i d = cc both in
    let after : rest ≡ drop (i + 1) es = cc both in
    let next : taken es rest ≡ i + 1 = omega (arith, size, length-drop i es, ap length is) in
    record { below = below; item = item; next = next; here = after ∙ ap (λ n. drop n es) (sym next) }

-- none is left
pub all_taken : (es left : List Entry) → left ≡ [] → take (taken es left) es ≡ es
all_taken es left none = take_all (taken es left) es (omega (arith, ap length none))
