-- No index that is read is above the limit, so as many variables are enough; and there are no more
-- constraints than words.
use Rattle.wbo_reader.proofs.Common.{ℕ, zero, suc, ◌<◌, ◌≤◌, Bool, List, [], ◌∷◌, ◌++◌, length, Result, Ok, IfOk, arith, if◌then◌else◌, nat_tests, TextFault, Word, ◌>>=◌, Literal, Product, Listed, widened, literals_in, is_operator, never, many, index_at, name_at, literal_at, literals_at, product_at, coefficient_at, term_at, sum_at, constraint_at, Reader, widened-append, Weighed, greatest_index, all_literals, weighed_at, constraints_at}
use Rattle.wbo_reader.proofs.Fronts.{any}

-- ---- one literal

index_within : (limit line : ℕ) (digits : List ℕ)
    → IfOk (index_at limit line digits) (λ v. v < limit)
unfolding index_at
index_within limit line digits = grind (arith, nat_tests)

name_within : (limit line : ℕ) (bytes : List ℕ) → IfOk (name_at limit line bytes) (λ v. v < limit)
unfolding name_at
name_within limit line bytes = grind (arith, nat_tests, index_within)

-- the variable of a literal is below this
abbrev IsBelow : ℕ → Literal → Type 0
IsBelow limit l = l.variable < limit

literal_within : (limit : ℕ) (w : Word) → IfOk (literal_at limit w) (IsBelow limit)
unfolding literal_at
literal_within limit w = grind (arith, nat_tests, name_within limit w.line)

-- ---- literals

-- no more variables than this are needed, where no more were needed before
abbrev pub Fits : ℕ → List Literal → Type 0
Fits limit ls = (v : ℕ) → v ≤ limit → widened v ls ≤ limit

fits-append : (limit : ℕ) (ls ks : List Literal) → Fits limit ls → Fits limit ks
    → Fits limit (ls ++ ks)
fits-append limit ls ks first second v le = grind (arith, nat_tests, widened-append)

-- what is read fits
abbrev FitsFirst : ℕ → List Literal × List Word → Type 0
FitsFirst limit x = Fits limit x.0

abbrev with_first : Literal → List Literal × List Word → Result (List Literal × List Word) TextFault
with_first l x = Ok (l ∷ x.0, x.1)

first_fits : (limit : ℕ) (w : Word) (rest : Result (List Literal × List Word) TextFault)
    → IfOk rest (FitsFirst limit)
    → IfOk (literal_at limit w >>= λ l. rest >>= with_first l) (FitsFirst limit)
first_fits limit w rest h = grind (arith, nat_tests, literal_within limit w)

literals_fit : (limit : ℕ) (ws : List Word) → IfOk (literals_at limit ws) (FitsFirst limit)
unfolding literals_at
literals_fit limit [] = λ v le. le
literals_fit limit (w ∷ ws) =
    grind (arith, nat_tests, literals_fit limit ws, first_fits limit w (literals_at limit ws))

product_fits : (limit end : ℕ) (ws : List Word) → IfOk (product_at limit end ws) (FitsFirst limit)
unfolding product_at
product_fits limit end [] = tt
product_fits limit end (w ∷ ws) = first_fits limit w (literals_at limit ws) (literals_fit limit ws)

-- ---- sums

abbrev FitsTerm : ℕ → Product × List Word → Type 0
FitsTerm limit x = Fits limit x.0.literals

term_fits : (limit end : ℕ) (w : Word) (ws : List Word)
    → IfOk (term_at limit end w ws) (FitsTerm limit)
unfolding term_at
term_fits limit end w ws =
    grind (arith, nat_tests, any (coefficient_at w), product_fits limit end ws)

-- what holds of each thing that is read holds of all, where one more and the others keep it
module _ {A : Type 0} (P : A → Type 0) (Q : List A → Type 0) (none : Q [])
    (more : (a : A) (as' : List A) → P a → Q as' → Q (a ∷ as')) (ends : List ℕ → Bool)
    (read : Reader A) (each : (w : Word) (ws : List Word) → IfOk (read w ws) (λ x. P x.0)) where
  abbrev others : A × List Word → List A × List Word → Result (List A × List Word) TextFault
  others x y = Ok (x.0 ∷ y.0, y.1)

  abbrev others_have : Result (List A × List Word) TextFault → Type 0
  others_have r = IfOk r (λ x. Q x.0)

  one_more : (f : List Word → Result (List A × List Word) TextFault) (w : Word) (ws : List Word)
      → ((rest : List Word) → others_have (f rest))
      → others_have (read w ws >>= λ x. f x.1 >>= others x)
  one_more f w ws all = grind (arith, nat_tests)

  one_or_none : (b : Bool) (f : List Word → Result (List A × List Word) TextFault) (w : Word)
      (ws : List Word) → others_have (read w ws >>= λ x. f x.1 >>= others x)
      → others_have (if b then Ok ([], w ∷ ws) else (read w ws >>= λ x. f x.1 >>= others x))
  one_or_none b f w ws h = grind (arith, nat_tests)

  pub many_have : (n : ℕ) (ws : List Word) → others_have (many ends read n ws)
  unfolding many
  many_have n [] = none
  many_have zero (w ∷ ws) = none
  many_have (suc n) (w ∷ ws) =
      one_or_none (ends w.bytes) (many ends read n) w ws
      (one_more (many ends read n) w ws (many_have n))

sum_fits : (limit : ℕ) (ends : List ℕ → Bool) (end : ℕ) (ws : List Word)
    → IfOk (sum_at limit ends end ws) (λ x. Fits limit (literals_in x.0))
unfolding sum_at
sum_fits limit ends end ws =
    many_have (λ (t : Product). Fits limit t.literals)
    (λ (ts : List Product). Fits limit (literals_in ts)) (λ v le. le)
    (λ t ts first rest. fits-append limit t.literals (literals_in ts) first rest) ends
    (term_at limit end) (term_fits limit end) (length ws) ws

-- ---- constraints

abbrev FitsListed : ℕ → Listed × List Word → Type 0
FitsListed limit x = Fits limit (literals_in x.0.terms)

constraint_fits : (limit end : ℕ) (w : Word) (ws : List Word)
    → IfOk (constraint_at limit end w ws) (FitsListed limit)
unfolding constraint_at
constraint_fits limit end w ws = grind (arith, nat_tests, sum_fits limit is_operator end (w ∷ ws))

abbrev FitsWeighed : Weighed → Type 0
FitsWeighed k = Fits greatest_index (literals_in k.listed.terms)

weighed_fits : (end : ℕ) (w : Word) (ws : List Word)
    → IfOk (weighed_at end w ws) (λ x. FitsWeighed x.0)
unfolding weighed_at
weighed_fits end w ws = grind (arith, nat_tests, constraint_fits greatest_index end)

-- no index of a text is above the greatest
pub constraints_fit : (end : ℕ) (ws : List Word)
    → IfOk (constraints_at end ws) (λ x. Fits greatest_index (all_literals x.0))
unfolding constraints_at
constraints_fit end ws =
    many_have FitsWeighed (λ (ks : List Weighed). Fits greatest_index (all_literals ks))
    (λ v le. le)
    (λ k ks first rest. fits-append greatest_index (literals_in k.listed.terms) (all_literals ks)
    first rest) never (weighed_at end) (weighed_fits end) (length ws) ws

-- ---- how many there are

one_more_few : (n : ℕ) (first : Result (Weighed × List Word) TextFault)
    (rest : List Word → Result (List Weighed × List Word) TextFault)
    → ((ws : List Word) → IfOk (rest ws) (λ x. length x.0 ≤ n))
    → IfOk (first >>= λ x. rest x.1 >>= λ y. Ok (x.0 ∷ y.0, y.1)) (λ (z : List Weighed × List Word). length z.0 ≤ suc n)
one_more_few n first rest few = grind (arith, nat_tests)

few_read : (end n : ℕ) (ws : List Word)
    → IfOk (many never (weighed_at end) n ws) (λ x. length x.0 ≤ n)
unfolding many
few_read end n [] = omega arith
few_read end zero (w ∷ ws) = omega arith
few_read end (suc n) (w ∷ ws) =
    one_more_few n (weighed_at end w ws) (many never (weighed_at end) n) (few_read end n)

-- there are no more constraints than words
pub constraints_few : (end : ℕ) (ws : List Word)
    → IfOk (constraints_at end ws) (λ x. length x.0 ≤ length ws)
unfolding constraints_at
constraints_few end ws = few_read end (length ws) ws
