use Rattle.whole_text.proofs.Common.{nat_tests, ◌≡◌, ◌≤◌, ◌∷◌, ◌++◌, [], List, ℕ, length, take, drop, get_or, sym, ap, subst, ◌∙◌, refl, append_assoc, arith, append-nil, length-append, nil_from_length, take_rest, take-append-drop, LexerState, StandsFor}
use Rattle.whole_text.proofs.LexerSteps.{feeds-few}
use Rattle.whole_text.proofs.lexing.Lexer.steps.Goals as goal

pub loop-rest-init : goal.loop-rest-init
loop-rest-init c = record {
  front = [];
  split = refl;
  stands = λ text h. rw (append-nil text, c.in_ok-reserve.ensures.items) (subst (λ (s : LexerState). StandsFor s text) (sym c.self.view_is) h);
  style = ap (λ (s : LexerState). s.style) c.self.view_is;
}

pub step-requires-clause-few : goal.step-requires-clause-few
step-requires-clause-few c = grind (arith, nat_tests, feeds-few, length-append)

-- a byte and some bytes behind it go from the rest to the front
first_of : (rest : List ℕ) → 1 ≤ length rest → rest ≡ get_or rest 0 0 ∷ drop 1 rest
first_of [] some = absurd (omega arith)
first_of (b ∷ rest) some = refl

split_on : (front rest piece : List ℕ) (len : ℕ) → 1 ≤ length rest → front ++ rest ≡ piece
    → (front ++ get_or rest 0 0 ∷ take len (drop 1 rest)) ++ drop len (drop 1 rest) ≡ piece
split_on front rest piece len some split =
    let b = get_or rest 0 0 in
    let more = drop 1 rest in
    append_assoc front (b ∷ take len more) (drop len more)
    ∙ ap (λ (l : List ℕ). front ++ b ∷ l) (take-append-drop len more)
    ∙ ap (λ (l : List ℕ). front ++ l) (sym (first_of rest some)) ∙ split

pub loop-rest-preserved : goal.loop-rest-preserved
loop-rest-preserved c =
    let so_far = c.loop-rest.invariant in
    let rest = c.loop-rest.rest.now in
    let len = c.in_ok-len.len in
    let b = get_or rest 0 0 in
    let more = take len (drop 1 rest) in
    let front = so_far.front in
    rw (take_rest rest 1, take_rest (drop 1 rest) len) (record {
      front = front ++ b ∷ more;
      split = split_on front rest c.args.piece.now len c.in-len1-up.len_at_least so_far.split;
      stands = λ text h.
          subst (StandsFor c.run.new.self) (append_assoc (text ++ front) (b ∷ []) more ∙ append_assoc text front (b ∷ more))
          (rw (take_rest rest 1) at c.in_ok-len.ensures.fed ((text ++ front) ++ b ∷ []) (c.in_ok-step.ensures.stepped (text ++ front) (so_far.stands text h)));
      style = c.in_ok-len.ensures.style ∙ c.in_ok-step.ensures.style ∙ so_far.style;
    })

pub returns-clause-fed : goal.returns-clause-fed
returns-clause-fed c =
    let so_far = c.loop-rest.invariant in
    let front = so_far.front in
    let none : c.loop-rest.rest.now ≡ [] = nil_from_length c.loop-rest.rest.now (omega (arith, c.in_default.len_below)) in
    let whole : front ≡ c.args.piece.now = sym (append-nil front) ∙ ap (λ (l : List ℕ). front ++ l) (sym none) ∙ so_far.split in
    λ text h. subst (λ (l : List ℕ). StandsFor c.loop-rest.self (text ++ l)) whole (so_far.stands text h)
