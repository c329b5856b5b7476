-- A text that is put piece by piece: what of it was put, and what is left.
use Rattle.model_text.proofs.Common.{nat_tests, arith, ◌≡◌, ℕ, ◌≤◌, List, [], ◌++◌, refl, sym, ap, ◌∙◌, subst, append_assoc, append-nil, Result, Ok, Err, IsErrAnd, Rose, IsPutBy, OnOk, OnErr, Taken, Takes, TakesFront, Passes, Takes-trans, Passes-trans, Passes-front, Passes-kept, TakesFront-more, err_from_is_err_and}

-- all of the text but the rest was put, and the sink's count of faults is what it was
pub record IsPut (told now : Taken) (before after : ℕ) (pending left text rest : List ℕ) : Type 0 where
  pub done : List ℕ
  pub split : text ≡ done ++ rest
  pub passed : Passes told now pending left done
  pub calm : after ≡ before

pub put_none : {a : Taken} {k : ℕ} {p text : List ℕ} → IsPut a a k k p p text text
put_none {a} {k} {p} = record { done = []; split = refl; passed = Passes-kept a p p [] (sym (append-nil p)); calm = refl }

-- one piece more was put
pub put_more : {T E : Type 0} {v : T} {a b c : Taken} {k l m : ℕ} {p q r text rest piece later : List ℕ}
    → rest ≡ piece ++ later → IsPut a b k l p q text rest → IsPutBy {T = T} {E = E} b c l m q r piece (Ok v)
    → IsPut a c k m p r text later
put_more {a = a} {b} {c} {p = p} {q} {r} {piece = piece} cut so_far put = record {
  done = so_far.done ++ piece;
  split = grind (arith, nat_tests, so_far.split, append_assoc);
  passed = Passes-trans a b c p q r so_far.done piece so_far.passed put.passed;
  calm = put.cause.calm ∙ so_far.calm;
}

-- of one piece more a front was put
front_more : (a b c : Taken) (p q text rest piece later : List ℕ) (k l : ℕ) → rest ≡ piece ++ later
    → IsPut a b k l p q text rest → TakesFront b c (q ++ piece) → TakesFront a c (p ++ text)
front_more a b c p q text rest piece later k l cut so_far fault =
    let front = TakesFront-more a c (p ++ (so_far.done ++ piece)) later (Passes-front a b c p q so_far.done piece so_far.passed fault) in
    let split = so_far.split in
    grind (arith, nat_tests, append_assoc)

rose_more : (k l m : ℕ) → l ≡ k → Rose l m → Rose k m
rose_more k l m same rose = omega (arith, same, rose)

pub put_fault : {T R E : Type 0} {e : E} {a b c : Taken} {k l m : ℕ} {p q r text rest piece : List ℕ}
    {result : Result R E} (later : List ℕ) (Q : E → Type 0) → IsErrAnd result Q → rest ≡ piece ++ later → IsPut a b k l p q text rest → IsPutBy {T = T} b c l m q r piece (Err e)
    → IsPutBy a c k m p r text result
put_fault {a = a} {b} {c} {k} {l} {m} {p} {q} {r} {text} {rest} {piece} {result} later Q failed cut so_far put =
    let is = err_from_is_err_and result failed in
    subst (IsPutBy a c k m p r text) (sym is.1) (record {
      passed = grind (arith, nat_tests);
      front = front_more a b c p q text rest piece later k l cut so_far put.front;
      lost = put.lost;
      cause = record {
        later = omega (arith, so_far.calm, put.cause.later);
        failed = rose_more k l m so_far.calm put.cause.failed;
        calm = grind (arith, nat_tests);
      };
    })

-- the last piece was put, or a front of it
pub put_last : {R E : Type 0} {a b c : Taken} {k l m : ℕ} {p q r text piece : List ℕ} {result : Result R E}
    → IsPut a b k l p q text piece → IsPutBy b c l m q r piece result → IsPutBy a c k m p r text result
put_last {a = a} {b} {c} {k} {l} {m} {p} {q} {r} {text} {piece} {result = Ok v} so_far put =
    let more = put_more (sym (append-nil piece)) so_far put in
    let whole : text ≡ more.done = more.split ∙ append-nil more.done in
    record {
      passed = subst (Passes a c p r) (sym whole) more.passed;
      front = put.front;
      lost = put.lost;
      cause = record { later = omega (arith, more.calm); failed = put.cause.failed; calm = more.calm };
    }
put_last {a = a} {b} {c} {k} {l} {m} {p} {q} {r} {text} {piece} {result = Err e} so_far put = record {
  passed = put.passed;
  front = front_more a b c p q text piece piece [] k l (sym (append-nil piece)) so_far put.front;
  lost = put.lost;
  cause = record {
    later = omega (arith, so_far.calm, put.cause.later);
    failed = rose_more k l m so_far.calm put.cause.failed;
    calm = put.cause.calm;
  };
}

-- nothing is left
pub put_all : {R E : Type 0} {v : R} {a b : Taken} {k l : ℕ} {p q text rest : List ℕ} → rest ≡ []
    → IsPut a b k l p q text rest → IsPutBy {T = R} {E = E} a b k l p q text (Ok v)
put_all {a = a} {b} {p = p} {q} {text} none so_far =
    let whole : text ≡ so_far.done = grind (arith, nat_tests, so_far.split, append-nil) in
    record {
      passed = subst (Passes a b p q) (sym whole) so_far.passed;
      front = grind (arith, nat_tests);
      lost = grind (arith, nat_tests);
      cause = record {
        later = omega (arith, so_far.calm);
        failed = grind (arith, nat_tests);
        calm = so_far.calm;
      };
    }

-- the same text in other words
pub put_same : {R E : Type 0} {a b : Taken} {k l : ℕ} {p q xs ys : List ℕ} {result : Result R E} → xs ≡ ys
    → IsPutBy a b k l p q xs result → IsPutBy a b k l p q ys result
put_same {a = a} {b} {k} {l} {p} {q} {result = result} same =
    subst (λ text. IsPutBy a b k l p q text result) same

-- what follows from an answer holds of it, and so for an error
pub then_ok : {T E : Type 0} {P Q : Type 0} (result : Result T E) → (P → Q) → OnOk result P → OnOk result Q
then_ok result f h = grind (arith, nat_tests)

pub then_error : {T E : Type 0} {P Q : Type 0} (result : Result T E) → (P → Q) → OnErr result P → OnErr result Q
then_error result f h = grind (arith, nat_tests)

-- ---- the last bytes are written

pub flushed : (a b c : Taken) (p q text : List ℕ) → p ≡ [] → Passes a b p q text → Takes b c q
    → Takes a c text
flushed a b c p q text none put written =
    subst (Takes a c) (sym put.1 ∙ ap (λ (l : List ℕ). l ++ text) none) (Takes-trans a b c put.0 q put.2 written)

pub flushed_front : (a b c : Taken) (p q text : List ℕ) → p ≡ [] → Passes a b p q text
    → TakesFront b c q → TakesFront a c text
flushed_front a b c p q text none put fault =
    let cut : text ≡ (put.0 ++ fault.0) ++ fault.1 = grind (arith, nat_tests, put.1, fault.2, append_assoc) in
    (put.0 ++ fault.0, fault.1, cut, Takes-trans a b c put.0 fault.0 put.2 fault.3)
