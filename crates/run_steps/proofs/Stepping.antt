-- Steps that are taken one after another.
use Rattle.run_steps.proofs.Common.{nat_tests, arith, ◌≡◌, Bool, List, Ok, Err, Some, None, Result, refl, Option, Contains, Contains-append_left, Contains-append_right, Which, Status, Steps, Last, Bits, go_on, gives, ◌>>=◌, Meets, Refuses, ReadFault, NoMemory}

-- where two steps give a value, so does each
pub bound : {A B : Type 0} (m : Steps A) (f : A → Steps B) (b : B) → (m >>= f).end ≡ Some (Ok b)
    → (a : A) × (m.end ≡ Some (Ok a)) × ((f a).end ≡ Some (Ok b))
bound m f b e = grind (arith, nat_tests)

-- after a value the end is that of the next steps
pub next_end : {A B : Type 0} (m : Steps A) (f : A → Steps B) (a : A) → m.end ≡ Some (Ok a)
    → (m >>= f).end ≡ (f a).end
next_end m f a e = rw e refl

taken_first_on : {A B : Type 0} (taken : List Which) (end : Option (Result A Status))
    (f : A → Steps B) (which : Which) → Contains taken which
    → Contains (go_on taken end f).taken which
taken_first_on taken None f which is = is
taken_first_on taken (Some (Ok a)) f which is = Contains-append_left taken (f a).taken which is
taken_first_on taken (Some (Err status)) f which is = is

-- a file that is taken is taken whatever comes next
pub taken_first : {A B : Type 0} (m : Steps A) (f : A → Steps B) (which : Which)
    → Contains m.taken which → Contains (m >>= f).taken which
taken_first m f which is = taken_first_on m.taken m.end f which is

-- after a value the next steps take theirs
pub taken_next : {A B : Type 0} (m : Steps A) (f : A → Steps B) (a : A) (which : Which)
    → m.end ≡ Some (Ok a) → Contains (f a).taken which → Contains (m >>= f).taken which
taken_next m f a which e is = rw e (Contains-append_right m.taken (f a).taken which is)

-- steps that refuse, refuse whatever comes next
pub refuses_on : {A B : Type 0} (status : Status) (m : Steps A) (f : A → Steps B)
    → Refuses status m → Refuses status (m >>= f)
refuses_on status m f refused = grind (arith, nat_tests, taken_first)

-- after a value, what refuses next refuses
pub refuses_next : {A B : Type 0} (status : Status) (m : Steps A) (f : A → Steps B) (a : A)
    → m.end ≡ Some (Ok a) → Refuses status (f a) → Refuses status (m >>= f)
refuses_next (ReadFault which) m f a e refused = taken_next m f a which e refused
refuses_next NoMemory m f a e refused = tt
refuses_next status m f a e refused = rw e refused

-- after a value, what meets the next steps meets them all
pub meets_next : {X A B : Type 0} (view : X → B) (result : Result X Status) (m : Steps A)
    (f : A → Steps B) (a : A) → m.end ≡ Some (Ok a) → Meets view result (f a)
    → Meets view result (m >>= f)
meets_next view result m f a e meets = grind (arith, nat_tests, next_end, refuses_next)

-- ---- bits that are read last

-- what is bits of a step is what is read last
pub bits_meet : {X : Type 0} (view : X → List Bool) (result : Result X Status) (m : Steps (List Bool))
    → Meets view result m → Meets (λ x. Bits (view x)) result (m >>= λ bits. gives (Bits bits))
bits_meet view result m meets = grind (arith, nat_tests, next_end, refuses_on)

-- and what is read last is bits of the step
pub bits_were : (m : Steps (List Bool)) (last : Last)
    → (m >>= λ bits. gives (Bits bits)).end ≡ Some (Ok last)
    → (bits : List Bool) × (m.end ≡ Some (Ok bits)) × (Bits bits ≡ last)
bits_were m last e = grind (arith, nat_tests)
