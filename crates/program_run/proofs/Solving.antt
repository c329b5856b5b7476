-- A model that is solved, or too wide.
use Rattle.program_run.proofs.Common.{nat_tests, ◌≡◌, ℕ, List, [], Ok, Err, Some, None, ap, arith, Written, IsWithinWidth, IsFirstWider, Status, SolveAnswer, Plan, IsUnsolved, IsModelled, EndsOf, unsolved, NamedFiles, first_wide, from_last, usual_widths, refuses_on, Steps, Last, InOrder, Refuses, ends, ordered, width_end, TheFirstWideNodeIsNamed, TooWide, AreFilesOf, AreRead, Counts, Which, read_wanting}
use Rattle.run_steps.specs.declared.status.Status.TheVariants.{TooWide}
use Rattle.basic_solve.specs.declared.answer.SolveAnswer.TheVariants as solving
use Rattle.run_steps.specs.Steps.{solving as solving_steps}

pub first_wide_node : TheFirstWideNodeIsNamed
first_wide_node = record { none = usual_widths.none 16; first = usual_widths.some 16 }

pub narrow_ends : (m : Written) → IsWithinWidth 16 m
    → (solving_steps [] None m).end ≡ Some (Ok (InOrder (from_last m.nodes)))
narrow_ends m narrow =
    ap (λ wide. Some (width_end (from_last m.nodes) wide)) (first_wide_node.none m narrow)

wide_ends : (m : Written) (v w : ℕ) → IsFirstWider 16 m v w
    → (solving_steps [] None m).end ≡ Some (Err (TooWide v w))
wide_ends m v w wide =
    ap (λ node. Some (width_end (from_last m.nodes) node)) (first_wide_node.first m v w wide)

-- a model that is not solved ends the plan
pub unsolved_ends : (plan : Plan) (m : Written) (answer : SolveAnswer) (steps : Written → Steps Last)
    → IsModelled plan m
    → ((v w : ℕ) → answer ≡ solving.TooWide v w → (steps m).end ≡ Some (Err (TooWide v w)))
    → EndsOf (unsolved answer) plan steps
unsolved_ends plan m answer steps made wide = grind (arith, nat_tests)

-- in the usual order
pub unsolved_usually : (plan : Plan) (m : Written) (answer : SolveAnswer) → IsModelled plan m
    → ((v w : ℕ) → answer ≡ solving.TooWide v w → IsFirstWider 16 m v w)
    → EndsOf (unsolved answer) plan (solving_steps [] None)
unsolved_usually plan m answer made wide =
    unsolved_ends plan m answer (solving_steps [] None) made
    (λ v w is. wide_ends m v w (wide v w is))

-- ---- in the order of a file

module _ (held : NamedFiles) (name : List ℕ) (m : Written) where
  abbrev rest : List ℕ → Steps Last
  rest order = ends (width_end order (first_wide 16 m [] order))

  pub order_refuses : (status : Status) → Refuses status (ordered held name m.nodes)
      → Refuses status (solving_steps held (Some name) m)
  order_refuses status refused = grind (arith, nat_tests, refuses_on)

  module _ (order : List ℕ)
      (e : (ordered held name m.nodes).end ≡ Some (Ok order)) where
    pub order_gives : first_wide 16 m [] order ≡ None
        → (solving_steps held (Some name) m).end ≡ Some (Ok (InOrder order))
    order_gives narrow = grind (arith, nat_tests)

-- the files of a model that is not solved were read
pub unsolved_read : (answer : SolveAnswer) (name : Which → List ℕ) (files : List Which) (a b : Counts)
    → AreRead name files a b → AreFilesOf name [] files (unsolved answer) a b
unsolved_read (solving.TooWide v w) name files a b read = read
unsolved_read solving.NoMemory name files a b read = read_wanting name files a b read

pub unsolved_is : (answer : SolveAnswer) → IsUnsolved (unsolved answer)
unsolved_is answer = grind (arith, nat_tests)
