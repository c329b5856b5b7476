-- What it is to take in terms, one after another.
use Rattle.std.specs.Prelude.{List, ◌++◌}
use Rattle.term_table.specs.Terms.{Term}
use Rattle.term_table.specs.Tables.{TableContent, with_more}

-- there is room for these terms, and for others after them
abbrev pub HasRoomFor : {S : Type 0} → (S → List Term → Type 0) → S → List Term → Type 0
HasRoomFor takes s ts = (more : List Term) × takes s (ts ++ more)

-- the terms were appended: what is held has them after what it had, and there is room left for what
-- there was room for after them
pub record Fills {S : Type 0} (takes : S → List Term → Type 0) (holds : S → TableContent → Type 0) (old new : S) (ts : List Term) : Type 0 where
  pub held : (t : TableContent) → holds old t → holds new (with_more t ts)
  pub room : (more : List Term) → takes old (ts ++ more) → takes new more
