use Rattle.poly_reader.proofs.Common.{◌≡◌, ◌++◌, AreNames, names_lent}
use Rattle.poly_reader.proofs.name_table.NameTable.copied.Given as goal

-- the names so far and those that are left are all
abbrev pub invariant-loop-name : goal.invariant-loop-name
invariant-loop-name l = record {
  all : l.names ++ names_lent l.name-iterator ≡ l.self;
  form : AreNames (names_lent l.name-iterator);
}
