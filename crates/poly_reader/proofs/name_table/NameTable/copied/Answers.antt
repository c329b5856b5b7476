use Rattle.poly_reader.proofs.Common.{◌≡◌, true, ◌++◌, ◌∷◌, [], sym, ap, subst, ◌∙◌, append_assoc, All-tail, is_name, AreNames, names_lent}
use Rattle.poly_reader.proofs.name_table.NameTable.copied.Goals as goal

pub loop-name-preserved : goal.loop-name-preserved
loop-name-preserved c =
    let name = c.in-Some.name.now.now in
    let copied = c.loop-name.names in
    let rest = names_lent c.next.new.self in
    let left : names_lent c.loop-name.name-iterator ≡ name ∷ rest =
    ap names_lent c.in-Some.ensures.steps in
    record {
      all = ap (λ names. names ++ rest) c.in_ok-push.ensures ∙ append_assoc copied (name ∷ []) rest
          ∙ ap (λ names. copied ++ names) (sym left) ∙ c.loop-name.invariant.all;
      form = All-tail (λ n. is_name n ≡ true) name rest (subst AreNames left c.loop-name.invariant.form);
    }
