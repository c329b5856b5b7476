use Rattle.edge_io.proofs.Common.{◌∙◌, sym, ap, subst, map, Option, ℕ, List, position, NamedFiles, IsIndexOf}
use Rattle.edge_io.proofs.Named.{position-has_name, Pair, seen, has_name}
use Rattle.edge_io.proofs.lists.FileList.index_of.Goals as goal

pub returns : goal.returns
returns c =
    let name = c.args.name.now in
    let files = c.self.inside.files.items in
    let given = c.index_in.ensures ∙ ap (λ (l : List Pair). position (has_name name) l) c.deref.ensures.value in
    let is_index = subst (λ (r : Option ℕ). IsIndexOf (map seen files) name r) (sym given) (position-has_name name files) in
    subst (λ (held : NamedFiles). IsIndexOf held name c.index_in.result) c.self.view_is is_index
