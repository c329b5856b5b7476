use Rattle.edge_io.proofs.Common.{◌≡◌, ◌<◌, ◌∙◌, sym, ap, subst, length, map, length-map, NamedFiles, bytes_at}
use Rattle.edge_io.proofs.Named.{bytes_at-map, seen}
use Rattle.edge_io.proofs.lists.FileList.bytes_at.Goals as goal

pub returns : goal.returns
returns c =
    let files = c.self.inside.files.items in
    let i = c.args.index in
    let same : length (map seen files) ≡ length files = simp length-map in
    let within : i < length files =
    rw (sym same) (subst (λ (held : NamedFiles). i < length held) (sym c.self.view_is) c.requires) in
    c.deref.ensures.value ∙ sym (bytes_at-map files _ _ within c.index.ensures)
    ∙ ap (λ (held : NamedFiles). bytes_at held i) c.self.view_is
