use Rattle.edge_io.proofs.Common.{◌≡◌, List, ℕ, Some, subst, string_bytes, arith, find_file, bytes_at}
use Rattle.edge_io.proofs.Rest.{begins_at}
use Rattle.edge_io.proofs.memory_files.MemoryFilesFiles.begin.Goals as goal

pub returns-in-Some-clause-rest : goal.returns-in-Some-clause-rest
returns-in-Some-clause-rest c =
    let files = c.self.inside.files in
    let i = c.in-Some.index in
    let found = subst (λ (name : List ℕ). find_file files name ≡ Some (bytes_at files i))
    c.as_str.ensures.value c.in-Some.ensures.1 in
    rw (← c.self.view_is)
    (begins_at files (string_bytes c.args.name) i c.saturating_add-self-inside-2.result found (omega arith))
