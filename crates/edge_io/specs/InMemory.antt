-- What the ends in memory are seen as, and which of their calls fail.
use Rattle.std.specs.Prelude.{◌≡◌, ℕ, zero, suc, ◌-◌, ◌<◌, min, Bool, ◌||◌, ◌&&◌, ◌==◌, nat_lt, List, [], ◌∷◌, length, drop, None, Some, is_none, MatchOption}
use Rattle.std.specs.List.{list_any}
use Rattle.std.specs.declared.option.Option.{Option}
use Rattle.edge_io.specs.Counts.{count_after}
use Rattle.edge_io.specs.Held.{NamedFiles, find_file, after_first}

-- the number of the next call is listed
abbrev pub is_listed : List ℕ → ℕ → Bool
is_listed failing calls = list_any (λ n. n == count_after calls 1) failing

-- a sink: its bytes, the most that a call takes, the room for all, the calls that fail, and counts
pub record SinkState : Type 0 where
  pub bytes : List ℕ
  pub most : ℕ
  pub room : ℕ
  pub failing : List ℕ
  pub calls : ℕ
  pub faults : ℕ

-- a sink before its first call
abbrev pub empty_sink : ℕ → ℕ → List ℕ → SinkState
empty_sink most room failing =
    record { bytes = []; most = most; room = room; failing = failing; calls = 0; faults = 0 }

-- the next write fails: its number is listed, or a piece that isn't empty comes to a full sink
abbrev pub write_fails : SinkState → List ℕ → Bool
write_fails sink piece =
    is_listed sink.failing sink.calls
    || (nat_lt 0 (length piece) && (length sink.bytes == sink.room))

-- how many bytes a write takes that doesn't fail
abbrev pub write_takes : SinkState → List ℕ → ℕ
write_takes sink piece = min sink.most (min (length piece) (sink.room - length sink.bytes))

-- a store of files: the files, the calls that fail, the begun file, and counts
pub record FilesState : Type 0 where
  pub held : NamedFiles
  pub failing : List ℕ
  pub calls : ℕ
  pub name : List ℕ
  pub rest : List ℕ
  pub faults : ℕ
  pub taken : ℕ
  pub empty_reads : ℕ
  pub begun : ℕ
  pub faults_at_begin : ℕ

-- a store before its first call
abbrev pub unbegun_files : NamedFiles → List ℕ → FilesState
unbegun_files held failing = record {
  held = held;
  failing = failing;
  calls = 0;
  name = [];
  rest = [];
  faults = 0;
  taken = 0;
  empty_reads = 0;
  begun = 0;
  faults_at_begin = 0;
}

-- the next begin fails: its number is listed, or the name isn't held
abbrev pub begin_fails : FilesState → List ℕ → Bool
begin_fails files name = is_listed files.failing files.calls || is_none (find_file files.held name)

-- the bytes of the pair at an index
abbrev pub bytes_at : NamedFiles → ℕ → List ℕ
bytes_at [] i = []
bytes_at (file ∷ files) zero = file.1
bytes_at (file ∷ files) (suc i) = bytes_at files i

-- the index is the one of the file that the name finds, and none where it finds none
abbrev pub IsIndexOf : NamedFiles → List ℕ → Option ℕ → Type 0
IsIndexOf files name index = MatchOption index (find_file files name ≡ None)
    (λ i. (i < length files) × (find_file files name ≡ Some (bytes_at files i)))

-- what is left of the pair at an index, from a place on
abbrev pub rest_from : NamedFiles → Option ℕ → ℕ → List ℕ
rest_from files None at = []
rest_from files (Some i) at = drop at (bytes_at files i)

-- the rest of the begun file
abbrev pub rest_of : FilesState → List ℕ
rest_of files = after_first files.begun files.rest

-- the last begun name
abbrev pub name_of : FilesState → List ℕ
name_of files = after_first files.begun files.name
