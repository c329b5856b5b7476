use Rattle.edge_io.proofs.Common.{◌≡◌, ◌≤◌, ◌+◌, ◌-◌, length, string_bytes, count_after, IsFront}
use Rattle.edge_io.proofs.whole.read_all.Given as goal

-- what was taken is a front of the named file, as the store tells it, and within the limit
abbrev pub invariant-loop-count : goal.invariant-loop-count
invariant-loop-count g l = record {
  within : length l.all.items ≤ l.limit;
  taken : (g.F.Files.counts l.files).taken ≡ length l.all.items;
  filled : (g.F.Files.counts l.files).empty_reads ≡ 0;
  front : IsFront (g.F.Files.held l.fn.files) (string_bytes l.fn.name) l.all.items (g.F.Files.rest l.files);
  held : g.F.Files.held l.files ≡ g.F.Files.held l.fn.files;
  begun : (g.F.Files.counts l.files).begun ≡ count_after (g.F.Files.counts l.fn.files).begun 1;
  marked : (g.F.Files.counts l.files).faults_at_begin ≡ (g.F.Files.counts l.fn.files).faults;
  named : (g.F.Files.counts l.files).name ≡ string_bytes l.fn.name;
  calm : (g.F.Files.counts l.files).faults ≡ (g.F.Files.counts l.fn.files).faults;
}

abbrev pub decreases-loop-count : goal.decreases-loop-count
decreases-loop-count g l = l.limit + 1 - length l.all.items
