use Rattle.run_steps.proofs.Common.{◌≡◌, ◌≤◌, ◌+◌, ◌-◌, IsCut, IsSameBegin}
use Rattle.run_steps.proofs.cut.feed_rest.Given as goal

-- what was taken is a front of the begun file, as the store tells it, within the limit, and the lexer
-- stands for it
abbrev pub invariant-loop-count : goal.invariant-loop-count
invariant-loop-count g l = record {
  within : l.taken ≤ l.limit;
  counted : (g.F.Files.counts l.files).taken ≡ l.taken;
  filled : (g.F.Files.counts l.files).empty_reads ≡ 0;
  cut : IsCut (g.F.Files.held l.fn.files) (g.F.Files.counts l.fn.files).name l.taken (g.F.Files.rest l.files) l.lexer;
  styled : l.lexer.style ≡ l.fn.lexer.style;
  same : IsSameBegin (g.F.Files.counts l.fn.files) (g.F.Files.counts l.files);
  calm : (g.F.Files.counts l.files).faults ≡ (g.F.Files.counts l.fn.files).faults;
  held : g.F.Files.held l.files ≡ g.F.Files.held l.fn.files;
}

abbrev pub decreases-loop-count : goal.decreases-loop-count
decreases-loop-count g l = l.limit + 1 - l.taken
