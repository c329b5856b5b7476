use Rattle.posiform_check.proofs.Common.{ℤ, List, ◌≡◌, ◌+ℤ◌, ◌++◌, sym, ap, subst, ◌∙◌, to_z, of_z, arith, rules, pos, [], refl, w128, All-nil, err_from_is_err_and, word_of, Fails, left, Line, CertificateContent, IsLine, written, bound_of, kept_line, with_line, lines_put, All, ◌<◌, Literal, All-append}
use Rattle.posiform_check.proofs.ReadSteps.{line_goes_on, line_fails, lines_end, lines_all, next_left}
use Rattle.posiform_check.proofs.KeptLines.{with_line-total, kept_lines-good, kept_lines-within}
use Rattle.posiform_check.proofs.reading.read_lines.Goals as goal

abbrev so_far : ℤ → List Line → CertificateContent
so_far bound lines = record { bound = bound; lines = lines }

pub returns-in_err-coefficient-clause-read : goal.returns-in_err-coefficient-clause-read
returns-in_err-coefficient-clause-read c =
    let w = word_of c.in-Some.first in
    let s = so_far (to_z w128 c.loop-next.bound-bits) c.loop-next.lines in
    let e = c.in_err-coefficient.field-0.0 in
    let before = rw c.in-Some.is at c.loop-next.invariant.read in
    let failed =
    line_fails c.args.nodes e s w c.loop-next.words c.in_err-coefficient.ensures.read in
    let r = err_from_is_err_and c.from_residual.result c.from_residual.ensures.1 in
    rw (r.1, r.2) (subst (Fails e) before failed)

pub loop-next-preserved : goal.loop-next-preserved
loop-next-preserved c =
    let w = word_of c.in-Some.first in
    let s = so_far (to_z w128 c.loop-next.bound-bits) c.loop-next.lines in
    let z = c.in_ok-coefficient.coefficient in
    let l : Line = written c.line.new.list.items z c.in-Some.first.line in
    let rest = left c.in_ok-coefficient.after c.line.new.words in
    let before = rw c.in-Some.is at c.loop-next.invariant.read in
    let small = rw c.in-Some.is at c.loop-next.invariant.small in
    let added : c.added.result ≡ bound_of l = search rules in
    let bound : to_z w128 (of_z w128 c.plus-bound.result) ≡ s.bound +ℤ bound_of l = search rules in
    let lines : c.keep_line.new.lines ≡ s.lines ++ kept_line l = search rules in
    let state : so_far (to_z w128 (of_z w128 c.plus-bound.result)) c.keep_line.new.lines
    ≡ with_line s l = (λ i. so_far (bound i) (lines i)) in
    record {
      read = ap (λ (t : CertificateContent). lines_put c.args.nodes t rest) state
          ∙ sym (line_goes_on c.args.nodes s w c.loop-next.words rest l
          c.in_ok-coefficient.ensures.read) ∙ before;
      lines = rw lines (All-append IsLine s.lines (kept_line l) c.loop-next.invariant.lines (kept_lines-good l));
      small =
          let w = c.in_ok-coefficient.ensures in
          rw (bound, lines) (omega (arith, with_line-total s l, small, w.small, w.shorter));
      nodes = rw lines (All-append
          (λ (m : Line). All (λ (k : Literal). k.variable < c.args.nodes) m.literals) s.lines (kept_line l)
          c.loop-next.invariant.nodes (kept_lines-within c.args.nodes l c.in_ok-coefficient.ensures.within));
    }

pub loop-next-init : goal.loop-next-init
loop-next-init c =
    let whole : left c.next-next.result c.next-next.new.self ≡ c.args.words =
    next_left c.next-next.result c.args.words c.next-next.new.self c.next-next.ensures in
    let empty = c.requires.none in
    record {
      read = (λ i. lines_put c.args.nodes (so_far (pos 0) (empty i)) (whole i))
          ∙ lines_all c.args.nodes c.args.words;
      lines = rw empty (All-nil IsLine);
      small = rw (empty, whole) (omega (arith, c.requires.short));
      nodes = rw empty (All-nil _);
    }

pub returns-clause-read : goal.returns-clause-read
returns-clause-read c =
    let s = so_far (to_z w128 c.loop-next.bound-bits) c.loop-next.lines in
    let before = rw c.in_default.is at c.loop-next.invariant.read in
    sym before ∙ lines_end c.args.nodes s [] refl
