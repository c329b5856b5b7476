use Rattle.wcnf_reader.proofs.Common.{nat_tests, arith, err_from_is_err_and, header_of}
use Rattle.wcnf_reader.proofs.Clauses.{older_read-header, older_read-bad, nothing_left, more_left, fails_whole}
use Rattle.wcnf_reader.proofs.reading.older.Goals as goal

pub returns-in_err-start : goal.returns-in_err-start
returns-in_err-start c = grind (arith, nat_tests, err_from_is_err_and, older_read-bad)

pub returns-in_err-counted : goal.returns-in_err-counted
returns-in_err-counted c =
    let h = header_of c.in_ok-start.start in
    let whole = older_read-header h c.args.line c.args.end c.args.words c.header.new.words
    c.in_ok-start.ensures.read in
    let residual = c.from_residual-in_err-counted in
    let p = err_from_is_err_and residual.result residual.ensures.1 in
    grind (arith, nat_tests, fails_whole)

pub returns-in-None : goal.returns-in-None
returns-in-None c =
    let h = header_of c.in_ok-start.start in
    let whole = older_read-header h c.args.line c.args.end c.args.words c.header.new.words
    c.in_ok-start.ensures.read in
    grind (arith, nat_tests, nothing_left)

pub returns-in-Some : goal.returns-in-Some
returns-in-Some c =
    let h = header_of c.in_ok-start.start in
    let whole = older_read-header h c.args.line c.args.end c.args.words c.header.new.words
    c.in_ok-start.ensures.read in
    grind (arith, nat_tests, more_left)
