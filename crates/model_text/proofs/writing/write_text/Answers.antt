use Rattle.model_text.proofs.Common.{arith, nat_tests}
use Rattle.model_text.proofs.Puts.{then_ok, then_error, flushed, flushed_front}
use Rattle.model_text.proofs.writing.write_text.Goals as goal

pub returns-in_err-put_text-clause-front : goal.returns-in_err-put_text-clause-front
returns-in_err-put_text-clause-front g c = grind (arith, nat_tests)

pub returns-clause-whole : goal.returns-clause-whole
returns-clause-whole g c =
    then_ok c.flush.result
    (flushed _ _ _ c.args.buffer.now c.put_text.new.buffer _ c.requires c.in_ok-put_text.ensures.put.passed) c.flush.ensures.whole

pub returns-clause-front : goal.returns-clause-front
returns-clause-front g c =
    then_error c.flush.result
    (flushed_front _ _ _ c.args.buffer.now c.put_text.new.buffer _ c.requires c.in_ok-put_text.ensures.put.passed) c.flush.ensures.front
