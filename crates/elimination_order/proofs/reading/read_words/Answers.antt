use Rattle.elimination_order.proofs.Common.{nat_tests, ◌≡◌, [], ◌∷◌, ◌++◌, Bool, length, length-set, set, true, arith, err_from_is_err_and, word_of}
use Rattle.elimination_order.proofs.Named.{named_more, named_fault, named_end, marks_more}
use Rattle.elimination_order.proofs.reading.read_words.Goals as goal

pub returns-in_err-node : goal.returns-in_err-node
returns-in_err-node c =
    let front = c.loop-word.order.items in
    let nodes = length c.loop-word.marks in
    let p = err_from_is_err_and c.from_residual.result c.from_residual.ensures.1 in
    let fault = named_fault nodes front (word_of c.in-Some.word) c.next.new.self _
    (c.in_err-node.ensures.read front c.loop-word.invariant.marks) in
    rw (p.1, p.2) (cc (c.loop-word.invariant.read, c.in-Some.ensures))

pub bounds-marks-node : goal.bounds-marks-node
bounds-marks-node c = c.in_ok-node.ensures.below

pub loop-word-preserved : goal.loop-word-preserved
loop-word-preserved c =
    let front = c.loop-word.order.items in
    let marks = c.loop-word.marks in
    let n = c.in_ok-node.node in
    let long : length (set marks n true) ≡ length marks = omega (arith, length-set {A = Bool}) in
    let pushed : c.push.new.self.items ≡ front ++ n ∷ [] = c.in_ok-push.ensures.items in
    let more = named_more (length marks) front (word_of c.in-Some.word) c.next.new.self n
    (c.in_ok-node.ensures.read front c.loop-word.invariant.marks) in
    record {
      read = cc (c.in-Some.ensures, c.loop-word.invariant.read);
      marks = rw pushed (marks_more marks front n c.in_ok-node.ensures.below
          c.loop-word.invariant.marks);
    }

pub returns : goal.returns
returns c = grind (arith, nat_tests, named_end)
