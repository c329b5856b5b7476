use Rattle.std.proofs.Common.{◌++◌, [], ◌-◌, length, take, drop, arith}
use Rattle.std.proofs.lemmas.List.{length-append, length-take, length-drop}
use Rattle.reader_tests.proofs.pieces.cut_text.Goals as goal

pub feed-requires-2 : goal.feed-requires-2
feed-requires-2 c =
    let text = c.args.text.now in
    let one = take c.args.first text in
    let two = take (c.args.second - c.args.first) (drop c.args.first text) in
    (one, c.in_ok-feed.ensures.fed [] c.new-lexer.ensures.empty, omega (arith, length-take c.args.first text, length-take (c.args.second - c.args.first) (drop c.args.first text), length-drop c.args.first text, c.requires.small, c.requires.within, c.requires.ordered))

pub feed-requires-3 : goal.feed-requires-3
feed-requires-3 c =
    let text = c.args.text.now in
    let one = take c.args.first text in
    let two = take (c.args.second - c.args.first) (drop c.args.first text) in (
      one ++ two,
      c.in_ok-feed-2.ensures.fed one (c.in_ok-feed.ensures.fed [] c.new-lexer.ensures.empty),
      omega (
        arith,
        length-append one two,
        length-take c.args.first text,
        length-take (c.args.second - c.args.first) (drop c.args.first text),
        length-drop c.args.first text,
        length-take (length text - c.args.second) (drop c.args.second text),
        length-drop c.args.second text,
        c.requires.small,
        c.requires.within,
        c.requires.ordered,
      ),
    )

pub finish-requires : goal.finish-requires
finish-requires c =
    let text = c.args.text.now in
    let one = take c.args.first text in
    let two = take (c.args.second - c.args.first) (drop c.args.first text) in
    let three = take (length text - c.args.second) (drop c.args.second text) in
    ((one ++ two) ++ three, c.in_ok-feed-3.ensures.fed (one ++ two) (c.in_ok-feed-2.ensures.fed one (c.in_ok-feed.ensures.fed [] c.new-lexer.ensures.empty)))
