use Rattle.posiform_check.proofs.Common.{rules, ◌≡◌, to_z, of_z, arith, w128, flat_map, ints, line_terms, IsCertificate, refl, append-nil, plain_terms}
use Rattle.posiform_check.proofs.Gathering.{next_fits, lines_fit}
use Rattle.posiform_check.proofs.Sums.{coefficients-append}
use Rattle.posiform_check.proofs.quick.add_each_line.Goals as goal

pub loop-literals-init : goal.loop-literals-init
loop-literals-init c =
    let cert = c.args.certificate.now in
    let is : IsCertificate cert = search rules in
    let items : c.into_iter-literals-iterator.result ≡ cert.lines = search rules in
    let fits = lines_fit c.args.long.now.width cert is c.requires.few c.requires.nodes in
    record {
      whole = λ set. rw (items, c.requires.none, append-nil) refl;
      fits = rw (items, c.requires.none) fits;
      list = c.requires.list;
    }

pub add_line-requires-clause-fits : goal.add_line-requires-clause-fits
add_line-requires-clause-fits c =
    let steps = rw (← c.literals.view_is) at c.in-Some.ensures.steps in
    let own : to_z w128 (of_z w128 c.literals.inside.coefficient) ≡ c.literals.inside.coefficient = search rules in
    rw (c.deref.ensures.value, c.in_ok-copy_into.ensures, own)
    (next_fits line_terms _ _ _ _ steps c.loop-literals.invariant.fits)

pub loop-literals-preserved : goal.loop-literals-preserved
loop-literals-preserved c =
    let h = c.loop-literals.invariant in
    let steps = rw (← c.literals.view_is) at c.in-Some.ensures.steps in
    let own : to_z w128 (of_z w128 c.literals.inside.coefficient) ≡ c.literals.inside.coefficient = search rules in
    let same = rw (c.deref.ensures.value, c.in_ok-copy_into.ensures, own) at c.in_ok-add_line.ensures in
    let rest = flat_map line_terms c.next.new.self in
    let ts = plain_terms c.literals.inside.literals c.literals.inside.coefficient in
    record {
      whole = λ ks.
          let left = rw (steps, coefficients-append ks ts rest) at (h.whole ks) in
          omega (arith, ints, left, same.added ks);
      fits = same.left rest (rw steps at h.fits);
      list = same.list;
    }

pub returns : goal.returns
returns c =
    λ set. omega (arith, ints, rw c.in-None.ensures.steps.0 at (c.loop-literals.invariant.whole set))
