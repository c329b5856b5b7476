use Rattle.normal_form.proofs.Common.{List, Bool, subst, sym, IfOk-weaker, first_bits, ExtendsLeast, figures, image, multilinear_extends}
use Rattle.problem_form.specs.Problems as problems
use Rattle.term_table.specs.Tables as tables
use Rattle.normal_form.proofs.multilinear.MultilinearFormGuard.extend.Goals as goal

pub returns-clause-least : goal.returns-clause-least
returns-clause-least c =
    let p = c.args.source.now in
    let link = c.args.link.now in
    let x = c.args.x.now in
    IfOk-weaker c.extend.result _ _
    (λ y e. subst (λ (z : List Bool). ExtendsLeast (problems.form_of p) (tables.form_of (image p)) (first_bits link) (figures p) x z)
    (sym e) (multilinear_extends link p x c.requires.fits c.requires.width))
    c.extend.ensures.extension
