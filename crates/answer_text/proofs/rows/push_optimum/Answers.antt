use Rattle.answer_text.proofs.Common.{rules, ◌≡◌, [], ◌∷◌, ◌++◌, codes, signed_decimal, row_text, OnOk, then_ok}
use Rattle.answer_text.proofs.AnswerRows.{optimum_added}
use Rattle.answer_text.proofs.rows.push_optimum.Goals as goal

pub returns-in_ok-push_names-in-Whole : goal.returns-in_ok-push_names-in-Whole
returns-in_ok-push_names-in-Whole c =
    let named = c.push_names.new.text.items in
    let pushed = c.push_number_row.new.text.items in
    let added : OnOk c.push_number_row.result (pushed ≡ named ++ row_text (codes "optimum" ∷ signed_decimal c.in-Whole.value ∷ [])) = search rules in
    rw c.in-Whole.is (then_ok c.push_number_row.result
    (optimum_added c.args.text.now.items c.push_bits_row.new.text.items named pushed c.args.x.now c.args.names.now
    c.in-Whole.value c.in_ok-push_bits_row-in-Whole.ensures c.in_ok-push_names-in-Whole.ensures)
    added)
