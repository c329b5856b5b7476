use Rattle.model_text.proofs.Common.{arith, nat_tests, ℕ, List, entry_row, map, header_row, row_text, graph_rows, ◌++◌, ◌<◌, ◌^◌, refl, sym, ap, ◌∙◌, rules, ℤ, w128, to_z-of_z, Inside, Written, rows_text, figure_rows, model_text, FitsFields}
use Rattle.model_text.proofs.Numerals.{size_fits}
use Rattle.model_text.proofs.ModelRows.{texts_tell_models}
use Rattle.model_text.proofs.QubitNumbers.{qubits_fit}
use Rattle.model_text.proofs.Puts.{IsPut, put_none, put_more, put_fault, put_last, then_ok}
use Rattle.model_text.proofs.RowPieces.{text_parts}
use Rattle.model_text.proofs.writing.put_text.Given.{Over}
use Rattle.model_text.proofs.writing.put_text.Goals.{In_ok-put_figures}
use Rattle.model_text.proofs.writing.put_text.Goals as goal

-- the model of these fields
abbrev written : Inside → Written
written m = record {
  kind = m.kind;
  variables = m.variables;
  figures = m.figures;
  unit = m.unit;
  nodes = m.nodes;
  entries = m.entries;
  chains = m.chains;
}

-- its text below the figures
abbrev rest_of : Written → List ℕ
rest_of m =
    rows_text (graph_rows m.kind m.chains)
    ++ (row_text (header_row m.kind m.nodes m.entries) ++ rows_text (map entry_row m.entries))

pub returns-in_err-put_figures-clause-put : goal.returns-in_err-put_figures-clause-put
returns-in_err-put_figures-clause-put g c =
    let m = written c.model.inside in
    let unit = sym (to_z-of_z w128 m.unit (search rules)) in
    let cut = sym (ap model_text c.model.view_is) ∙ text_parts m m.chains refl
    ∙ ap (λ (unit : ℤ). rows_text (figure_rows m.figures unit m.variables) ++ rest_of m) unit in
    put_fault _ _ c.from_residual.ensures.1 cut put_none c.in_err-put_figures.ensures.put

-- the figures are put, and the rest is left
figured_first : (g : Over) (c : In_ok-put_figures g)
    → IsPut (g.S.Sink.taken c.args.sink.now) (g.S.Sink.taken c.put_figures.new.sink) (g.S.Sink.faults c.args.sink.now)
    (g.S.Sink.faults c.put_figures.new.sink) c.args.buffer.now c.put_figures.new.buffer
    (model_text c.args.model.now) (rest_of (written c.model.inside))
figured_first g c =
    let m = written c.model.inside in
    let unit = sym (to_z-of_z w128 m.unit (search rules)) in
    let cut = sym (ap model_text c.model.view_is) ∙ text_parts m m.chains refl
    ∙ ap (λ (unit : ℤ). rows_text (figure_rows m.figures unit m.variables) ++ rest_of m) unit in
    put_more cut put_none c.in_ok-put_figures.ensures.put

pub returns-in_err-put_graph-clause-put : goal.returns-in_err-put_graph-clause-put
returns-in_err-put_graph-clause-put g c =
    let figured = figured_first g (goal.at.returns-in_err-put_graph-clause-put g c).In_ok-put_figures in
    put_fault _ _ c.from_residual-in_err-put_graph.ensures.1 refl figured c.in_err-put_graph.ensures.put

pub returns-in_err-put_header-clause-put : goal.returns-in_err-put_header-clause-put
returns-in_err-put_header-clause-put g c =
    let figured = figured_first g (goal.at.returns-in_err-put_header-clause-put g c).In_ok-put_figures in
    let graphed = put_more refl figured c.in_ok-put_graph.ensures.put in
    put_fault _ _ c.from_residual-in_err-put_header.ensures.1 refl graphed c.in_err-put_header.ensures

pub returns : goal.returns
returns g c =
    let m = written c.model.inside in
    let formed = c.model.invariant.0 in
    let narrow : m.nodes < 2 ^ 32 = search rules in
    let fits : FitsFields m = record {
      graph = c.put_graph.ensures.fits;
      variables = search rules;
      figures = c.put_figures.ensures.fits;
      unit = size_fits m.unit (search rules);
      nodes = narrow;
      weights = c.model.invariant.1;
      qubits = qubits_fit m formed narrow;
    } in
    let figured = figured_first g (goal.at.returns g c).In_ok-put_figures in
    let graphed = put_more refl figured c.in_ok-put_graph.ensures.put in
    record {
      put = put_last (put_more refl graphed c.in_ok-put_header.ensures) c.put_entries.ensures;
      one = grind (arith, nat_tests, texts_tell_models, then_ok);
    }
