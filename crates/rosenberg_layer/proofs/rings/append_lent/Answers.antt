use Rattle.rosenberg_layer.proofs.Common.{◌≡◌, ◌++◌, ◌∷◌, ◌<◌, ◌^◌, [], map, List, ℕ, ap, ◌∙◌, sym, rules, append_assoc, All-rest, Literal, code_of}
use Rattle.rosenberg_layer.proofs.rings.append_lent.Goals as goal

pub loop-literal-preserved : goal.loop-literal-preserved
loop-literal-preserved c =
    let k = c.in-Some.literal in
    let codes = c.loop-literal.codes.items in
    let left : c.loop-literal.literal-iterator ≡ k ∷ c.next.new.self = search rules in
    let more : c.push.new.self.items ≡ codes ++ code_of k ∷ [] = search rules in
    record {
      all =
          ap (λ (ns : List ℕ). ns ++ map code_of c.next.new.self) more
          ∙ append_assoc codes (code_of k ∷ []) (map code_of c.next.new.self)
          ∙ ap (λ (ls : List Literal). codes ++ map code_of ls) (sym left)
          ∙ c.loop-literal.invariant.all;
      narrow =
          All-rest (λ (l : Literal). l.variable < 2 ^ 31) k c.next.new.self _ left
          c.loop-literal.invariant.narrow;
    }
