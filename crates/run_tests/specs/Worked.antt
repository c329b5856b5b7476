-- The worked example: a hard clause that a variable is 1, and a soft one of weight 3 that it is 0.
use Rattle.std.specs.Prelude.{pos, negsuc, [], ◌∷◌, Some}
use Rattle.bits_model.specs.declared.output.Kind.TheVariants.{Qubo}
use Rattle.bits_model.specs.Output.{Written}
use Rattle.wcnf_reader.specs.declared.layout.ClauseLayout.TheVariants.{Older}
use Rattle.wcnf_reader.specs.Wcnf.{Wcnf}

-- what its text says
abbrev pub clash : Wcnf
clash = record {
  layout = Older (Some 10);
  variables = 1;
  clauses = record { weight = Some 10; literals = pos 1 ∷ [] } ∷ record { weight = Some 3; literals = negsuc 0 ∷ [] } ∷ [];
}

-- the model that is written for it
abbrev pub clash_model : Written
clash_model = record {
  kind = Qubo;
  variables = 1;
  figures = record { scale = pos 1; offset = negsuc 3; threshold = negsuc 0 };
  unit = pos 1;
  nodes = 1;
  entries = record { first = 0; second = 0; weight = negsuc 0 } ∷ [];
  chains = [];
}
