-- What a text tells of the model that is written.
use Rattle.std.specs.Prelude.{◌≡◌, ℕ, List}
use Rattle.bits_model.specs.Output.{Written, IsWellFormed}
use Rattle.model_text.specs.Rows.{FitsFields, model_text}

-- the text is that of no model but n, of whatever kind, among those that are well formed and fit
-- their fields
abbrev pub TellsModel : List ℕ → Written → Type 0
TellsModel text n = (m : Written) → IsWellFormed m → FitsFields m → model_text m ≡ text → m ≡ n

-- the text is that of this model and of no other
pub record IsTextOf (m : Written) (text : List ℕ) : Type 0 where
  pub says : text ≡ model_text m
  pub only : TellsModel text m

-- two models with one text are one model, of whatever kinds they are
abbrev pub TextsTellModels : Type 0
TextsTellModels = (m n : Written) → IsWellFormed m → IsWellFormed n → FitsFields m → FitsFields n
    → model_text m ≡ model_text n → m ≡ n
