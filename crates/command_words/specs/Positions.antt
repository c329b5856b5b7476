-- Which position is told where words ask for nothing.
use Rattle.std.specs.Prelude.{◌≡◌, ◌<◌, ◌+◌, ◌⊎◌, ℕ, List, ◌++◌, None, Ok, Err, length, take, unwrap_or}
use Rattle.command_words.specs.declared.commands.Origin.{Origin}
use Rattle.command_words.specs.declared.commands.Request.{Request}
use Rattle.command_words.specs.declared.commands.TargetWord.TheVariants.{Chimera}
use Rattle.command_words.specs.declared.commands.Verb.{Verb}
use Rattle.command_words.specs.declared.keys.Keys.{Keys}
use Rattle.command_words.specs.Asked.{SayKeys}
use Rattle.command_words.specs.Commands.{request_of}
use Rattle.command_words.specs.Keys.{graph_with}

-- words that make a request with some words after them
abbrev pub CanGoOn : List (List ℕ) → Type 0
CanGoOn words =
    (more : List (List ℕ)) × (request : Request) × (request_of (words ++ more) ≡ Ok request)

-- words for a Chimera graph that is too large, with 1 for each of its numbers that is missing
pub record AskForTooLarge (words : List (List ℕ)) : Type 0 where
  pub verb : Verb
  pub origin : Origin
  pub keys : Keys
  pub say : SayKeys words verb origin Chimera keys
  pub large : graph_with (unwrap_or keys.rows 1) (unwrap_or keys.cols 1) (unwrap_or keys.shore 1)
      ≡ None

-- the word at an index is the first that cannot stand: those before it can go on to a request, unless
-- they ask for too large a Chimera graph, and with it they are refused there, whatever stands after it
pub record IsFirstWrong (words : List (List ℕ)) (i : ℕ) : Type 0 where
  pub before : CanGoOn (take i words) ⊎ AskForTooLarge (take i words)
  pub wrong : i < length words → (more : List (List ℕ))
      → request_of (take (i + 1) words ++ more) ≡ Err (i + 1)

-- the position that is told is that of the first word that cannot stand, or that after all words
abbrev pub PositionsTellTheFirst : Type 0
PositionsTellTheFirst =
    (words : List (List ℕ)) (i : ℕ) → request_of words ≡ Err (i + 1) → IsFirstWrong words i
