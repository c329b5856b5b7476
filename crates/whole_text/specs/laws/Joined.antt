-- That tokens are joined is a fact: it has at most one proof. Nothing here has to be believed.
use Rattle.std.specs.Prelude.{ℕ, List, [], ◌∷◌, length}
use Rattle.std.proofs.Props.{props}
use Rattle.whole_text.specs.declared.token.Token.{Token}
use Rattle.whole_text.specs.Tokens.{AreJoined, TakeAll}

-- that tokens stand one right after another has at most one proof
pub AreJoined-prop : (low : ℕ) (ts : List Token) (high : ℕ) → IsProp (AreJoined low ts high)
AreJoined-prop low [] high = hlevel props
AreJoined-prop low (t ∷ ts) high = hlevel (props, AreJoined-prop t.end ts high)

-- that tokens take all of the bytes has at most one proof
pub TakeAll-prop : (tokens : List Token) (bytes : List ℕ) → IsProp (TakeAll tokens bytes)
TakeAll-prop tokens bytes = AreJoined-prop 0 tokens (length bytes)
