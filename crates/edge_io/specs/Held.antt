-- What a store of files tells: the files that it holds by name, and the rest of the begun one.
use Rattle.std.specs.Prelude.{◌≡◌, ℕ, zero, suc, ◌<◌, List, [], ◌∷◌, ◌++◌, length, bytes_eq, IsSomeAnd, if◌then◌else◌, None, Some, Result, ⊤, MatchResult}
use Rattle.std.specs.declared.option.Option.{Option}
use Rattle.std.specs.Io.KnownBytes.{IsAtEnd}

-- names with their bytes
abbrev pub NamedFiles : Type 0
NamedFiles = List (List ℕ × List ℕ)

-- the bytes under a name; the first pair with the name counts
abbrev pub find_file : NamedFiles → List ℕ → Option (List ℕ)
find_file [] name = None
find_file (file ∷ files) name = if bytes_eq file.0 name then Some file.1 else find_file files name

-- the named file is held, and longer than this
abbrev pub IsLonger : NamedFiles → List ℕ → ℕ → Type 0
IsLonger files name limit = IsSomeAnd (find_file files name) (λ bytes. limit < length bytes)

-- where it is told, P holds of it
abbrev pub WhereTold : {T : Type 0} → Option T → (T → Type 0) → Type 0
WhereTold None P = ⊤
WhereTold (Some x) P = P x

-- the named file is held, and is the front followed by the rest
abbrev pub IsFront : Option NamedFiles → List ℕ → List ℕ → Option (List ℕ) → Type 0
IsFront None name front rest = ⊤
IsFront (Some files) name front rest =
    (left : List ℕ) × (find_file files name ≡ Some (front ++ left)) × (rest ≡ Some left)

-- a begin that succeeds makes the rest the whole of the named file, and a failed one makes it empty
abbrev pub Begins : {T E : Type 0} → Option NamedFiles → List ℕ → Result T E → Option (List ℕ)
    → Type 0
Begins held name result rest =
    MatchResult result (λ _. IsFront held name [] rest) (λ _. IsAtEnd rest)

-- what is told once a begin was called, and nothing before
abbrev pub after_first : ℕ → List ℕ → List ℕ
after_first zero told = []
after_first (suc begun) told = told

-- the rest of the begun file, where it is told, and nothing before the first begin
abbrev pub since_begin : ℕ → Option (List ℕ) → Option (List ℕ)
since_begin zero rest = None
since_begin (suc begun) rest = rest
