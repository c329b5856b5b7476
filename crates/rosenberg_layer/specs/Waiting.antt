-- The terms of degree 3 or more that wait to be replaced: in lists by their first literals, and those
-- of one literal as keys, in order.
use Rattle.std.specs.Prelude.{◌≡◌, ◌≢◌, ⊤, ℕ, ◌+◌, ◌*◌, ◌/◌, ◌%◌, ◌^◌, ◌<◌, ◌≤◌, ◌==◌, ◌⊎◌, Bool, true, ◌&&◌, List, [], ◌∷◌, ◌++◌, length, map, take, drop, set, Contains, Option, Some, None, if◌then◌else◌}
use Rattle.std.specs.List.{IsDistinct, filter}
use Rattle.std.specs.List.Sorted.{IsStrictlySortedBy}
use Rattle.std.specs.Ordering.{nat_cmp}
use Rattle.literal_lists.specs.declared.literal.Literal.{Literal}
use Rattle.term_table.specs.Terms.{Term, terms_total}
use Rattle.rosenberg_layer.specs.declared.waiting.Waiting.{Waiting}
use Rattle.rosenberg_layer.specs.Rosenberg.{Pair, is_long}
use Rattle.rosenberg_layer.specs.Steps.{begins, front_term, is_short, pair_of}
use Rattle.rosenberg_layer.specs.Rings.{code_at, term_at}
use Rattle.rosenberg_layer.specs.Buckets.{list_at, listed_count}

-- A term's key among those of its first literal: the code of its second literal, and the term. Keys
-- in order give the pairs of one first literal in order, and the terms of a pair next to each
-- other.
abbrev pub key_of : List Term → ℕ → ℕ
key_of ts t = code_at (term_at ts t) 1 * 2 ^ 32 + t

-- a term in a list of literals, from one on, has degree 3 or more and begins with the list's literal
pub record IsListed (ts : List Term) (upto cursor b t : ℕ) : Type 0 where
  -- it is one of the first so many terms
  pub within : t < upto
  -- lists before the cursor are empty
  pub later : cursor ≤ b
  pub long : is_long (term_at ts t) ≡ true
  pub first : code_at (term_at ts t) 0 ≡ b

-- a key is that of a term of degree 3 or more that begins with the literal before the cursor
pub record IsKeyed (ts : List Term) (cursor k : ℕ) : Type 0 where
  pub term : ℕ
  pub within : term < length ts
  -- the key tells the second literal and the term
  pub key : k ≡ key_of ts term
  pub long : is_long (term_at ts term) ≡ true
  pub first : code_at (term_at ts term) 0 + 1 ≡ cursor

-- the term is in the list of its first literal, or has a key
abbrev pub IsFound : List Term → List (List ℕ) → ℕ → List ℕ → ℕ → Type 0
IsFound ts lists cursor keys t =
    Contains (list_at lists (code_at (term_at ts t) 0)) t
    ⊎ ((code_at (term_at ts t) 0 + 1 ≡ cursor) × Contains keys (key_of ts t))

-- of the first so many terms, those of degree 3 or more wait, each at one place
pub record AreWaiting (ts : List Term) (upto : ℕ) (lists : List (List ℕ)) (cursor : ℕ) (keys : List ℕ)
    : Type 0 where
  -- each term that is listed has the list's literal first
  pub listed : (b t : ℕ) → Contains (list_at lists b) t → IsListed ts upto cursor b t
  -- no list has a term twice
  pub distinct : (b : ℕ) → IsDistinct (λ x y. x == y) (list_at lists b)
  pub keyed : (k : ℕ) → Contains keys k → IsKeyed ts cursor k
  pub ordered : IsStrictlySortedBy nat_cmp keys
  -- no term is forgotten
  pub found : (t : ℕ) → t < upto → is_long (term_at ts t) ≡ true → IsFound ts lists cursor keys t
  -- so the lists have room for all
  pub few : listed_count lists + length keys ≤ upto

-- the keys that are left
abbrev pub keys_left : Waiting → List ℕ
keys_left w = drop w.at w.keys.items

-- all terms of degree 3 or more wait
pub record Wait (ts : List Term) (w : Waiting) : Type 0 where
  pub all : AreWaiting ts (length ts) w.buckets.lists w.cursor (keys_left w)
  pub room : w.buckets.room ≡ length ts
  pub narrow : length ts ≤ 2 ^ 32
  pub place : w.at ≤ length w.keys.items

-- the pair of the first key
abbrev pub first_pair : List Term → List ℕ → Option Pair
first_pair ts [] = None
first_pair ts (k ∷ ks) = Some (pair_of (term_at ts (k % 2 ^ 32)).0)

-- the first key, if there is one, is of another second literal
abbrev pub IsBeyond : ℕ → List ℕ → Type 0
IsBeyond second [] = ⊤
IsBeyond second (k ∷ ks) = k / 2 ^ 32 ≢ second

-- the lists with a term in the list of its first literal, if it has degree 3 or more
abbrev pub lists_with : List (List ℕ) → ℕ → Term → List (List ℕ)
lists_with lists t u =
    if is_long u then set lists (code_at u 0) (t ∷ list_at lists (code_at u 0)) else lists

-- ---- a substitution, term by term

-- a term of degree 3 or more that begins with the pair
abbrev pub is_touched : Pair → Term → Bool
is_touched pair t = is_long t && begins pair t.0

-- what a substitution makes of a term
abbrev pub turned : Pair → Literal → Term → Term
turned pair w t = if is_touched pair t then front_term w t else t

-- the terms before a place are replaced
pub record ArePartly (pair : Pair) (w : Literal) (start now low low' : List Term) (m i : ℕ) : Type 0 where
  -- so many terms are replaced so far
  pub place : i ≤ length start
  pub terms : now ≡ map (turned pair w) (take i start) ++ drop i start
  pub down : low' ≡ low ++ filter is_short (map (front_term w) (filter (is_touched pair) (take i start)))
  -- and their sizes are summed
  pub weight : m ≡ terms_total (filter (is_touched pair) (take i start))
