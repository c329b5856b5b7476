-- Tokens in order: one more may be pushed behind them, and each of them stands inside the text.
use Rattle.whole_text.proofs.Common.{ℕ, ◌<◌, ◌≤◌, List, [], ◌∷◌, ◌++◌, length, All, arith, AllByRecursion, All-from_recursion, Token, AreInOrder, IsWithin}

pub order_wider : (low : ℕ) (ts : List Token) (mid high : ℕ) → AreInOrder low ts mid → mid ≤ high → AreInOrder low ts high
order_wider low [] mid high h le = omega arith
order_wider low (t ∷ ts) mid high h le = (h.0, h.1, order_wider t.end ts mid high h.2 le)

pub order_pushed : (low : ℕ) (ts : List Token) (mid : ℕ) (t : Token) (high : ℕ) → AreInOrder low ts mid → mid ≤ t.start → t.start < t.end → t.end ≤ high → AreInOrder low (ts ++ t ∷ []) high
order_pushed low [] mid t high h a b c = (omega arith, b, c)
order_pushed low (u ∷ ts) mid t high h a b c = (h.0, h.1, order_pushed u.end ts mid t high h.2 a b c)

order_end : (low : ℕ) (ts : List Token) (high : ℕ) → AreInOrder low ts high → low ≤ high
order_end low [] high h = h
order_end low (t ∷ ts) high h = omega (arith, h.0, h.1, order_end t.end ts high h.2)

each_within : (text : List ℕ) (low : ℕ) (ts : List Token) → AreInOrder low ts (length text) → AllByRecursion (IsWithin text) ts
each_within text low [] h = tt
each_within text low (t ∷ ts) h = ((h.1, order_end t.end ts (length text) h.2), each_within text t.end ts h.2)

pub order_within : (text : List ℕ) (ts : List Token) → AreInOrder 0 ts (length text) → All (IsWithin text) ts
order_within text ts h = All-from_recursion (IsWithin text) ts (each_within text 0 ts h)
