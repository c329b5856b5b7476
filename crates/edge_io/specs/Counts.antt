-- Counts of a u64, which start at 0 and stop at 2^64 - 1, and the faults that they count.
use Rattle.std.specs.Prelude.{◌≡◌, ℕ, List, [], ◌+◌, ◌-◌, ◌^◌, ◌≤◌, ◌<◌, min, Result, OnErr, OnOk, MatchResult}

-- the count, n later
abbrev pub count_after : ℕ → ℕ → ℕ
count_after before n = min (before + n) (2 ^ 64 - 1)

-- the count rose by n, as far as it goes
abbrev pub RoseBy : ℕ → ℕ → ℕ → Type 0
RoseBy n before now = min now (2 ^ 64 - 1) ≡ count_after before n

-- the count rose, or stands at its end
abbrev pub Rose : ℕ → ℕ → Type 0
Rose before now = min (before + 1) (2 ^ 64 - 1) ≤ now

-- the count of faults rose where there was an error, and stayed at an answer
pub record HasCause {T E : Type 0} (before now : ℕ) (result : Result T E) : Type 0 where
  pub later : before ≤ now
  pub failed : OnErr result (Rose before now)
  pub calm : OnOk result (now ≡ before)

-- the count rose by one at an error, and stayed at an answer
abbrev pub CountsErr : {T E : Type 0} → ℕ → ℕ → Result T E → Type 0
CountsErr before now result =
    MatchResult result (λ _. now ≡ before) (λ _. now ≡ count_after before 1)

-- the count rose by one where nothing was given, also at an error, and stayed elsewhere
abbrev pub CountsNothing : {E : Type 0} → ℕ → ℕ → Result ℕ E → Type 0
CountsNothing before now result =
    MatchResult result (λ n. (n ≡ 0 → now ≡ count_after before 1) × (0 < n → now ≡ before))
    (λ _. now ≡ count_after before 1)

-- what a store of files tells of its calls: how many failed, how many were of `begin`, and of the last
-- `begin` its name and the count of faults then; and since then the bytes that were taken, and the
-- reads that gave nothing or failed
pub record Counts : Type 0 where
  pub faults : ℕ
  pub begun : ℕ
  pub name : List ℕ
  pub faults_at_begin : ℕ
  pub taken : ℕ
  pub empty_reads : ℕ

-- before the first call
abbrev pub none_yet : Counts
none_yet = record {
  faults = 0;
  begun = 0;
  name = [];
  faults_at_begin = 0;
  taken = 0;
  empty_reads = 0;
}
