-- What the store of files counts where files are taken, and then others.
use Rattle.run_steps.proofs.Common.{nat_tests, ◌≡◌, ℕ, suc, ◌+◌, List, [], ◌∷◌, ◌++◌, length, refl, sym, ap, subst, append_assoc, arith, inl, inr, append-nil, length-append, Counts, LimitKind, Which, Status, AreBegun, IsBegun, AreWanting, IsReadTo, IsCause, IsLimited, last_of, AreRead, IsAt, AreRefused, AreFilesOf, IsRefusedBy, Ok, Request, Bytes, IsUsageOf, CountsReadFault, State, Done, Usage, ReadFault, WriteFault, BadText, Limit, NotEmbedded, TooWide, NotProved, NoState, NoMemory}

-- ---- files after others

-- so many files were begun, and no call failed
record IsMoved (count : ℕ) (old new : Counts) : Type 0 where
  begun : AreBegun count old new
  calm : new.faults ≡ old.faults

moved : (name : Which → List ℕ) (files : List Which) (a b : Counts) → AreRead name files a b
    → IsMoved (length files) a b
moved name files a b same = grind (arith, nat_tests)

module _ (n k : ℕ) (a b c : Counts) (some : IsMoved n a b) where
  read_more : (name : List ℕ) → IsReadTo name (suc k) b c → IsReadTo name (n + suc k) a c
  read_more name read = grind (arith, nat_tests)

  cause_more : (name : List ℕ) → IsCause name (suc k) b c → IsCause name (n + suc k) a c
  cause_more name cause = grind (arith, nat_tests)

  named_more : (name : List ℕ) → IsBegun name (suc k) b c → IsBegun name (n + suc k) a c
  named_more name is = grind (arith, nat_tests)

  limited_more : (kind : LimitKind) (number : ℕ) (name : List ℕ)
      → IsLimited kind number name (suc k) b c → IsLimited kind number name (n + suc k) a c
  limited_more kind number name is = grind (arith, nat_tests)

at_seam : (first before : List Which)
    → length first + suc (length before) ≡ suc (length (first ++ before))
at_seam first before = omega (arith, length-append first before)

-- a file at a number stands later behind others
at_more : (first files : List Which) (which : Which) (P Q : ℕ → Type 0)
    → ((k : ℕ) → P (suc k) → Q (length first + suc k)) → IsAt files which P
    → IsAt (first ++ files) which Q
at_more first files which P Q more at =
    let k = length at.0 in
    let here = more k at.3 in
    let seam = at_seam first at.0 in
    let split = append_assoc first at.0 (which ∷ at.1) in
    grind (arith, nat_tests)

-- and at the same number before others
at_first : (files more : List Which) (which : Which) (P : ℕ → Type 0) → IsAt files which P
    → IsAt (files ++ more) which P
at_first files more which P at = grind (arith, nat_tests, append_assoc at.0 (which ∷ at.1) more)

last-append : (file next : Which) (files more : List Which)
    → last_of file (files ++ next ∷ more) ≡ last_of next more
last-append file next [] more = refl
last-append file next (other ∷ files) more = last-append other next files more

-- ---- all are read

count_seam : (first : List Which) (next : Which) (files : List Which)
    → suc (length first) + suc (length files) ≡ suc (length (first ++ next ∷ files))
count_seam first next files = omega (arith, length-append first (next ∷ files))

-- files were read, and then others
pub read_then : (name : Which → List ℕ) (first files : List Which) (a b c : Counts)
    → AreRead name first a b → AreRead name files b c → AreRead name (first ++ files) a c
read_then name first files a b c same read =
    grind (arith, nat_tests, append-nil, last-append, count_seam, read_more, moved)

-- ---- memory is wanting

-- the last of files stands behind as many as there are before it
last_split : (file : Which) (files : List Which)
    → (before : List Which) × (file ∷ files ≡ before ++ last_of file files ∷ [])
    × (length before ≡ length files)
last_split file [] = ([], refl, refl)
last_split file (next ∷ files) =
    let rest = last_split next files in
    (file ∷ rest.0, ap (λ l. file ∷ l) rest.1, ap suc rest.2)

-- files that were read are files that were begun
pub read_wanting : (name : Which → List ℕ) (files : List Which) (a b : Counts)
    → AreRead name files a b → AreWanting name files a b
read_wanting name [] a b same = inl same
read_wanting name (file ∷ files) a b read = grind (arith, nat_tests, last_split file files)

-- memory was wanting, whatever files come after
pub wanting_first : (name : Which → List ℕ) (files more : List Which) (a b : Counts)
    → AreWanting name files a b → AreWanting name (files ++ more) a b
wanting_first name files more a b (inl same) = inl same
wanting_first name files more a b (inr at) =
    inr (at.0, at_first files more at.0 (λ n. IsBegun (name at.0) n a b) at.1)

-- files were read, and then memory was wanting
pub wanting_then : (name : Which → List ℕ) (first files : List Which) (a b c : Counts)
    → AreRead name first a b → AreWanting name files b c → AreWanting name (first ++ files) a c
wanting_then name first files a b c some (inl same) =
    subst (λ (n : Counts). AreWanting name (first ++ files) a n) (sym same)
    (wanting_first name first files a b (read_wanting name first a b some))
wanting_then name first files a b c some (inr at) =
    inr (
      at.0,
      at_more first files at.0 (λ n. IsBegun (name at.0) n b c) (λ n. IsBegun (name at.0) n a c)
          (λ k. named_more (length first) k a b c (moved name first a b some) (name at.0)) at.1,
    )

-- ---- one is refused

-- files were read, and then one was refused
pub refused_then : (name : Which → List ℕ) (first files : List Which) (status : Status)
    (a b c : Counts) → AreRead name first a b → AreRefused name files status b c
    → AreRefused name (first ++ files) status a c
refused_then name first files (ReadFault which) a b c some at =
    at_more first files which (λ n. IsCause (name which) n b c) (λ n. IsCause (name which) n a c)
    (λ k. cause_more (length first) k a b c (moved name first a b some) (name which)) at
refused_then name first files (Limit which kind number) a b c some at =
    at_more first files which (λ n. IsLimited kind number (name which) n b c)
    (λ n. IsLimited kind number (name which) n a c)
    (λ k. limited_more (length first) k a b c (moved name first a b some) kind number (name which))
    at
refused_then name first files (BadText which kind line) a b c some at =
    at_more first files which (λ n. IsReadTo (name which) n b c) (λ n. IsReadTo (name which) n a c)
    (λ k. read_more (length first) k a b c (moved name first a b some) (name which)) at
refused_then name first files (NoState width) a b c some at =
    at_more first files State (λ n. IsReadTo (name State) n b c) (λ n. IsReadTo (name State) n a c)
    (λ k. read_more (length first) k a b c (moved name first a b some) (name State)) at
refused_then name first files NoMemory a b c some at = wanting_then name first files a b c some at
refused_then name first files status a b c some at = absurd at

-- one was refused, whatever files come after it
pub refused_first : (name : Which → List ℕ) (files more : List Which) (status : Status)
    (a b : Counts) → AreRefused name files status a b → AreRefused name (files ++ more) status a b
refused_first name files more (ReadFault which) a b at =
    at_first files more which (λ n. IsCause (name which) n a b) at
refused_first name files more (Limit which kind number) a b at =
    at_first files more which (λ n. IsLimited kind number (name which) n a b) at
refused_first name files more (BadText which kind line) a b at =
    at_first files more which (λ n. IsReadTo (name which) n a b) at
refused_first name files more (NoState width) a b at =
    at_first files more State (λ n. IsReadTo (name State) n a b) at
refused_first name files more NoMemory a b at = wanting_first name files more a b at
refused_first name files more status a b at = absurd at

-- a file alone is refused
pub refused_alone : (name : Which → List ℕ) (which : Which) (status : Status) (a b : Counts)
    → IsRefusedBy which (name which) status a b → AreRefused name (which ∷ []) status a b
refused_alone name which (ReadFault other) a b by = rw by.0 ([], [], refl, by.1)
refused_alone name which (Limit other kind number) a b by = rw by.0 ([], [], refl, by.1)
refused_alone name which (BadText other kind line) a b by = rw by.0 ([], [], refl, by.1)
refused_alone name which (NoState width) a b by = rw (← by.0) ([], [], refl, by.1)
refused_alone name which NoMemory a b (inl none) = inl none
refused_alone name which NoMemory a b (inr is) = inr (which, ([], [], refl, is))
refused_alone name which status a b by = absurd by

-- ---- of a command

-- one of the files of a model is refused
pub made_refused : (name : Which → List ℕ) (made last : List Which) (status : Status)
    (a b : Counts) → AreRefused name made status a b → AreFilesOf name made last status a b
made_refused name made last Done a b at = absurd at
made_refused name made last WriteFault a b at = absurd at
made_refused name made last (Usage position) a b at = absurd at
made_refused name made last (NotEmbedded fault) a b at = absurd at
made_refused name made last (TooWide node width) a b at = absurd at
made_refused name made last (NotProved fault) a b at = absurd at
made_refused name made last status a b at = refused_first name made last status a b at

-- those of a model were read, and then come the last ones
pub made_then : (name : Which → List ℕ) (made last : List Which) (status : Status)
    (a b c : Counts) → AreRead name made a b → AreFilesOf name [] last status b c
    → AreFilesOf name made last status a c
made_then name made last Done a b c some read = read_then name made last a b c some read
made_then name made last WriteFault a b c some read = read_then name made last a b c some read
made_then name made last (TooWide node width) a b c some read = read_then name made last a b c some read
made_then name made last (NotProved fault) a b c some read = read_then name made last a b c some read
made_then name made last (Usage position) a b c some at = tt
made_then name made last (NotEmbedded fault) a b c some same = grind (arith, nat_tests)
made_then name made last status a b c some at = refused_then name made last status a b c some at

-- ---- the count of faults

-- no call failed where all were read
read_calm : (name : Which → List ℕ) (files : List Which) (a b : Counts) → AreRead name files a b
    → b.faults ≡ a.faults
read_calm name [] a b same = ap (λ (c : Counts). c.faults) same
read_calm name (file ∷ files) a b read = read.begun.calm

-- nor where memory was wanting
wanting_calm : (name : Which → List ℕ) (files : List Which) (a b : Counts)
    → AreWanting name files a b → b.faults ≡ a.faults
wanting_calm name files a b (inl same) = ap (λ (c : Counts). c.faults) same
wanting_calm name files a b (inr at) = at.1.3.calm

-- nor where a limit was passed
limited_calm : (kind : LimitKind) (number : ℕ) (name : List ℕ) (count : ℕ) (a b : Counts)
    → IsLimited kind number name count a b → b.faults ≡ a.faults
limited_calm Bytes number name count a b is = is.1.begun.calm
limited_calm kind number name count a b is = is.begun.calm

-- one call failed where a file could not be read, and else none
pub faults_counted : (name : Which → List ℕ) (made last : List Which) (status : Status)
    (request : Request) (a b : Counts) → IsUsageOf status (Ok request)
    → AreFilesOf name made last status a b → CountsReadFault status a.faults b.faults
faults_counted name made last Done request a b asked is = read_calm name (made ++ last) a b is
faults_counted name made last WriteFault request a b asked is = read_calm name (made ++ last) a b is
faults_counted name made last (NotEmbedded fault) request a b asked is = read_calm name made a b is
faults_counted name made last (TooWide node width) request a b asked is = read_calm name (made ++ last) a b is
faults_counted name made last (NotProved fault) request a b asked is = read_calm name (made ++ last) a b is
faults_counted name made last (Usage position) request a b asked is = absurd asked
faults_counted name made last (ReadFault which) request a b asked is =
    let cause = is.3 in
    omega (arith, cause.calm, cause.rose)
faults_counted name made last (Limit which kind number) request a b asked is =
    limited_calm kind number (name which) _ a b is.3
faults_counted name made last (BadText which kind line) request a b asked is = is.3.begun.calm
faults_counted name made last (NoState width) request a b asked is = is.3.begun.calm
faults_counted name made last NoMemory request a b asked is = wanting_calm name (made ++ last) a b is
