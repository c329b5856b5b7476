-- Clauses that are read one after the other, and put into a problem.
use Rattle.wcnf_reader.proofs.Common.{nat_tests, ◌≡◌, ℕ, suc, ◌+◌, ◌-◌, ◌<◌, ◌≤◌, List, [], ◌∷◌, map, fold, Option, Some, Result, Ok, Err, refl, sym, arith, TextFault, TextAnswer, Word, ◌>>=◌, Fails, fault, next_of, Clause, ProblemContent, blank, with_variables, with_clause, normal_form, clauses_add_up, ClauseLayout, Header, Listed, Wcnf, header_at, clauses_at, at_end, older_of, clause_of, problem_of, clause_read, problem_read, listed_problem, older_read}
use Rattle.whole_text.specs.declared.faults.TextKind.TheVariants as kinds
use Rattle.wcnf_reader.specs.declared.layout.ClauseLayout.TheVariants.{Older}

-- clauses as listed, or the problem that they are put into, and what is left
abbrev pub Listing : Type 0
Listing = Result (List Listed × List Word) TextFault

abbrev pub Putting : Type 0
Putting = Result (ProblemContent × List Word) TextFault

-- a problem with the listed clauses
abbrev pub put : Option ℕ → ProblemContent → List Listed × List Word → Putting
put top p x = Ok (fold with_clause p (map (clause_of (Older top)) x.0), x.1)

-- what was put into the problem before, and what is still read
abbrev pub read_into : Option ℕ → ProblemContent → Listing → Putting
read_into top p read = read >>= put top p

abbrev with_first : Listed → List Listed × List Word → Listing
with_first c x = Ok (c ∷ x.0, x.1)

-- a clause that is read, as the problem has it
abbrev pub as_clause : ClauseLayout → Listed × List Word → Result (Clause × List Word) TextFault
as_clause layout x = Ok (clause_of layout x.0, x.1)

-- what a clause gives: it, before the others
abbrev next_clause : (List Word → Listing) → Listed × List Word → Listing
next_clause others x = others x.1 >>= with_first x.0

clause_then : (top : Option ℕ) (p : ProblemContent) (c : Clause) (ws : List Word)
    (others : List Word → Listing) (first : Result (Listed × List Word) TextFault)
    → first >>= as_clause (Older top) ≡ Ok (c, ws)
    → read_into top p (first >>= next_clause others) ≡ read_into top (with_clause p c) (others ws)
clause_then top p c ws others first h = grind (arith, nat_tests)

pub clause_goes_on : (h : Header) (count i end : ℕ) (p : ProblemContent) (ws after rest : List Word)
    (w : Word) (c : Clause) (total : Putting) → i < count → next_of end ws ≡ Ok (w, after)
    → clause_read (Older h.top) (Some h.variables) end w after ≡ Ok (c, rest)
    → read_into h.top p (clauses_at (count - i) h end ws) ≡ total
    → read_into h.top (with_clause p c) (clauses_at (count - (i + 1)) h end rest) ≡ total
unfolding clauses_at
clause_goes_on h count i end p ws after rest w c total lt next read so_far =
    let k : count - i ≡ suc (count - (i + 1)) = omega arith in
    let before = rw k at so_far in
    let n = count - (i + 1) in
    grind (arith, nat_tests, clause_then)

pub clause_fails : (e : TextAnswer) (h : Header) (count i end : ℕ) (p : ProblemContent)
    (ws after : List Word) (w : Word) (total : Putting) → i < count → next_of end ws ≡ Ok (w, after)
    → Fails e (clause_read (Older h.top) (Some h.variables) end w after)
    → read_into h.top p (clauses_at (count - i) h end ws) ≡ total → Fails e total
unfolding clauses_at
clause_fails e h count i end p ws after w total lt next fails so_far = grind (arith, nat_tests)

pub no_clause : (h : Header) (count i end : ℕ) (p : ProblemContent) (ws : List Word)
    (f : TextFault) (total : Putting) → i < count → next_of end ws ≡ Err f
    → read_into h.top p (clauses_at (count - i) h end ws) ≡ total → total ≡ Err f
unfolding clauses_at
no_clause h count i end p ws f total lt next so_far = grind (arith, nat_tests)

pub clauses_done : (h : Header) (count i end : ℕ) (p : ProblemContent) (ws : List Word)
    (total : Putting) → count ≤ i
    → read_into h.top p (clauses_at (count - i) h end ws) ≡ total → total ≡ Ok (p, ws)
unfolding clauses_at
clauses_done h count i end p ws total le so_far =
    let k : count - i ≡ 0 = omega arith in sym (rw k at so_far)

-- ---- the whole text

-- what is put into a problem that says nothing is the normal form of what is listed
into_blank : (h : Header) (read : Listing) → read_into h.top (with_variables blank h.variables) read
    ≡ (read >>= λ (x : List Listed × List Word). Ok (listed_problem h x.0, x.1))
into_blank h read = grind (arith, nat_tests, clauses_add_up)

pub problem_read-blank : (h : Header) (end : ℕ) (ws : List Word) → problem_read h end ws
    ≡ read_into h.top (with_variables blank h.variables) (clauses_at h.clauses h end ws)
problem_read-blank h end ws = sym (into_blank h (clauses_at h.clauses h end ws))

abbrev pub whole : Header → List Listed → Wcnf
whole h cs = record { layout = Older h.top; variables = h.variables; clauses = cs }

abbrev pub as_problem : Header → List Listed × List Word → Putting
as_problem h x = Ok (listed_problem h x.0, x.1)

abbrev pub normal : Wcnf → Result ProblemContent TextFault
normal s = Ok (normal_form (problem_of s))

abbrev pub end_of : Header → List Listed × List Word → Result Wcnf TextFault
end_of h x = at_end (whole h x.0) x.1

-- what a whole text gives, by its header and what is read after it
pub older_read-header : (h : Header) (line end : ℕ) (ws rest : List Word)
    → header_at line end ws ≡ Ok (h, rest)
    → older_read line end ws ≡ ((clauses_at h.clauses h end rest >>= end_of h) >>= normal)
unfolding older_of
older_read-header h line end ws rest head = rw head refl

pub nothing_left : (h : Header) (p : ProblemContent) (ws : List Word) (read : Listing) → ws ≡ []
    → read >>= as_problem h ≡ Ok (p, ws) → (read >>= end_of h) >>= normal ≡ Ok p
nothing_left h p ws read none e = grind (arith, nat_tests)

pub more_left : (h : Header) (p : ProblemContent) (w : Word) (ws rest : List Word) (read : Listing)
    → ws ≡ w ∷ rest → read >>= as_problem h ≡ Ok (p, ws)
    → (read >>= end_of h) >>= normal ≡ Err (fault kinds.Extra w.line)
more_left h p w ws rest read some e = grind (arith, nat_tests)

pub fails_whole : (e : TextAnswer) (h : Header) (read : Listing) → Fails e (read >>= as_problem h)
    → Fails e ((read >>= end_of h) >>= normal)
fails_whole e h read fails = grind (arith, nat_tests)

pub older_read-bad : (f : TextFault) (line end : ℕ) (ws : List Word)
    → header_at line end ws ≡ Err f → older_read line end ws ≡ Err f
unfolding older_of
older_read-bad f line end ws head = rw head refl
