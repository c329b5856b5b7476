-- A line that is kept: what it is, and what it keeps.
use Rattle.posiform_check.proofs.Common.{nat_tests, ℕ, ◌+◌, ◌<◌, ◌≤◌, All, unsigned_abs, arith, sum_by, sum_by-append, size-plus, Literal, literal_set-ascends, has_clash-literal_set, All-literal_set, is_empty-literal_set, Line, CertificateContent, IsLine, certificate_total, bound_of, kept_line, with_line}

-- ---- what is kept

pub kept_lines-good : (l : Line) → All IsLine (kept_line l)
kept_lines-good l =
    grind (arith, nat_tests, is_empty-literal_set, literal_set-ascends, has_clash-literal_set)

pub kept_lines-within : (n : ℕ) (l : Line) → All (λ (k : Literal). k.variable < n) l.literals
    → All (λ (m : Line). All (λ (k : Literal). k.variable < n) m.literals) (kept_line l)
kept_lines-within n l h =
    let set = All-literal_set (λ (k : Literal). k.variable < n) l.literals h in
    grind (arith, nat_tests)

-- ---- one more line

abbrev size : Line → ℕ
size l = unsigned_abs l.coefficient

one_size : (l : Line) → unsigned_abs (bound_of l) + sum_by size (kept_line l) ≤ size l
one_size l = grind (arith, nat_tests)

pub with_line-total : (c : CertificateContent) (l : Line)
    → certificate_total (with_line c l) ≤ certificate_total c + unsigned_abs l.coefficient
with_line-total c l = omega (arith, one_size, size-plus, sum_by-append)
