-- What the steps of the reader give.
use Rattle.std.specs.Prelude.{ℕ, ℤ, pos, ◌+ℤ◌, List, [], ◌++◌, fold, Result, Ok}
use Rattle.whole_text.specs.declared.faults.TextFault.{TextFault}
use Rattle.whole_text.specs.Tokens.{Word}
use Rattle.whole_text.specs.Steps.{◌>>=◌, integer_at}
use Rattle.literal_lists.specs.declared.literal.Literal.{Literal}
use Rattle.whole_text.specs.Rows.{by_line, each, on_line, past_line}
use Rattle.posiform_check.specs.declared.lines.Line.{Line}
use Rattle.posiform_check.specs.BitForms.{CertificateContent}
use Rattle.posiform_check.specs.Texts.{written, literal_at, line_at, bound_of, kept_line}

-- the literals up to the end of this line put behind others, and what is left
abbrev pub literals_read : ℕ → ℕ → List Literal → List Word
    → Result (List Literal × List Word) TextFault
literals_read nodes line front ws =
    each (literal_at nodes) (on_line line ws) >>= λ ls. Ok (front ++ ls, past_line line ws)

-- the line with this first word, as it is written, and what is left
abbrev pub line_read : ℕ → Word → List Word → Result (Line × List Word) TextFault
line_read nodes w ws =
    integer_at w >>= λ c. literals_read nodes w.line [] ws
    >>= λ x. Ok (written x.0 c w.line, x.1)

-- the certificate of this bound and these lines
abbrev pub certificate_of : ℤ → List Line → CertificateContent
certificate_of bound lines = record { bound = bound; lines = lines }

-- a certificate with one more line
abbrev pub with_line : CertificateContent → Line → CertificateContent
with_line c l = record { bound = c.bound +ℤ bound_of l; lines = c.lines ++ kept_line l }

-- the certificate that says nothing
abbrev pub blank : CertificateContent
blank = record { bound = pos 0; lines = [] }

-- a certificate with the lines of all words
abbrev pub lines_put : ℕ → CertificateContent → List Word → Result CertificateContent TextFault
lines_put nodes c ws = each (line_at nodes) (by_line ws) >>= λ ls. Ok (fold with_line c ls)
