-- Entries that are read one after the other, and put into a problem.
use Rattle.entry_reader.proofs.Common.{nat_tests, arith, ◌≡◌, ℕ, List, [], ◌∷◌, fold, Result, Ok, Err, refl, sym, ap, ◌∙◌, flat_map, TextFault, Word, ◌>>=◌, end_line, ProblemContent, blank, with_variables, with_product, products_add_up, Layout, Counts, Listed, none_to_come, header_at, entry_at, entries_at, listing_of, products_of, problem_read, problem_of_words}
use Rattle.entry_reader.proofs.Words.{entry_then, entry_fails}

-- entries as listed, or the problem that they are put into
abbrev pub Listing : Type 0
Listing = Result (List Listed) TextFault

abbrev pub Putting : Type 0
Putting = Result ProblemContent TextFault

-- a problem with the products of an entry, and of listed entries
abbrev pub with_entry : Layout → ProblemContent → Listed → ProblemContent
with_entry layout p e = fold with_product p (products_of layout e)

abbrev pub put : Layout → ProblemContent → List Listed → Putting
put layout p es = Ok (fold (with_entry layout) p es)

-- what was put into the problem before, and what is still read
abbrev pub read_into : Layout → ProblemContent → Listing → Putting
read_into layout p read = read >>= put layout p

pub entries_go_on : (layout : Layout) (end : ℕ) (c fewer : Counts) (p : ProblemContent)
    (ws rest : List Word) (e : Listed) (total : Putting) → entry_at end c ws ≡ Ok (e, fewer, rest)
    → read_into layout p (entries_at end c ws) ≡ total
    → read_into layout (with_entry layout p e) (entries_at end fewer rest) ≡ total
entries_go_on layout end c fewer p ws rest e total h so_far =
    grind (arith, nat_tests, entry_then end c fewer ws rest e h)

pub entries_fail : (layout : Layout) (end : ℕ) (c : Counts) (p : ProblemContent) (w : Word)
    (ws : List Word) (f : TextFault) (total : Putting) → entry_at end c (w ∷ ws) ≡ Err f
    → read_into layout p (entries_at end c (w ∷ ws)) ≡ total → total ≡ Err f
entries_fail layout end c p w ws f total h so_far =
    sym so_far ∙ ap (read_into layout p) (entry_fails end c w ws f h)

pub entries_end : (layout : Layout) (end : ℕ) (c : Counts) (p : ProblemContent) (ws : List Word)
    (last : Listing) (total : Putting) → ws ≡ [] → none_to_come end c ≡ last
    → read_into layout p (entries_at end c ws) ≡ total → total ≡ read_into layout p last
unfolding entries_at
entries_end layout end c p ws last total none h so_far = grind (arith, nat_tests)

-- ---- the problem of all entries

entries_written : (layout : Layout) (p : ProblemContent) (es : List Listed)
    → fold (with_entry layout) p es ≡ fold with_product p (flat_map (products_of layout) es)
entries_written layout p [] = refl
entries_written layout p (e ∷ es) =
    grind (arith, nat_tests, entries_written layout (with_entry layout p e) es)

pub problem_read-blank : (layout : Layout) (end : ℕ) (c : Counts) (ws : List Word)
    → problem_read layout end c ws
    ≡ read_into layout (with_variables blank c.nodes) (entries_at end c ws)
problem_read-blank layout end c ws = sym (grind (arith, nat_tests, entries_written, products_add_up))

-- ---- the whole text

-- what the words of a whole text give, by their header and what is read after it
pub problem_of_words-header : (layout : Layout) (c : Counts) (end : ℕ) (all ws rest : List Word)
    → ws ≡ all → end ≡ end_line all → header_at layout end ws ≡ Ok (c, rest)
    → problem_of_words layout all ≡ problem_read layout end c rest
unfolding problem_of_words listing_of
problem_of_words-header layout c end all ws rest same last head = grind (arith, nat_tests)

pub problem_of_words-bad : (layout : Layout) (f : TextFault) (end : ℕ) (all ws : List Word)
    → ws ≡ all → end ≡ end_line all → header_at layout end ws ≡ Err f
    → problem_of_words layout all ≡ Err f
unfolding problem_of_words listing_of
problem_of_words-bad layout f end all ws same last head = grind (arith, nat_tests)
