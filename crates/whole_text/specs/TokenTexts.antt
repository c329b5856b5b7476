-- A text of words alone: their bytes joined, and a token for each.
use Rattle.std.specs.Prelude.{List}
use Rattle.whole_text.specs.declared.words.WordRef.{WordRef}
use Rattle.whole_text.specs.Tokens.{Word, word, words_at}
use Rattle.whole_text.specs.declared.token_text.TokenText.{TokenText}

-- what a word says
abbrev pub word_of : WordRef → Word
word_of w = word w.line w.bytes.now

-- the words of the text
abbrev pub words_of : TokenText → List Word
words_of text = words_at text.bytes text.tokens
