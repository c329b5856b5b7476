use Rattle.opb_reader.proofs.Lemmas.{◌≡◌, ◌+◌, ◌*◌, ◌^◌, ◌≤◌, [], ◌∷◌, length, word_of, left, products_total, literals_in, widened, is_operator, sum_at, put_all, push}
use Rattle.opb_reader.proofs.sums.sum.Given as goal

-- the terms so far, and then those of the other words, are the terms of all; and each took a word
-- at least, and added less than 2 ^ 64
abbrev pub invariant-loop-next : goal.invariant-loop-next
invariant-loop-next l = record {
  read : put_all push l.terms (sum_at l.fn.limit is_operator l.fn.end (left l.next l.words))
      ≡ sum_at l.fn.limit is_operator l.fn.end (word_of l.fn.first ∷ l.fn.words);
  counted : l.variables ≡ widened l.fn.variables (literals_in l.terms);
  small : products_total l.terms + length (left l.next l.words) * 2 ^ 64
      ≤ (1 + length l.fn.words) * 2 ^ 64;
  emptied : l.list.items ≡ [];
}

abbrev pub decreases-loop-next : goal.decreases-loop-next
decreases-loop-next l = length (left l.next l.words)
