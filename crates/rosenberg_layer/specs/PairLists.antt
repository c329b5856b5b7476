-- Pairs of literals as they are kept: the codes of both.
use Rattle.literal_lists.specs.Codes.{literal_of}
use Rattle.rosenberg_layer.specs.declared.pair_list.PairCodes.{PairCodes}
use Rattle.rosenberg_layer.specs.Rosenberg.{Pair}

-- the pair of two codes
abbrev pub coded_pair : PairCodes → Pair
coded_pair codes = (literal_of codes.first, literal_of codes.second)
