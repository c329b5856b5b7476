use Rattle.quadratization.proofs.RowForms.{places_make_rows, places_permute, rows_follow}
use Rattle.quadratization.proofs.laws.laws_of_rows.Goals as goal

pub returns : goal.returns
returns c = record { places = places_make_rows; permuted = places_permute; follow = rows_follow }
