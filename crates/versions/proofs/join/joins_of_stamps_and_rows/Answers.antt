use Rattle.std.proofs.Common.{refl}
use Rattle.versions.proofs.Joining.{order_and_repeats}
use Rattle.versions.specs.Rowing.{stamp_laws, row_laws}
use Rattle.versions.proofs.join.joins_of_stamps_and_rows.Goals as goal

pub returns : goal.returns
returns c = record {
  stamps_in_any_order = order_and_repeats stamp_laws;
  rows_in_any_order = order_and_repeats row_laws;
  no_stamps_join_to_0 = refl;
  no_rows_join_to_zeros = refl;
}
