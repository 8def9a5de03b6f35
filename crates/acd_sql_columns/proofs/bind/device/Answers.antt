use Rattle.std.proofs.Common.{arith}
use Rattle.acd_sql_columns.proofs.Rows.Bounds.{id_fits}
use Rattle.acd_sql_columns.proofs.bind.device.Goals as goal

pub integer-requires : goal.integer-requires
integer-requires c = rw c.number.ensures.value (id_fits 15 _ (omega arith) c.number.ensures.formed)
