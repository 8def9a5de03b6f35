use Rattle.std.proofs.Common.{[], refl}
use Rattle.acd_tables.proofs.IndexLemmas.{IsIndexed-blank}
use Rattle.acd_tables.proofs.tables.Tables.from_rows.Goals as goal

pub invariant_of-tables : goal.invariant_of-tables
invariant_of-tables c =
    rw c.in_ok-without_indexed.ensures
    (IsIndexed-blank (record c.args.rows.now { groups = []; agents = []; connections = [] }) c.new.result refl refl refl c.new.ensures)
