use Rattle.sqlite.specs.Held.{state}
use Rattle.acd_files.proofs.Ends.{if_is_ok}
use Rattle.acd_program.proofs.Archives.Exports.{unserved_left}
use Rattle.acd_program.proofs.export.table_over.Goals as goal

pub returns-in-Err-clause-kept : goal.returns-in-Err-clause-kept
returns-in-Err-clause-kept g c = unserved_left (state g.C.Store c.args.conn)

pub returns-in-Err-add_archives-clause-kept : goal.returns-in-Err-add_archives-clause-kept
returns-in-Err-add_archives-clause-kept g c = unserved_left (state g.C.Store c.args.conn)

pub returns-in-Ok-added-clause-made : goal.returns-in-Ok-added-clause-made
returns-in-Ok-added-clause-made g c = record {
  begun = c.in-Ok.table;
  before = c.add_archives.new.table;
  header = c.in-Ok.ensures;
  archives = c.in-Ok-add_archives.ensures.added;
  desk = if_is_ok c.add_desk-added.result.0 c.in-Ok-added.field-0 _ c.in-Ok-added.is c.add_desk-added.ensures.added;
}
