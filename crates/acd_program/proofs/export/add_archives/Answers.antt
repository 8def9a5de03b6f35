use Rattle.std.proofs.Common.{refl}
use Rattle.sqlite_std_file.specs.File.{IsFresh}
use Rattle.acd_program.proofs.Archives.Exports.{archive_more, archives_all}
use Rattle.acd_program.proofs.export.add_archives.Goals as goal

pub loop-archive-init : goal.loop-archive-init
loop-archive-init g c = refl

pub loop-archive-preserved : goal.loop-archive-preserved
loop-archive-preserved g c =
    archive_more _ IsFresh c.loop-archive.archive-index c.args.archives.now c.args.table.now c.loop-archive.table c.add_archive.new.table c.loop-archive-test.true c.loop-archive.invariant c.in-Ok.ensures.added

pub returns-in-Err-clause-left : goal.returns-in-Err-clause-left
returns-in-Err-clause-left g c = (_, c.args.table.now, c.loop-archive.table, c.loop-archive.invariant, c.in-Err.ensures.left)

pub returns-clause-added : goal.returns-clause-added
returns-clause-added g c = archives_all _ IsFresh c.loop-archive.archive-index c.args.archives.now c.args.table.now c.loop-archive.table c.loop-archive-test.false c.loop-archive.invariant
