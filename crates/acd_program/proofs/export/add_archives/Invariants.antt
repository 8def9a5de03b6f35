use Rattle.std.proofs.Common.{length, take}
use Rattle.sqlite_disk.specs.contracts.modelled.ModelledDisk.TheImpl.{ghosts as disk}
use Rattle.sqlite_std_file.specs.contracts.host.Host.{the_row as host}
use Rattle.sqlite_std_file.specs.contracts.host.HostCalls.TheImpl.{ghosts as calls, dict as given}
use Rattle.sqlite_std_file.specs.File.{IsFresh}
use Rattle.acd_program.specs.Archives.ArchiveExport.{AddsArchives}
use Rattle.acd_program.proofs.export.add_archives.Given as goal

abbrev pub invariant-loop-archive : goal.invariant-loop-archive
invariant-loop-archive g l =
    AddsArchives (disk host g.row.S calls given g.S.Start g.S.Start-dict g.S.Destruct-dict) IsFresh (length (take l.archive-index l.archives)) l.fn.table l.table
