use Rattle.std.proofs.Common.{Option, subst}
use Rattle.std.proofs.lemmas.Bool.{false≢true}
use Rattle.sqlite_wal.specs.Format.{be32}
use Rattle.sqlite_wal.specs.PageSize.{Names}
use Rattle.acd_files.proofs.LoneLogs.{none_named}
use Rattle.acd_files.proofs.lone_log.holds_commit.Goals as goal

pub returns-in-None-clause-holds : goal.returns-in-None-clause-holds
returns-in-None-clause-holds g c clean =
    let log = g.D.Disk.seen c.args.files.now.log in (
      λ yes'. absurd (false≢true yes'),
      λ holds. absurd (none_named log (λ taken. subst (λ (o : Option _). Names o (be32 log 8)) c.in-None.is (c.in_ok-size.ensures.by_log clean taken)) holds),
    )
