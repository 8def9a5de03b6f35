use Rattle.std.proofs.Common.{true, false, ap₂}
use Rattle.acd_sessions.proofs.Reopening.{image_as, leaves_found, reads_found}
use Rattle.acd_sessions.proofs.laws.fresh_are_synced.Goals as goal

pub returns : goal.returns
returns g c files fresh = (
  ap₂ image_as (reads_found g.S.Start true files.log fresh.0) (reads_found g.S.Start false files.db fresh.1),
  (leaves_found g.S.Start true files.log fresh.0, leaves_found g.S.Start false files.db fresh.1),
)
