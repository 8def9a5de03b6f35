use Rattle.std.proofs.Common.{subst}
use Rattle.acd_log.specs.Ending.{IsBeforeCommit}
use Rattle.acd_log.proofs.LogFrames.{first_once}
use Rattle.acd_log.proofs.frames.is_damaged.Goals as goal

pub returns : goal.returns
returns c =
    let page = c.args.page in
    let log = c.args.log.now in
    let found = c.first_bad.ensures in
    let decides = c.is_before_commit.ensures found.0 found.2 in
    (λ yes'. (found.0, found.1, decides.0 yes'), λ h. decides.1 (subst (IsBeforeCommit page log) (first_once page log h.0 found.0 h.1 found.1) h.2))
