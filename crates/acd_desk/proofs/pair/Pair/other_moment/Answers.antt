use Rattle.std.proofs.Common.{rules}
use Rattle.acd_desk.proofs.Archives.BothReads.{both_fault, archive_read}
use Rattle.acd_desk.proofs.Archives.Overlaps.{moment_unclean, moment_clean}
use Rattle.acd_desk.proofs.pair.Pair.other_moment.Goals as goal

pub returns-in_err-clean-clause-read : goal.returns-in_err-clean-clause-read
returns-in_err-clean-clause-read g c = both_fault (archive_read c.is_clean_cut.ensures c.in_err-clean.ensures) (search rules)

pub returns-then-not-clean-clause-read : goal.returns-then-not-clean-clause-read
returns-then-not-clean-clause-read g c = moment_unclean c.if-not-clean.true (archive_read c.is_clean_cut.ensures c.in_ok-clean.ensures)

pub returns-clause-read : goal.returns-clause-read
returns-clause-read g c = moment_clean c.if-not-clean.false (archive_read c.is_clean_cut.ensures c.in_ok-clean.ensures) c.other.ensures.read
