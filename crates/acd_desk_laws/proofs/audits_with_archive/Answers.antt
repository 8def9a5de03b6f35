use Rattle.acd_desk_laws.proofs.OrderInTime.{stands_in_time}
use Rattle.acd_desk_laws.proofs.WithArchive.{audits_with_archive, audits_link_by_link}
use Rattle.acd_desk_laws.proofs.audits_with_archive.Goals as goal

pub returns : goal.returns
returns c = record { one = audits_with_archive; links = audits_link_by_link; in_time = stands_in_time }
