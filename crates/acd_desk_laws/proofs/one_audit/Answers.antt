use Rattle.acd_desk.proofs.Replays.AuditLaws.{one_audit, sound_ordered, sound_agrees}
use Rattle.acd_desk_laws.proofs.one_audit.Goals as goal

pub returns : goal.returns
returns c = record { one = one_audit; ordered = sound_ordered; agrees = sound_agrees }
