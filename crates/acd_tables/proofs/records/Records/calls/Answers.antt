use Rattle.std.proofs.Common.{subst}
use Rattle.acd_terms.specs.Lists.{Among}
use Rattle.acd_terms.specs.declared.record.CallRecord.{CallRecord}
use Rattle.acd_terms.specs.declared.rows.Rows.{Rows}
use Rattle.acd_tables.proofs.records.Records.calls.Goals as goal

pub returns : goal.returns
returns c =
    subst (λ (s : Rows). (x : CallRecord) → (Among x s.calls → Among x c.values.result) × (Among x c.values.result → Among x s.calls)) c.self.view_is
    c.values.ensures
