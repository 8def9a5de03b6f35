use Rattle.std.proofs.Common.{◌≡◌, ◌++◌, drop}
use Rattle.acd_reports.specs.Export.{records_text}
use Rattle.acd_reports.specs.ExportWriters.{IsExportWriter, all_written}
use Rattle.acd_reports.proofs.export.write_events.Given as goal

abbrev pub invariant-loop-event : goal.invariant-loop-event
invariant-loop-event l = record {
  plain : IsExportWriter l.writer;
  so_far : all_written l.writer ++ records_text (drop l.event-index l.events) ≡ all_written l.initial.writer ++ records_text l.events;
}
