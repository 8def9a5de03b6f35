use Rattle.acd_reports.proofs.ExportLemmas.{joined}
use Rattle.acd_reports.proofs.export.pages_join.Goals as goal

pub returns : goal.returns
returns c = joined
