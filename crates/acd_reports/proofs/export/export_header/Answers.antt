use Rattle.std.proofs.Common.{refl}
use Rattle.csv.specs.Writing.{escaped, fields_text, is_blank}
use Rattle.acd_reports.specs.Export.{header_record}
use Rattle.acd_reports.proofs.export.export_header.Goals as goal

pub returns : goal.returns
unfolding header_record escaped fields_text is_blank
returns c = refl
