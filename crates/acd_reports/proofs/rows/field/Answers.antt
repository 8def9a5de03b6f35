use Rattle.std.proofs.Common.{Bor, List, ℕ}
use Rattle.csv.specs.Records.{fields_of}
use Rattle.acd_reports.proofs.RowLemmas.{some_field}
use Rattle.acd_reports.proofs.rows.field.Goals as goal

pub unwrap-requires : goal.unwrap-requires
unwrap-requires c = some_field (λ (s : Bor (List ℕ)). s.now) c.get.result (fields_of c.args.row.now) c.args.place c.get.ensures.value c.requires
