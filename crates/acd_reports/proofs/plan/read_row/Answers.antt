use Rattle.csv.specs.Records.{fields_of}
use Rattle.acd_reports.proofs.ReadLemmas.{next_rows}
use Rattle.acd_reports.proofs.plan.read_row.Goals as goal

pub returns-clause-reads : goal.returns-clause-reads
returns-clause-reads c = next_rows c.args.reader.now c.read_byte_record.new.self c.in-Ok.found (fields_of c.read_byte_record.new.row) c.requires
    (c.in-Ok.ensures.reads c.requires.trim c.requires.ready) c.in-Ok.ensures.reads_on
