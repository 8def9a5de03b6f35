use Rattle.std.proofs.Common.{refl}
use Rattle.acd_reports.specs.PlanReaders.{rows_left}
use Rattle.acd_reports.proofs.ReadLemmas.{strip_short}
use Rattle.acd_reports.proofs.plan.reader_of.Goals as goal

pub returns-clause-rows : goal.returns-clause-rows
unfolding rows_left
returns-clause-rows c = rw (c.from_reader.ensures.source, c.from_reader.ensures.state) refl

pub returns-clause-short : goal.returns-clause-short
returns-clause-short c = rw c.from_reader.ensures.source (strip_short c.args.text.now)
