use Rattle.acd_lemmas.proofs.SameRecords.{rows_decided}
use Rattle.acd_desk.proofs.same.are_same_rows.Goals as goal

pub returns : goal.returns
returns c = rows_decided c.args.a.now c.args.b.now c.eq.result c.eq.ensures
