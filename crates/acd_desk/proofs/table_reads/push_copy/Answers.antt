use Rattle.acd_desk.proofs.table_reads.push_copy.Goals as goal

pub returns : goal.returns
returns g c = c.in_ok-push.ensures.items
