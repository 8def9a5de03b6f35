use Rattle.std.proofs.Common.{sym}
use Rattle.acd_tables.proofs.SetLemmas.{set-written}
use Rattle.acd_tables.proofs.sets.enter.Goals as goal

pub returns-in_ok-insert-in-Some-clause-ok : goal.returns-in_ok-insert-in-Some-clause-ok
returns-in_ok-insert-in-Some-clause-ok g c =
    set-written g.K.Ord.cmp g.E.Ord.cmp g.met.K.Ord.total c.args.sets.now c.args.key _ c.args.member _ c.in-Some.set.now c.insert.new.self
    (sym c.in-Some.ensures.value) (λ here. ((c.get_mut.follows.holds c.insert.new.self).3 here).0) c.in_ok-insert-in-Some.ensures.updates.0
