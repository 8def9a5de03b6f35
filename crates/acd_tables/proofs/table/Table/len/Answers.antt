use Rattle.std.proofs.Common.{◌∙◌, ap, sym, length}
use Rattle.acd_tables.proofs.TableLemmas.{length-entries}
use Rattle.acd_tables.proofs.table.Table.len.Goals as goal

pub returns-clause-value : goal.returns-clause-value
returns-clause-value g c =
    c.len.ensures.len
    ∙ sym (length-entries g.R.Key.Ord.cmp g.R.Key.PartialEq.eq g.R.Keyed.key_of g.met.R.Key.Ord.total g.met.R.Keyed.exact g.met.R.Key.Ord.matches_eq
    c.self.inside.map.entries c.self.invariant)
    ∙ ap length c.self.view_is
