use Rattle.std.proofs.Common.{arith}
use Rattle.acd_tables.proofs.TableLemmas.{found-entry}
use Rattle.acd_tables.proofs.table.Table.find.Goals as goal

pub returns : goal.returns
returns g c =
    let found =
    found-entry g.R.Key.Ord.cmp g.R.Key.PartialEq.eq g.R.Keyed.key_of g.met.R.Key.Ord.total g.met.R.Keyed.exact g.met.R.Key.Ord.matches_eq c.args.key
    c.self.inside.map.entries c.self.invariant in
    grind (arith, found, c.copied.ensures, c.get.ensures.value, c.self.view_is)
