use Rattle.std.proofs.Common.{sym, subst}
use Rattle.acd_terms.specs.Lists.{Among}
use Rattle.acd_tables.proofs.TableLemmas.{among-forth, among-back}
use Rattle.acd_tables.proofs.table.Table.values.Goals as goal

pub returns : goal.returns
returns g c = λ r. (
  λ a. subst (Among r) (sym c.values.ensures.rest)
      (among-forth g.R.Key.Ord.cmp g.R.Key.PartialEq.eq g.R.Keyed.key_of g.met.R.Key.Ord.total g.met.R.Keyed.exact g.met.R.Key.Ord.matches_eq r
      c.self.inside.map.entries c.self.invariant (subst (Among r) (sym c.self.view_is) a)),
  λ a. subst (Among r) c.self.view_is (among-back g.R.Key.Ord.cmp g.R.Key.PartialEq.eq g.R.Keyed.key_of g.met.R.Key.Ord.total g.met.R.Keyed.exact
      g.met.R.Key.Ord.matches_eq r c.self.inside.map.entries c.self.invariant (subst (Among r) c.values.ensures.rest a)),
)
