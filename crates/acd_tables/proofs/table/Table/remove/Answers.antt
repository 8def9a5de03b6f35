use Rattle.std.proofs.Common.{◌∙◌, ap}
use Rattle.acd_terms.specs.Lists.{remove_by}
use Rattle.acd_tables.proofs.TableLemmas.{keyed-remove, list-remove}
use Rattle.acd_tables.proofs.table.Table.remove.Goals as goal

pub invariant_of-self : goal.invariant_of-self
invariant_of-self g c =
    keyed-remove g.R.Key.Ord.cmp g.R.Key.PartialEq.eq g.R.Keyed.key_of g.met.R.Key.Ord.total g.met.R.Keyed.exact g.met.R.Key.Ord.matches_eq
    c.self.inside.map.entries c.remove.new.self.entries c.self.invariant c.remove.ensures.unique c.args.key c.remove.ensures.updates.0

pub returns : goal.returns
returns g c =
    list-remove g.R.Key.Ord.cmp g.R.Key.PartialEq.eq g.R.Keyed.key_of g.met.R.Key.Ord.total g.met.R.Keyed.exact g.met.R.Key.Ord.matches_eq
    c.self.inside.map.entries c.remove.new.self.entries c.self.invariant c.remove.ensures.unique c.args.key c.remove.ensures.updates.0
    ∙ ap (λ rs. remove_by (λ x. g.R.Key.Ord.cmp c.args.key (g.R.Keyed.key_of x)) rs) c.self.view_is
