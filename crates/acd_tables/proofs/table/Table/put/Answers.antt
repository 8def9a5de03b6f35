use Rattle.std.proofs.Common.{◌≡◌, ◌∙◌, refl, ap, subst, cond, Some}
use Rattle.std.specs.Map.{lookup}
use Rattle.std.specs.HashMap.{get}
use Rattle.std.specs.Option.{IsSome}
use Rattle.acd_terms.specs.Lists.{put_by}
use Rattle.acd_tables.proofs.TableLemmas.{keyed-put, list-put}
use Rattle.acd_tables.proofs.table.Table.put.Goals as goal

pub returns-in-Some-clause-ok : goal.returns-in-Some-clause-ok
returns-in-Some-clause-ok g c =
    let w = c.get_mut.follows.holds c.args.item in
    let there = subst IsSome c.in-Some.ensures.value refl in
    list-put g.R.Key.Ord.cmp g.R.Key.PartialEq.eq g.R.Keyed.key_of g.met.R.Key.Ord.total g.met.R.Keyed.exact g.met.R.Key.Ord.matches_eq
    c.self.inside.map.entries (c.get_mut.follows.lender c.args.item).entries c.self.invariant w.4 c.args.item
    (λ k. subst
    (λ j. lookup (g.R.Key.PartialEq.eq k) (c.get_mut.follows.lender c.args.item).entries
    ≡ cond (g.R.Key.PartialEq.eq j k) (Some c.args.item) (lookup (g.R.Key.PartialEq.eq k) c.self.inside.map.entries))
    c.key.ensures ((w.3 there).0 k))
    ∙ ap (λ rs. put_by (λ x. g.R.Key.Ord.cmp (g.R.Keyed.key_of c.args.item) (g.R.Keyed.key_of x)) rs c.args.item) c.self.view_is

pub invariant_of-self-2 : goal.invariant_of-self-2
invariant_of-self-2 g c =
    keyed-put g.R.Key.Ord.cmp g.R.Key.PartialEq.eq g.R.Keyed.key_of g.met.R.Key.Ord.total g.met.R.Keyed.exact g.met.R.Key.Ord.matches_eq
    c.self.inside.map.entries c.insert.new.self.entries c.self.invariant c.insert.ensures.unique c.args.item
    (λ k. subst
    (λ j. lookup (g.R.Key.PartialEq.eq k) c.insert.new.self.entries
    ≡ cond (g.R.Key.PartialEq.eq j k) (Some c.args.item) (lookup (g.R.Key.PartialEq.eq k) c.self.inside.map.entries))
    c.key-2.ensures
    (c.in_ok-insert.ensures.updates.0 k
    ∙ ap (λ m. cond (g.R.Key.PartialEq.eq c.key-2.result k) (Some c.args.item) (get g.R.Key.PartialEq.eq m k)) c.get_mut.follows.holds-at-none))

pub returns-clause-ok : goal.returns-clause-ok
returns-clause-ok g c =
    list-put g.R.Key.Ord.cmp g.R.Key.PartialEq.eq g.R.Keyed.key_of g.met.R.Key.Ord.total g.met.R.Keyed.exact g.met.R.Key.Ord.matches_eq
    c.self.inside.map.entries c.insert.new.self.entries c.self.invariant c.insert.ensures.unique c.args.item
    (λ k. subst
    (λ j. lookup (g.R.Key.PartialEq.eq k) c.insert.new.self.entries
    ≡ cond (g.R.Key.PartialEq.eq j k) (Some c.args.item) (lookup (g.R.Key.PartialEq.eq k) c.self.inside.map.entries))
    c.key-2.ensures
    (c.in_ok-insert.ensures.updates.0 k
    ∙ ap (λ m. cond (g.R.Key.PartialEq.eq c.key-2.result k) (Some c.args.item) (get g.R.Key.PartialEq.eq m k)) c.get_mut.follows.holds-at-none))
    ∙ ap (λ rs. put_by (λ x. g.R.Key.Ord.cmp (g.R.Keyed.key_of c.args.item) (g.R.Keyed.key_of x)) rs c.args.item) c.self.view_is
