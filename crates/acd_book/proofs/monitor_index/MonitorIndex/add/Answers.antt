use Rattle.std.proofs.Common.{◌≡◌, inl, inr, ap, ◌++◌, ◌∷◌, [], ◌∙◌, Option, Some, None, sym, subst, refl, rules}
use Rattle.std.specs.Prelude.{IfSome, option_map}
use Rattle.std.specs.Option.{IsSome}
use Rattle.acd_terms.specs.Columns.{columns_of}
use Rattle.acd_book.specs.MonitorIndexes.{IsListed}
use Rattle.acd_book.specs.declared.numbers.Numbers.{Numbers}
use Rattle.acd_book.proofs.MonitorCounts.{rest_kept, rest_counted}
use Rattle.acd_book.proofs.DeviceNumbers.{listed_but, listed_here, listed_elsewhere, was_ok}
use Rattle.acd_book.proofs.monitor_index.MonitorIndex.add.Goals as goal

pub returns-then-is_err-clause-lists : goal.returns-then-is_err-clause-lists
returns-then-is_err-clause-lists c events h =
    let e = c.args.event.now in
    let at : (columns_of e.report).device ≡ Some c.in-Some.device = search rules in
    let w = c.get_mut.follows.holds c.add.new.self in
    let there = subst IsSome c.in-Some-get_mut.ensures.value refl in
    let written = w.3 there in
    let gone = c.remove.ensures.updates in
    listed_but events (events ++ e ∷ []) c.args.self.now.lists.entries c.remove.new.self.entries c.in-Some.device None gone.1
    (λ q other. gone.2 q other ∙ written.2 q other) tt
    (λ q l other listed. listed_elsewhere c.in-Some.device q l e events at other listed) h

pub returns-else-is_err-clause-lists : goal.returns-else-is_err-clause-lists
returns-else-is_err-clause-lists c events h =
    let e = c.args.event.now in
    let at : (columns_of e.report).device ≡ Some c.in-Some.device = search rules in
    let w = c.get_mut.follows.holds c.add.new.self in
    let there = subst IsSome c.in-Some-get_mut.ensures.value refl in
    let written = w.3 there in
    let here = subst (λ (o : Option Numbers). IfSome o (IsListed events c.in-Some.device)) (sym c.in-Some-get_mut.ensures.value) (h c.in-Some.device) in
    let added = was_ok c.add.result c.if-is_err.ensures.value c.add.ensures.added in
    listed_but events (events ++ e ∷ []) c.args.self.now.lists.entries (c.get_mut.follows.lender c.add.new.self).entries c.in-Some.device (Some c.add.new.self)
    written.1 written.2
    (listed_here c.in-Some.device c.in-Some-get_mut.list.now c.add.new.self e events at c.add.ensures.above added here)
    (λ q l other listed. listed_elsewhere c.in-Some.device q l e events at other listed) h

pub returns-then-is_err-clause-kept : goal.returns-then-is_err-clause-kept
returns-then-is_err-clause-kept c =
    let old = c.args.self.now in
    let new = record old { lists = c.remove.new.self } in
    let written = (c.get_mut.follows.holds c.add.new.self).3 (subst IsSome c.in-Some-get_mut.ensures.value refl) in
    let gone = c.remove.ensures.updates in
    rest_kept old new refl (rest_counted c.in-Some.device old new (inr (ap (option_map (λ (l : Numbers). l.monitors)) gone.1))
    (λ q other. ap (option_map (λ (l : Numbers). l.monitors)) (gone.2 q other ∙ written.2 q other)))

pub returns-else-is_err-clause-kept : goal.returns-else-is_err-clause-kept
returns-else-is_err-clause-kept c =
    let old = c.args.self.now in
    let new = record old { lists = c.get_mut.follows.lender c.add.new.self } in
    let written = (c.get_mut.follows.holds c.add.new.self).3 (subst IsSome c.in-Some-get_mut.ensures.value refl) in
    rest_kept old new refl (rest_counted c.in-Some.device old new
    (inl (ap (option_map (λ (l : Numbers). l.monitors)) written.1 ∙ ap Some c.add.ensures.counts
    ∙ ap (option_map (λ (l : Numbers). l.monitors)) c.in-Some-get_mut.ensures.value))
    (λ q other. ap (option_map (λ (l : Numbers). l.monitors)) (written.2 q other)))
