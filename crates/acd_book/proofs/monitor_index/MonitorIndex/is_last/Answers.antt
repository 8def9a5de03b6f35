use Rattle.std.proofs.Common.{ℕ, ◌≡◌, ◌-◌, ◌==◌, Option, None, Some, ap, sym, subst, refl, ◌∙◌}
use Rattle.std.specs.Prelude.{IfSome, option_map}
use Rattle.std.specs.HashMap.{get_by}
use Rattle.std.specs.Option.{IsSome}
use Rattle.acd_book.specs.MonitorIndexes.{IsListed, monitor_count, is_none_left}
use Rattle.acd_book.specs.declared.numbers.Numbers.{Numbers}
use Rattle.acd_book.proofs.DeviceNumbers.{listed_but}
use Rattle.acd_book.proofs.monitor_index.MonitorIndex.is_last.Goals as goal

pub returns-in-Some-clause-lists : goal.returns-in-Some-clause-lists
returns-in-Some-clause-lists c events h =
    let w = c.get_mut.follows.holds _ in
    let there = subst IsSome c.in-Some.ensures.value refl in
    let updates = w.3 there in
    listed_but events events c.args.self.now.lists.entries _ c.args.device (Some _) updates.1 updates.2
    (subst (λ (o : Option Numbers). IfSome o (IsListed events c.args.device)) (sym c.in-Some.ensures.value) (h c.args.device)) (λ q l other listed. listed) h

pub returns-in-Some-clause-counts : goal.returns-in-Some-clause-counts
returns-in-Some-clause-counts c =
    let list = c.in-Some.list.now in
    let w = c.get_mut.follows.holds (record { above = list.above; numbers = list.numbers; monitors = c.saturating_sub-list.result; rise = _ }) in
    let updates = w.3 (subst IsSome c.in-Some.ensures.value refl) in
    record {
      devices = refl;
      one = ap (option_map (λ (l : Numbers). l.monitors)) updates.1 ∙ ap Some c.saturating_sub-list.ensures
          ∙ ap (option_map (λ (n : ℕ). n - 1)) (ap (option_map (λ (l : Numbers). l.monitors)) c.in-Some.ensures.value);
      others = λ d other. ap (option_map (λ (l : Numbers). l.monitors)) (updates.2 d other);
    }

pub returns-in-Some-clause-last : goal.returns-in-Some-clause-last
returns-in-Some-clause-last c =
    let list = c.in-Some.list.now in
    let w = c.get_mut.follows.holds (record { above = list.above; numbers = list.numbers; monitors = c.saturating_sub-list.result; rise = _ }) in
    let updates = w.3 (subst IsSome c.in-Some.ensures.value refl) in
    sym (ap is_none_left (ap (option_map (λ (l : Numbers). l.monitors)) updates.1))

pub returns-in-None-clause-counts : goal.returns-in-None-clause-counts
returns-in-None-clause-counts c =
    let same = c.get_mut.follows.holds-at-none in
    let none : monitor_count c.args.self.now c.args.device ≡ None = sym (ap (option_map (λ (l : Numbers). l.monitors)) c.in-None.ensures.value) in
    record {
      devices = refl;
      one =
          ap (λ m. option_map (λ (l : Numbers). l.monitors) (get_by (λ (k : ℕ). c.args.device == k) m)) same ∙ none
          ∙ sym (ap (option_map (λ (n : ℕ). n - 1)) none);
      others = λ d other. ap (λ m. option_map (λ (l : Numbers). l.monitors) (get_by (λ (k : ℕ). d == k) m)) same;
    }

pub returns-in-None-clause-last : goal.returns-in-None-clause-last
returns-in-None-clause-last c =
    let same = c.get_mut.follows.holds-at-none in
    let none : monitor_count c.args.self.now c.args.device ≡ None = sym (ap (option_map (λ (l : Numbers). l.monitors)) c.in-None.ensures.value) in
    sym (ap is_none_left (ap (λ m. option_map (λ (l : Numbers). l.monitors) (get_by (λ (k : ℕ). c.args.device == k) m)) same ∙ none))
