use Rattle.std.proofs.Common.{◌≡◌, ◌+◌, ◌≤◌, ◌==◌, ◌∙◌, ℕ, inl, inr, [], List, map, filter, Option, Some, None, sym, subst, refl, ap, arith}
use Rattle.std.specs.Prelude.{IfSome, option_map}
use Rattle.std.specs.Option.{IsSome, option_copied_mut}
use Rattle.std.specs.Map.{lookup}
use Rattle.acd_book.specs.Content.{is_at_after}
use Rattle.acd_book.specs.Memory.{number_of_event}
use Rattle.acd_book.specs.MonitorIndexes.{IsListed, monitor_count}
use Rattle.acd_book.specs.declared.numbers.Numbers.{Numbers}
use Rattle.acd_book.proofs.MonitorCounts.{more_is, first_is}
use Rattle.acd_book.proofs.DeviceNumbers.{list_at, listed_but, none_above, either}
use Rattle.acd_book.proofs.monitor_index.MonitorIndex.count.Goals as goal

pub returns-in-Some-clause-lists : goal.returns-in-Some-clause-lists
returns-in-Some-clause-lists c events low h =
    let w = c.get_mut.follows.holds _ in
    let there = subst IsSome c.in-Some.ensures.value refl in
    let updates = w.3 there in
    listed_but events events c.args.self.now.lists.entries _ c.args.device (Some _) updates.1 updates.2
    (subst (λ (o : Option Numbers). IfSome o (IsListed events c.args.device)) (sym c.in-Some.ensures.value) (h c.args.device)) (λ q l other listed. listed) h

pub returns-clause-lists : goal.returns-clause-lists
returns-clause-lists c events low h =
    let same = c.get_mut.follows.holds-at-none in
    let new : IsListed events c.args.device c.new.result
    =
    c.new.ensures.none
    ∙ sym (ap (map number_of_event) (subst (λ (n : ℕ). filter (is_at_after (Some c.args.device) n) events ≡ []) (sym c.new.ensures.above)
    (none_above c.args.device c.args.above events low))) in
    elim (either c.insert.result c.insert.ensures.updates c.insert.ensures.err) [
      | inl u ↦ listed_but events events c.args.self.now.lists.entries c.insert.new.self.entries c.args.device (Some c.new.result) u.1
          (λ q other. u.2 q other ∙ ap (λ m. list_at q m.entries) same) new (λ q l other listed. listed) h
      | inr e ↦ λ q. subst (λ (es : List (ℕ × Numbers)). IfSome (lookup (λ (k : ℕ). q == k) es) (IsListed events q)) (sym (e ∙ ap (λ m. m.entries) same)) (h q)
    ]

pub returns-in-Some-clause-counts : goal.returns-in-Some-clause-counts
returns-in-Some-clause-counts c =
    let list = c.in-Some.list.now in
    let least : 1 ≤ c.saturating_add-list.result = omega (arith, c.saturating_add-list.ensures) in
    let most : c.saturating_add-list.result ≤ list.monitors + 1 = omega (arith, c.saturating_add-list.ensures) in
    let w = c.get_mut.follows.holds (record { above = list.above; numbers = list.numbers; monitors = c.saturating_add-list.result; rise = _ }) in
    let updates = w.3 (subst IsSome c.in-Some.ensures.value refl) in
    record {
      devices = refl;
      one =
          more_is _ _ list.monitors c.saturating_add-list.result (sym (ap (option_map (λ (l : Numbers). l.monitors)) c.in-Some.ensures.value))
          (ap (option_map (λ (l : Numbers). l.monitors)) updates.1) least most;
      others = λ d other. ap (option_map (λ (l : Numbers). l.monitors)) (updates.2 d other);
    }

pub returns-clause-counts : goal.returns-clause-counts
returns-clause-counts c =
    let same = c.get_mut.follows.holds-at-none in
    let none : monitor_count c.args.self.now c.args.device ≡ None =
    ap (option_map (λ (l : Numbers). l.monitors)) (sym c.get_mut.ensures.value ∙ ap option_copied_mut c.in_default.is) in
    elim (either c.insert.result c.insert.ensures.updates c.insert.ensures.err) [
      | inl u ↦ record {
        devices = refl;
        one = first_is _ _ none (inr (ap (option_map (λ (l : Numbers). l.monitors)) u.1 ∙ ap Some c.new.ensures.one));
        others = λ d other. ap (option_map (λ (l : Numbers). l.monitors)) (u.2 d other ∙ ap (λ m. list_at d m.entries) same);
      }
      | inr e ↦ record {
        devices = refl;
        one =
            first_is _ _ none (inl
            (ap (λ (es : List (ℕ × Numbers)). option_map (λ (l : Numbers). l.monitors) (list_at c.args.device es)) (e ∙ ap (λ m. m.entries) same) ∙ none));
        others = λ d other. ap (λ (es : List (ℕ × Numbers)). option_map (λ (l : Numbers). l.monitors) (list_at d es)) (e ∙ ap (λ m. m.entries) same);
      }
    ]
