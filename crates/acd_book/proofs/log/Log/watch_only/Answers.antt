use Rattle.std.proofs.Common.{◌≡◌, ◌+◌, ◌≤◌, ℕ, length, rules, subst}
use Rattle.acd_terms.specs.Lists.{Every}
use Rattle.acd_terms.specs.declared.event.Event.{Event}
use Rattle.acd_book.proofs.MonitorEvents.{none_exceeds}
use Rattle.acd_book.proofs.log.Log.watch_only.Goals as goal

pub invariant_of-self-clause-listed : goal.invariant_of-self-clause-listed
invariant_of-self-clause-listed c =
    let s = c.args.self.now in
    let all : 0 + length s.events.items ≡ c.len-last.result = search rules in
    let low = subst (λ (n : ℕ). Every (λ (e : Event). e.number ≤ n) s.events.items) all (none_exceeds 0 s.events.items s.numbered) in
    c.of_monitors.ensures.lists s.events.items low
