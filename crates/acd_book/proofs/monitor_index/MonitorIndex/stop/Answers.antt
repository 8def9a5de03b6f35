use Rattle.std.proofs.Common.{ℕ, ◌==◌, None, inl, refl, ap, ◌∙◌}
use Rattle.std.specs.HashMap.{get_by}
use Rattle.acd_book.proofs.MonitorCounts.{Monitors, one_less, less_kept, said_one}
use Rattle.acd_book.proofs.monitor_index.MonitorIndex.stop.Goals as goal

pub returns-in-Some-clause-kept : goal.returns-in-Some-clause-kept
returns-in-Some-clause-kept c kept =
    let old = c.args.self.now in
    let mid = record old { devices = c.remove.new.self } in
    less_kept old mid c.discount.new.self refl kept c.in-Some.device
    (λ d. one_less c.args.monitor c.in-Some.device d old.devices c.remove.new.self c.in-Some.ensures.value c.remove.ensures.entries)
    c.discount.ensures.counts

pub returns-in-Some-clause-recorded : goal.returns-in-Some-clause-recorded
returns-in-Some-clause-recorded c =
    let updates = c.remove.ensures.updates in
    let same = c.discount.ensures.counts.devices in
    said_one c.args.monitor None c.args.self.now c.discount.new.self (inl (ap (λ (m : Monitors). get_by (λ (k : ℕ). c.args.monitor == k) m) same ∙ updates.1))
    (λ q other. ap (λ (m : Monitors). get_by (λ (k : ℕ). q == k) m) same ∙ updates.2 q other)
