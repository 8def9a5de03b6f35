use Rattle.std.proofs.Common.{ℕ, ◌==◌, Some, inl, refl, ap, ◌∙◌}
use Rattle.std.specs.HashMap.{get_by}
use Rattle.acd_book.proofs.MonitorCounts.{Monitors, put_in, ok_so, more_kept, said_one, unrecorded, recorded_still}
use Rattle.acd_book.proofs.monitor_index.MonitorIndex.start.Goals as goal

pub returns-then-is_ok-clause-kept : goal.returns-then-is_ok-clause-kept
returns-then-is_ok-clause-kept c kept =
    let s = c.stop.new.self in
    let m = c.args.monitor.now.monitor in
    let d = c.args.monitor.now.device in
    more_kept s (record s { devices = c.insert.new.self }) c.count.new.self refl (c.stop.ensures.kept kept) d
    (λ e. put_in c.insert.result m d e s.devices c.insert.new.self c.if-is_ok.ensures.value (unrecorded m c.args.self.now s c.stop.ensures.recorded)
    c.insert.ensures.old c.insert.ensures.entries)
    c.count.ensures.counts

pub returns-then-is_ok-clause-recorded : goal.returns-then-is_ok-clause-recorded
returns-then-is_ok-clause-recorded c =
    let m = c.args.monitor.now.monitor in
    let updates = ok_so c.insert.result c.if-is_ok.ensures.value c.insert.ensures.updates in
    let same = c.count.ensures.counts.devices in
    said_one m (Some c.args.monitor.now.device) c.args.self.now c.count.new.self (inl (ap (λ (v : Monitors). get_by (λ (k : ℕ). m == k) v) same ∙ updates.1))
    (λ q other. ap (λ (v : Monitors). get_by (λ (k : ℕ). q == k) v) same ∙ updates.2 q other
    ∙ recorded_still m q c.args.self.now c.stop.new.self c.stop.ensures.recorded other)
