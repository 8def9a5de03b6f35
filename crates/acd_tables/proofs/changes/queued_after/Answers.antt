use Rattle.std.proofs.Common.{◌≡◌, ℕ, ◌≤◌, Bool, true, false, cond, Option, Some, None, ap, ◌∙◌, arith}
use Rattle.acd_terms.specs.States.{is_queued}
use Rattle.acd_terms.specs.declared.record.ConnectionRecord.{ConnectionRecord}
use Rattle.acd_model.specs.Scans.{connection_of}
use Rattle.acd_tables.specs.Swaps.{one_queued}
use Rattle.acd_tables.proofs.IndexLemmas.{queued-swapped, queued_most, queued_least}
use Rattle.acd_tables.proofs.changes.queued_after.Goals as goal

pub overflow_sub-result : goal.overflow_sub-result
overflow_sub-result c =
    let s = c.args.records.now in
    let least = queued_least s c.args.call c.args.device c.requires.indexed.connections in
    let old : c.one_queued-before.result ≡ one_queued (connection_of s c.args.call c.args.device) =
    c.one_queued-before.ensures ∙ ap one_queued c.requires.found in
    let now = c.requires.indexed.queued in
    omega (arith, least, old, now)

one_or_none : (o : Option ConnectionRecord) → one_queued o ≤ 1
one_or_none None = omega arith
one_or_none (Some c) = by (is_queued c.state)
  where
    by : (b : Bool) → cond {A = ℕ} b 1 0 ≤ 1
    by true = omega arith
    by false = omega arith

pub overflow_add-result : goal.overflow_add-result
overflow_add-result c =
    let s = c.args.records.now in
    let most = queued_most s in
    let one = one_or_none c.args.new.now in
    let new = c.one_queued-after.ensures in
    let now = c.requires.indexed.queued in
    let small = c.connection_count.ensures.small in
    let value = c.connection_count.ensures.value in
    omega (arith, most, one, new, now, small, value)

pub returns : goal.returns
returns c =
    let s = c.args.records.now in
    let turned = queued-swapped s c.args.call c.args.device c.args.new.now c.requires.indexed.connections c.requires.at in
    let least = queued_least s c.args.call c.args.device c.requires.indexed.connections in
    let old : c.one_queued-before.result ≡ one_queued (connection_of s c.args.call c.args.device) =
    c.one_queued-before.ensures ∙ ap one_queued c.requires.found in
    let new = c.one_queued-after.ensures in
    let now = c.requires.indexed.queued in
    omega (arith, turned, least, old, new, now)
