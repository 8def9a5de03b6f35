use Rattle.std.proofs.Common.{◌+◌, ◌<◌, length, arith}
use Rattle.std.proofs.KnownBytes.{Appends-kept}
use Rattle.acd_io.proofs.Sends.{stopped, one_write, room_left, breaks_part}
use Rattle.acd_io.proofs.sending.send.Goals as goal

pub loop-done-preserved-in-Ok : goal.loop-done-preserved-in-Ok
loop-done-preserved-in-Ok g c = record {
  within = room_left c.args.bytes.now c.loop-done.done c.in-Ok.n c.loop-done.invariant.within c.in-Ok.ensures.bound;
  sent = one_write _ _ _ c.args.bytes.now c.loop-done.done c.in-Ok.n c.loop-done.invariant.sent c.in-Ok.ensures.bytes;
}

pub returns-then-calls-eq0 : goal.returns-then-calls-eq0
returns-then-calls-eq0 g c = breaks_part _ _ c.args.bytes.now c.loop-done.done (omega arith) c.loop-done.invariant.sent

pub returns-in-Ok-eq0 : goal.returns-in-Ok-eq0
returns-in-Ok-eq0 g c =
    let none = c.in-Ok-eq0.field-0-test in
    let few : c.loop-done.done + c.in-Ok-eq0.field-0 < length c.args.bytes.now = omega arith in
    breaks_part _ _ c.args.bytes.now (c.loop-done.done + c.in-Ok-eq0.field-0) few (one_write _ _ _ c.args.bytes.now c.loop-done.done c.in-Ok-eq0.field-0 c.loop-done.invariant.sent c.in-Ok-eq0.ensures.bytes)

pub returns-in_err-retried-in-Err : goal.returns-in_err-retried-in-Err
returns-in_err-retried-in-Err g c =
    stopped _ _ _ _ c.from_residual.ensures.1 (breaks_part _ _ c.args.bytes.now c.loop-done.done (omega arith) (Appends-kept _ _ _ _ c.loop-done.invariant.sent c.in-Err.ensures.bytes))
