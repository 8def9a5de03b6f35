use Rattle.std.proofs.Common.{◌+◌, ◌-◌, length, replicate, is_ok, ap, sym, ◌∙◌, arith}
use Rattle.acd_desk.proofs.Desks.ClockTicks.{clock_written, clock_read, same_read}
use Rattle.acd_desk.proofs.clock.clock_requester.Goals as goal

pub unwrap-requires : goal.unwrap-requires
unwrap-requires c =
    ap is_ok (clock_read c.args.moment _ c.read.result c.ranges.moment.fits c.read.ensures
    (clock_written c.args.moment (replicate 32 0) c.copy_from_slice.new.self c.copy_from_slice-2.new.self (6 + length c.as_bytes-digits.result.now - 6) _ c.copy_from_slice.ensures.after
    (c.copy_from_slice-2.ensures.after ∙ c.as_bytes-digits.ensures.value ∙ c.format.ensures.text) (omega (arith, ap length c.copy_from_slice-2.ensures.after))))

pub returns : goal.returns
returns c =
    same_read (sym c.unwrap.ensures ∙ clock_read c.args.moment _ c.read.result c.ranges.moment.fits c.read.ensures
    (clock_written c.args.moment (replicate 32 0) c.copy_from_slice.new.self c.copy_from_slice-2.new.self (6 + length c.as_bytes-digits.result.now - 6) _ c.copy_from_slice.ensures.after
    (c.copy_from_slice-2.ensures.after ∙ c.as_bytes-digits.ensures.value ∙ c.format.ensures.text) (omega (arith, ap length c.copy_from_slice-2.ensures.after))))
