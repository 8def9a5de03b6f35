use Rattle.std.proofs.Common.{ℕ, ◌≤◌, List, length, take, sym, ap, ◌∙◌, subst, arith}
use Rattle.std.specs.Io.KnownBytes.{Consumes}
use Rattle.std.proofs.KnownBytes.{Consumes-trans}
use Rattle.acd_http.specs.Head.{head_len}
use Rattle.acd_io.proofs.Sends.{stopped}
use Rattle.acd_http.proofs.Readings.{found_whole, head_bounds, stops_in_head}
use Rattle.acd_http.proofs.receive.read_head.Goals as goal

pub returns-in-Some : goal.returns-in-Some
returns-in-Some g c =
    let e = ap (λ (l : List ℕ). head_len (take 8192 l)) (sym c.as_slice-in-loop-input.ensures) ∙ sym c.in-Some.ensures in
    let bounds = head_bounds c.in-Some.n c.loop-input.input e in record { read = c.loop-input.invariant; head = (e, bounds.0, bounds.1) }

pub returns-in_err-fill : goal.returns-in_err-fill
returns-in_err-fill g c =
    stopped c.from_residual.result _ _ _ c.from_residual.ensures.1 (stops_in_head (g.R.Read.remaining c.args.reader.now) (g.R.Read.remaining c.loop-input.reader) (g.R.Read.remaining c.fill.new.reader) c.loop-input.input c.fill.new.input c.loop-input.invariant
    (ap (λ (l : List ℕ). head_len (take 8192 l)) (sym c.as_slice-in-loop-input.ensures) ∙ sym c.in-None.ensures) (omega (arith, c.loop-input-test.true, ap length c.as_slice.ensures)) c.in_err-fill.ensures.read)

pub loop-input-preserved : goal.loop-input-preserved
loop-input-preserved g c =
    let more = c.in_ok-fill.ensures.read in
    subst (Consumes (g.R.Read.remaining c.args.reader.now) (g.R.Read.remaining c.fill.new.reader)) (sym more.2) (Consumes-trans _ _ _ c.loop-input.input more.0 c.loop-input.invariant more.1)

pub returns : goal.returns
returns g c =
    let full : 8192 ≤ length c.loop-input.input = omega (arith, c.loop-input-test.false, ap length c.as_slice.ensures) in
    found_whole c.front_len-2.result c.loop-input.input (g.R.Read.remaining c.args.reader.now) (g.R.Read.remaining c.loop-input.reader) c.loop-input.invariant
    (c.front_len-2.ensures ∙ ap (λ (l : List ℕ). head_len (take 8192 l)) c.as_slice-2.ensures) full
