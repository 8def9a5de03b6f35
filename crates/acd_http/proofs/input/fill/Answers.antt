use Rattle.std.proofs.Common.{ℕ, List, ◌++◌, take, ap, sym, ◌∙◌, arith, append-nil}
use Rattle.std.proofs.lemmas.Bool.{true≢false}
use Rattle.acd_http.proofs.Readings.{short}
use Rattle.acd_http.proofs.input.fill.Goals as goal
use Rattle.acd_io.proofs.Inputs.{no_bytes, kept_then}

pub returns-in-Ok-eq0-clause-read : goal.returns-in-Ok-eq0-clause-read
returns-in-Ok-eq0-clause-read g c =
    let none = no_bytes c.in-Ok-eq0.field-0 c.read.new.buf c.in-Ok-eq0.field-0-test in (
      take c.in-Ok-eq0.field-0 c.read.new.buf,
      kept_then _ _ _ _ c.loop-calls.invariant.kept c.in-Ok-eq0.ensures.bytes.0,
      c.loop-calls.invariant.same ∙ sym (append-nil c.args.input.now) ∙ ap (λ (l : List ℕ). c.args.input.now ++ l) (sym none),
      λ _. (c.in-Ok-eq0.ensures.bytes.1 c.in-Ok-eq0.field-0-test (let same = c.read.auto.buf in omega arith), none),
    )

pub extend-requires : goal.extend-requires
extend-requires g c = short c.loop-calls.input c.args.input.now c.read.new.buf c.in-Ok.n c.loop-calls.invariant.same c.requires (let same = c.read.auto.buf in omega arith)

pub returns-in-Ok-clause-read : goal.returns-in-Ok-clause-read
returns-in-Ok-clause-read g c = (
  take c.in-Ok.n c.read.new.buf,
  kept_then _ _ _ _ c.loop-calls.invariant.kept c.in-Ok.ensures.bytes.0,
  c.extend.ensures ∙ ap (λ (l : List ℕ). l ++ take c.in-Ok.n c.read.new.buf) c.loop-calls.invariant.same,
  λ e. absurd (true≢false e),
)
