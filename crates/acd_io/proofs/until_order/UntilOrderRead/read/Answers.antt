use Rattle.std.proofs.Common.{◌≡◌, ◌≤◌, ◌<◌, inl, inr, ℕ, List, length, take, drop, ap, subst, ◌∙◌, arith, length-append, length-drop}
use Rattle.acd_io.specs.Order.{PassesOrder}
use Rattle.acd_io.proofs.PassedBytes.{read_given, read_nothing}
use Rattle.acd_io.proofs.until_order.UntilOrderRead.read.Goals as goal

pub returns-clause-bytes : goal.returns-clause-bytes
returns-clause-bytes g c =
    let pending : List ℕ = c.decide.new.self.pending in
    let bytes : List ℕ = c.copy_from_slice.new.self in
    let rest : List ℕ = drop c.passed-count.result.0 c.args.buf.now in
    let same : c.as_slice-bytes.result.now ≡ pending = c.as_slice-bytes.ensures in
    let few : c.passed-count.result.0 ≤ length pending = omega (arith, ap length same, c.min-most.ensures, c.passed-count.ensures.within) in
    let passes : PassesOrder c.decide.new.self.ended c.decide.new.self.starts pending (c.passed-count.result.0, c.passed-count.result.1)
    = subst (λ (l : List ℕ). PassesOrder c.decide.new.self.ended c.decide.new.self.starts l (c.passed-count.result.0, c.passed-count.result.1)) same c.passed-count.ensures.passes in (
      read_given (_) c.decide.new.self.ended c.decide.new.self.starts c.passed-count.result.1 pending c.remove_front.new.self bytes rest c.passed-count.result.0 (g.R.Read.remaining c.decide.new.self.inner)
          c.decide.ensures.kept passes few (c.copy_from_slice.ensures.after ∙ ap (take c.passed-count.result.0) same) c.remove_front.ensures,
      λ none some.
          let room : 0 < length c.args.buf.now = omega (arith, some, length-append bytes rest, length-drop c.passed-count.result.0 c.args.buf.now, c.copy_from_slice.ensures.len) in
          let nothing : length pending ≡ 0 = elim c.else-most-gt0.either [
            | inl more ↦ absurd (more.1 none)
            | inr less ↦ omega (arith, less, room, ap length same, c.min-most.ensures)
          ] in
          read_nothing c.decide.new.self.ended c.passed-count.result.1 pending c.remove_front.new.self c.passed-count.result.0 (g.R.Read.remaining c.decide.new.self.inner) nothing c.in_ok-decide.ensures.some c.remove_front.ensures,
    )
