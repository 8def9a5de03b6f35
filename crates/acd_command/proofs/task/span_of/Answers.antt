use Rattle.std.proofs.Common.{rules, ℕ, Option, sym, subst}
use Rattle.clap.specs.Matches.{found_of}
use Rattle.clap.specs.Words.{rows_of}
use Rattle.acd_http.specs.declared.serving.Span.{Span}
use Rattle.acd_command.specs.CommandLine.{IsConnections, IsSpan}
use Rattle.acd_files.proofs.Ends.{match_none}
use Rattle.acd_command.proofs.task.span_of.Goals as goal

pub returns-in_err-connections : goal.returns-in_err-connections
returns-in_err-connections c =
    match_none c.from_residual.result _ _ (search rules) (λ (span : Span) (h : IsSpan (rows_of (found_of c.args.options.now)) span). c.in_err-connections.ensures span.connections h.0)

pub returns-in_err-step : goal.returns-in_err-step
returns-in_err-step c =
    match_none c.from_residual-in_err-step.result _ _ (search rules) (λ (span : Span) (h : IsSpan (rows_of (found_of c.args.options.now)) span). c.in_err-step.ensures span.step h.1)

pub returns-in_err-patience : goal.returns-in_err-patience
returns-in_err-patience c =
    match_none c.from_residual-in_err-patience.result _ _ (search rules) (λ (span : Span) (h : IsSpan (rows_of (found_of c.args.options.now)) span). c.in_err-patience.ensures span.patience h.2)

pub returns : goal.returns
returns c = (
  subst (λ (many : Option ℕ). IsConnections (rows_of (found_of c.args.options.now)) many) (sym c.widened.ensures) c.in_ok-connections.ensures,
  c.in_ok-step.ensures,
  c.in_ok-patience.ensures,
)
