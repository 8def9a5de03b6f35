use Rattle.std.proofs.Common.{ℕ, List, sym, ap, subst, ◌∙◌}
use Rattle.acd_io.specs.SentBytes.{WasSent}
use Rattle.acd_http.specs.ConnectionsInTurn.{Outcome, outcome_line}
use Rattle.acd_http.proofs.outcome_lines.print_outcome.Goals as goal

pub returns-in-Err : goal.returns-in-Err
returns-in-Err g c =
    subst (λ (text : List ℕ). WasSent c.send.result (g.E.Write.contents c.args.errors.now) (g.E.Write.contents c.send.new.writer) text)
    (c.as_slice.ensures ∙ c.fault_line-line.ensures ∙ ap (λ (x : Outcome). outcome_line c.args.number x) (sym c.in-Err.is)) c.send.ensures
