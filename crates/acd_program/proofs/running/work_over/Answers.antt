use Rattle.std.proofs.Common.{rules, inl, inr}
use Rattle.acd_files.specs.Connections.{IsLaidIn}
use Rattle.acd_files.proofs.Ends.{match_err, match_is_err, match_is_ok, match_so, on_ok}
use Rattle.acd_program.proofs.running.work_over.Goals as goal

pub returns-in_err-left : goal.returns-in_err-left
returns-in_err-left g c =
    match_err c.from_residual.result c.in_err-left.field-0.0 _ _ (search rules) (record {
      last = c.over_database-done.result.1;
      shut = c.close_connection-closed.ensures.shut;
      kept = c.over_database-done.ensures.kept;
      left = inl (match_is_err c.over_database-done.result.0 c.in_err-left.field-0.0 _ _ c.in_err-left.was c.over_database-done.ensures.result);
    })

pub returns : goal.returns
returns g c =
    let between : _ = g.W.Write.contents c.over_database-done.new.writer in
    let last : _ = c.over_database-done.result.1 in
    let done = match_is_ok c.over_database-done.result.0 c.in_ok-left.left _ _ c.in_ok-left.was c.over_database-done.ensures.result in
    match_so c.print_done.result _ _ _ _
    (λ status printed. record {
      last = last;
      left = c.in_ok-left.left;
      between = between;
      done = done;
      closed = on_ok c.close_connection-closed.result tt (IsLaidIn last) printed.shut c.close_connection-closed.ensures.laid;
      printed = printed.printed;
      outcome = printed.outcome;
    })
    (λ fault begins. record { last = last; shut = c.close_connection-closed.ensures.shut; kept = c.over_database-done.ensures.kept; left = inr (record { left = c.in_ok-left.left; between = between; done = done; printed = begins }) })
    c.print_done.ensures
