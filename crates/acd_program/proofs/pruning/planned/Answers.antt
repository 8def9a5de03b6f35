use Rattle.acd_files.proofs.Ends.{match_is_err, match_is_ok, match_so}
use Rattle.acd_program.proofs.Archives.Prunes.{asked_decided, only_decided}
use Rattle.acd_program.proofs.pruning.planned.Goals as goal

pub returns-in-Ok : goal.returns-in-Ok
returns-in-Ok g c =
    let a : _ = g.A.Book.state c.args.archive.now in
    let m : _ = g.A.Book.state c.audited_beside-asked.new.archive in
    let n : _ = g.A.Book.state c.decide-decided.new.archive in
    let old : _ = g.B.Book.state c.args.book in
    let mid : _ = g.B.Book.state c.audited_beside-asked.result.1 in
    let new : _ = g.B.Book.state c.decide-decided.new.book in
    let one = match_is_ok c.audited_beside-asked.result.0 c.in-Ok.found _ _ c.in-Ok.is c.audited_beside-asked.ensures in
    match_so c.decide-decided.result _ _ _ _ (λ p h. asked_decided c.args.ending c.in-Ok.found p a m n old mid new one h)
    (λ e h. only_decided a m n old mid new c.in-Ok.found one h) c.decide-decided.ensures

pub returns-in-Err : goal.returns-in-Err
returns-in-Err g c = match_is_err c.audited_beside-asked.result.0 c.in-Err.fault _ _ c.in-Err.is c.audited_beside-asked.ensures
