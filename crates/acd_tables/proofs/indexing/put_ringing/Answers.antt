use Rattle.std.proofs.Common.{ap, not, ◌&&◌, subst, sym, Some, ◌∙◌}
use Rattle.acd_model.specs.Scans.{connection_of}
use Rattle.acd_model.specs.Writes.{with_connection}
use Rattle.acd_tables.specs.IndexedRows.{pair_cmp, rings, Ringing}
use Rattle.acd_tables.proofs.SwapLemmas.{Replaces-put}
use Rattle.acd_tables.proofs.IndexingLemmas.{HasExactly-same, Ringing-put, Ringing-back}
use Rattle.acd_tables.proofs.indexing.put_ringing.Goals as goal

pub returns-in_err-insert_if-clause-index : goal.returns-in_err-insert_if-clause-index
returns-in_err-insert_if-clause-index c =
    HasExactly-same pair_cmp (λ p. rings (connection_of c.args.records.now p.0 p.1)) c.args.ringing.now c.insert_if.new.index
    (c.args.item.now.call, c.args.item.now.device) c.requires.index c.in_err-insert_if.ensures.err

pub returns-in-Ok-clause-index : goal.returns-in-Ok-clause-index
returns-in-Ok-clause-index c =
    let s = c.args.records.now in
    let item = c.args.item.now in
    let was = c.rings-was.ensures ∙ ap rings c.requires.found in
    let is = c.is_ringing-is.result in
    subst (λ t. Ringing t c.remove_if.new.index) (sym c.in-Ok.ensures.ok)
    (Ringing-put s (with_connection s item) item.call item.device (Some item) (Replaces-put s item c.requires.ascending) c.args.ringing.now
    c.insert_if.new.index c.remove_if.new.index is c.ends.result c.is_ringing-is.ensures
    (c.ends.ensures ∙ ap (λ b. b && not is) was) c.requires.index c.in_ok-insert_if.ensures.ok c.remove_if.ensures)

pub returns-in-Err-clause-index : goal.returns-in-Err-clause-index
returns-in-Err-clause-index c =
    let s = c.args.records.now in
    let item = c.args.item.now in
    let was = c.rings-was.ensures ∙ ap rings c.requires.found in
    let is = c.is_ringing-is.result in
    subst (λ t. Ringing t c.remove_if-in-Err.new.index) (sym c.in-Err.ensures.err)
    (Ringing-back s item.call item.device c.args.ringing.now c.insert_if.new.index c.remove_if-in-Err.new.index is c.ends-in-Err.result
    (c.ends-in-Err.ensures ∙ ap (λ b. is && not b) was) c.requires.index c.in_ok-insert_if.ensures.ok c.remove_if-in-Err.ensures)
