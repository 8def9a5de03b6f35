use Rattle.std.proofs.Common.{ap, is_some, refl, subst, sym, Some, ◌∙◌}
use Rattle.acd_model.specs.Scans.{connection_of}
use Rattle.acd_model.specs.Writes.{with_connection}
use Rattle.acd_tables.specs.IndexedRows.{pair_cmp, Lines}
use Rattle.acd_tables.proofs.SwapLemmas.{Replaces-put}
use Rattle.acd_tables.proofs.KeyLemmas.{flipped}
use Rattle.acd_tables.proofs.IndexingLemmas.{HasExactly-same, Lines-put, Lines-gone}
use Rattle.acd_tables.proofs.indexing.put_listed.Goals as goal

pub returns-in_err-list-clause-listed : goal.returns-in_err-list-clause-listed
returns-in_err-list-clause-listed c =
    HasExactly-same pair_cmp (λ p. is_some (connection_of c.args.records.now p.1 p.0)) c.args.lines.now c.list.new.lines
    (c.args.item.now.device, c.args.item.now.call) c.requires.listed c.in_err-list.ensures.err

pub returns-in-Ok-clause-listed : goal.returns-in-Ok-clause-listed
returns-in-Ok-clause-listed c =
    let s = c.args.records.now in
    let item = c.args.item.now in
    let new = flipped (is_some (connection_of s item.call item.device)) c.is_none-new.result (sym (ap is_some c.requires.found) ∙ c.is_none-new.ensures) in
    subst (λ t. Lines t c.list.new.lines) (sym c.in-Ok.ensures.ok)
    (Lines-put s (with_connection s item) item.call item.device (Some item) (Replaces-put s item c.requires.ascending) c.args.lines.now c.list.new.lines
    c.is_none-new.result refl new c.requires.listed c.in_ok-list.ensures.ok)

pub returns-in-Err-clause-listed : goal.returns-in-Err-clause-listed
returns-in-Err-clause-listed c =
    let s = c.args.records.now in
    let item = c.args.item.now in
    let new = flipped (is_some (connection_of s item.call item.device)) c.is_none-new.result (sym (ap is_some c.requires.found) ∙ c.is_none-new.ensures) in
    subst (λ t. Lines t c.unlist.new.lines) (sym c.in-Err.ensures.err)
    (Lines-gone s item.call item.device c.args.lines.now c.list.new.lines c.unlist.new.lines c.is_none-new.result new c.requires.listed c.in_ok-list.ensures.ok
    c.unlist.ensures)
