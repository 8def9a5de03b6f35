use Rattle.std.proofs.Common.{ap, not, ◌&&◌, subst, sym, ◌∙◌}
use Rattle.std.specs.Ordering.{nat_cmp}
use Rattle.acd_model.specs.Scans.{agent_of}
use Rattle.acd_tables.specs.IndexedRows.{works, Working}
use Rattle.acd_tables.proofs.IndexingLemmas.{HasExactly-same, Working-put, Working-back}
use Rattle.acd_tables.proofs.indexing.put_working.Goals as goal

pub returns-in_err-insert_if-clause-index : goal.returns-in_err-insert_if-clause-index
returns-in_err-insert_if-clause-index c =
    HasExactly-same nat_cmp (λ n. works (agent_of c.args.records.now n)) c.args.working.now c.insert_if.new.index c.args.item.now.agent c.requires.index
    c.in_err-insert_if.ensures.err

pub returns-in-Ok-clause-index : goal.returns-in-Ok-clause-index
returns-in-Ok-clause-index c =
    let was = c.works-was.ensures ∙ ap works c.requires.found in
    let is = c.is_working_after_call-is.result in
    subst (λ s. Working s c.remove_if.new.index) (sym c.in-Ok.ensures.ok)
    (Working-put c.args.records.now c.args.item.now c.args.working.now c.insert_if.new.index c.remove_if.new.index is c.ends.result
    c.is_working_after_call-is.ensures (c.ends.ensures ∙ ap (λ b. b && not is) was)
    c.requires.index c.in_ok-insert_if.ensures.ok c.remove_if.ensures)

pub returns-in-Err-clause-index : goal.returns-in-Err-clause-index
returns-in-Err-clause-index c =
    let was = c.works-was.ensures ∙ ap works c.requires.found in
    let is = c.is_working_after_call-is.result in
    subst (λ s. Working s c.remove_if-in-Err.new.index) (sym c.in-Err.ensures.err)
    (Working-back c.args.records.now c.args.item.now c.args.working.now c.insert_if.new.index c.remove_if-in-Err.new.index is c.ends-in-Err.result
    (c.ends-in-Err.ensures ∙ ap (λ b. is && not b) was)
    c.requires.index c.in_ok-insert_if.ensures.ok c.remove_if-in-Err.ensures)
