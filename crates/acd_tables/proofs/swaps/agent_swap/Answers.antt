use Rattle.std.proofs.Common.{refl, ap, ◌∙◌}
use Rattle.std.specs.Prelude.{None}
use Rattle.acd_tables.specs.Swaps.{ready_entry}
use Rattle.acd_tables.proofs.SwapLemmas.{agent-swap}
use Rattle.acd_tables.proofs.swaps.agent_swap.Goals as goal

pub returns : goal.returns
returns c =
    agent-swap c.args.records.now c.args.item.now
    (record {
      entering = record { queue = None; ready = c.only-after.result };
      leaving = record { queue = None; ready = c.leaving_but-leaving.result };
    })
    c.ready_entry-before.result c.able_entry-entry.result c.may_be_offered-free.result refl refl
    (c.ready_entry-before.ensures ∙ ap ready_entry c.requires.found) c.able_entry-entry.ensures c.may_be_offered-free.ensures c.only-after.ensures
    c.leaving_but-leaving.ensures
