use Rattle.std.proofs.Common.{◌∙◌}
use Rattle.acd_desk.proofs.Pages.OrderLemmas.{read_queue, waiting_lent, ready_lent}
use Rattle.acd_desk.proofs.table_reads.queue_read.Goals as goal

pub returns : goal.returns
returns c =
    read_queue c.args.tables.now c.args.group c.deref.result.now c.deref-2.result.now _ c.in-Some.ensures.planned c.in_ok-queue_text.ensures
    (c.deref.ensures.value ∙ c.in_ok-waiting.ensures.waiting ∙ waiting_lent c.args.tables.now c.requires c.args.group c.in-Some.queue.now c.waiting_in.ensures.sorted c.in-Some.ensures.members)
    (c.deref-2.ensures.value ∙ c.in_ok-agents.ensures.agents ∙ ready_lent c.args.tables.now c.requires c.args.group c.in-Some-ready_of.ready.now c.agents_in.ensures.sorted c.in-Some-ready_of.ensures.members)
