use Rattle.std.proofs.Common.{length, filter, List, ap, ◌∙◌}
use Rattle.acd_terms.specs.declared.record.ConnectionRecord.{ConnectionRecord}
use Rattle.acd_model.specs.Rules.Occupied.{rings_from}
use Rattle.acd_desk.proofs.Pages.OrderLemmas.{waiting_keys, waiting_lent}
use Rattle.acd_desk.proofs.Pages.GroupLines.{first_is, ringing_is, same_state, waiting_is}
use Rattle.acd_desk.proofs.group_states.group_state.Goals as goal

pub returns : goal.returns
returns c =
    let s = c.args.tables.now in
    let d = c.args.group.now.device in
    let rules = c.requires.rules in
    let queue = c.in-Some.queue.now in
    let sorted = c.first_in-first_queued.ensures.sorted in
    let members = c.in-Some.ensures.members in
    same_state c.args.group.now _ _ _ _ _ _
    (c.len.ensures.len ∙ waiting_is s rules d queue.keys (waiting_keys s rules d queue sorted members))
    (c.ringing_of.ensures ∙ ap (λ (l : List ConnectionRecord). length (filter (rings_from d) l)) c.requires.ringing ∙ ringing_is s rules d)
    (c.first_in-first_queued.ensures.first ∙ first_is s rules d queue.keys (waiting_lent s rules d queue sorted members))
