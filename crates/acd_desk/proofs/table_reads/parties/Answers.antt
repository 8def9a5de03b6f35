use Rattle.std.proofs.Common.{[], ◌++◌, ap, ◌∙◌, get_or}
use Rattle.std.specs.List.{cons_option}
use Rattle.acd_model.specs.Scans.{connections_of}
use Rattle.acd_desk.proofs.Pages.OrderLemmas.{both_parties, two_parties}
use Rattle.acd_desk.proofs.table_reads.parties.Goals as goal

pub returns : goal.returns
returns c =
    c.in_ok-push_if-2.ensures
    ∙ ap (λ l. l ++ cons_option (get_or c.connections_of.result 1 c.index-connections_of-1.result) [])
    (c.in_ok-push_if.ensures ∙ ap (λ l. l ++ cons_option (get_or c.connections_of.result 0 c.index-connections_of-0.result) []) c.in_ok-parties.ensures.items)
    ∙ both_parties (connections_of c.args.tables.now c.args.call) _ _ (two_parties c.args.tables.now c.requires c.args.call)
    (ap (λ l. get_or l 0 c.index-connections_of-0.result) c.connections_of.ensures)
    (ap (λ l. get_or l 1 c.index-connections_of-1.result) c.connections_of.ensures)
