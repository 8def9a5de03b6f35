use Rattle.std.proofs.Common.{rules, tests, ◌∙◌, sym, ◌==◌, ◌&&◌}
use Rattle.std.proofs.lemmas.Iterator.Adapters.{option_map_id}
use Rattle.std.proofs.lemmas.Iterator.{YieldsList-from_slice}
use Rattle.std.proofs.lemmas.Iterator.Consumers.{min_from_yields_List, YieldsList-at, YieldsList-from_filter, YieldsList-from_filter_map}
use Rattle.acd_terms.specs.States.{is_queued}
use Rattle.acd_terms.specs.declared.record.ConnectionRecord.{ConnectionRecord}
use Rattle.acd_model.specs.Scans.{waiting_in}
use Rattle.acd_reports.specs.QueueReport.{first_queued}
use Rattle.acd_reports.proofs.queues.first_queued.Goals as goal

pub returns : goal.returns
unfolding first_queued waiting_in
returns c = sym (option_map_id _) ∙ min_from_yields_List c.filter_map.result _ c.min.ensures.ran
    (YieldsList-from_filter_map _ (λ (x : ConnectionRecord). x.queued)
    (YieldsList-at c.filter_map.ensures.source
    (YieldsList-from_filter _ (λ (x : ConnectionRecord). x.device == c.args.group && is_queued x.state)
    (YieldsList-from_slice c.args.rows.now.connections cc) c.filter.ensures.closure (λ x b q k. search (rules, tests))))
    c.filter_map.ensures.closure (λ x r q k. search (rules, tests)))
