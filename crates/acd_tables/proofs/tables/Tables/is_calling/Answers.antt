use Rattle.std.proofs.Common.{Bool, ◌∙◌, ap}
use Rattle.std.specs.Prelude.{◌==◌}
use Rattle.std.specs.List.{list_any}
use Rattle.acd_terms.specs.declared.record.CallRecord.{CallRecord}
use Rattle.acd_terms.specs.declared.rows.Rows.{Rows}
use Rattle.acd_tables.proofs.KeyLemmas.{any-members}
use Rattle.acd_tables.proofs.tables.Tables.is_calling.Goals as goal

pub loop-c-init : goal.loop-c-init
loop-c-init c =
    let has : CallRecord → Bool = λ x. x.caller == c.args.device in
    let members = c.calls-c-items.ensures in
    ap (list_any has) c.into_iter-c-iterator.ensures.into_iter_gives
    ∙ any-members has c.calls-c-items.result c.self.inside.records.calls (λ x. (members x).1) (λ x. (members x).0)
    ∙ ap (λ (s : Rows). list_any has s.calls) c.self.view_is
