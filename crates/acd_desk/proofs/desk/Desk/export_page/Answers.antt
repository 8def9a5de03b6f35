use Rattle.std.proofs.Common.{Some, None, ap, sym, ◌∙◌, string_bytes, arith}
use Rattle.acd_reports.specs.Export.{records_text}
use Rattle.acd_desk.specs.Desks.DeskState.{state_of}
use Rattle.acd_desk.proofs.Pages.ReadsDone.{read_so}
use Rattle.acd_desk.proofs.Pages.PageLemmas.{export_ends, export_goes_on}
use Rattle.acd_desk.proofs.desk.Desk.export_page.Goals as goal

pub returns-in-None : goal.returns-in-None
returns-in-None g c =
    read_so (state_of g.B.Book c.args.self.now) (state_of g.B.Book c.first_events.new.self) c.in_ok-events.events None _ _
    (λ content is rise. export_ends (string_bytes c.args.export.now) content.events c.in_ok-events.events.items c.deref.result.now c.args.after 1000 (omega arith) c.deref.ensures.value (sym c.in-None.ensures.value) is)
    c.in_ok-events.ensures

pub returns : goal.returns
returns g c =
    read_so (state_of g.B.Book c.args.self.now) (state_of g.B.Book c.first_events.new.self) c.in_ok-events.events (Some c.in-Some.last.now.number) _ _
    (λ content is rise. export_goes_on (string_bytes c.args.export.now) c.deref-3.result.now (string_bytes c.push_str.new.self) content.events c.in_ok-events.events.items c.deref.result.now c.args.after 1000 c.in-Some.last.now
    c.deref.ensures.value (sym c.in-Some.ensures.value) is
    (c.deref-3.ensures ∙ c.in_ok-events_page.ensures ∙ ap records_text (c.deref-2.ensures.value ∙ sym c.deref.ensures.value))
    c.in_ok-push_str.ensures.bytes rise)
    c.in_ok-events.ensures
