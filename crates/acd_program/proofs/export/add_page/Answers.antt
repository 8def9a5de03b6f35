use Rattle.std.proofs.Common.{Some, None, refl, ap, sym, ◌∙◌, rules, string_bytes, arith}
use Rattle.acd_reports.specs.Export.{records_text}
use Rattle.acd_desk.proofs.Pages.PageLemmas.{export_ends, export_goes_on}
use Rattle.acd_book.proofs.ReadsAhead.{by_read, read_ok}
use Rattle.acd_program.proofs.Archives.Exports.{ends_read, no_memory_after}
use Rattle.acd_program.proofs.export.add_page.Goals as goal

pub returns-in_err-events : goal.returns-in_err-events
returns-in_err-events g c = ends_read _ (g.B.Book.state c.args.book.now) (g.B.Book.state c.events_after.new.self) c.in_err-events.field-0.0 c.from_residual.result c.in_err-events.ensures (search rules)

pub returns-in_default : goal.returns-in_default
returns-in_default g c = no_memory_after _ (g.B.Book.state c.args.book.now) (g.B.Book.state c.events_after.new.self) c.in_ok-events.events _ c.in_ok-events.ensures refl

pub returns : goal.returns
returns g c = no_memory_after _ (g.B.Book.state c.args.book.now) (g.B.Book.state c.events_after.new.self) c.in_ok-events.events _ c.in_ok-events.ensures refl

pub returns-in-None : goal.returns-in-None
returns-in-None g c =
    read_ok _ (g.B.Book.state c.args.book.now) (g.B.Book.state c.events_after.new.self) c.in_ok-events.events None (by_read _ _ _ _ c.in_ok-events.ensures (λ content x is. is))
    (λ content is rise. export_ends (string_bytes c.args.text.now) content.events c.in_ok-events.events.items c.deref.result.now c.args.after 1000 (omega arith) c.deref.ensures.value (sym c.in-None.ensures.value) is)

pub returns-in-Ok-push_str : goal.returns-in-Ok-push_str
returns-in-Ok-push_str g c =
    read_ok _ (g.B.Book.state c.args.book.now) (g.B.Book.state c.events_after.new.self) c.in_ok-events.events (Some c.in-Some.last.now.number) (by_read _ _ _ _ c.in_ok-events.ensures (λ content x is. is))
    (λ content is rise. export_goes_on (string_bytes c.args.text.now) c.deref-3.result.now (string_bytes c.push_str.new.self) content.events c.in_ok-events.events.items c.deref.result.now c.args.after 1000 c.in-Some.last.now
    c.deref.ensures.value (sym c.in-Some.ensures.value) is
    (c.deref-3.ensures ∙ c.in-Ok.ensures ∙ ap records_text (c.deref-2.ensures.value ∙ sym c.deref.ensures.value))
    c.in-Ok-push_str.ensures.bytes rise)
