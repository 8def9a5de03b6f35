use Rattle.std.proofs.Common.{Some, Err, ◌++◌, ap, sym, ◌∙◌, string_bytes, append-nil}
use Rattle.acd_desk.specs.Desks.DeskState.{state_of}
use Rattle.acd_desk.specs.Reads.ReadAnswers.{records_left}
use Rattle.acd_desk.proofs.Pages.ReadsDone.{read_so, read_twice, read_nothing}
use Rattle.acd_desk.proofs.Pages.PageLemmas.{export_begins, export_step}
use Rattle.acd_desk.proofs.desk.Desk.export.Goals as goal

pub loop-init : goal.loop-init
loop-init g c =
    read_so (state_of g.B.Book c.args.self.now) (state_of g.B.Book c.still_works.new.self) _ tt _ _
    (λ content done rise. export_begins (string_bytes c.in_ok-export.export) content.events (c.in_ok-export.ensures.ok ∙ c.export_header.ensures) rise)
    c.in_ok-still_works.ensures

pub returns-in-Err : goal.returns-in-Err
returns-in-Err g c =
    read_twice (state_of g.B.Book c.args.self.now) (state_of g.B.Book c.loop.self) (state_of g.B.Book c.export_page.new.self) tt (Err c.in-Err.fault) _ _ _
    c.loop.invariant (read_nothing (state_of g.B.Book c.loop.self) (state_of g.B.Book c.export_page.new.self) c.in-Err.fault _ _ c.in-Err.ensures)
    (λ content before text after. after)

pub returns-in-None : goal.returns-in-None
returns-in-None g c =
    read_so (state_of g.B.Book c.args.self.now) (state_of g.B.Book c.export_page.new.self) c.in-Ok.next (Some c.export_page.new.export) _ _
    (λ content is rise. ap Some (sym (append-nil (string_bytes c.export_page.new.export))
    ∙ ap (λ next. string_bytes c.export_page.new.export ++ records_left content.events next) (sym c.in-None.is) ∙ is rise))
    (export_step (state_of g.B.Book c.args.self.now) (state_of g.B.Book c.loop.self) (state_of g.B.Book c.export_page.new.self) c.in-Ok.next
    (string_bytes c.loop.export) (string_bytes c.export_page.new.export) c.loop.after c.loop.invariant c.in-Ok.ensures)
