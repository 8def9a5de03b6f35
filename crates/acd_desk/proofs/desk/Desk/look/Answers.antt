use Rattle.std.proofs.Common.{◌≡◌, ◌∙◌, refl, sym}
use Rattle.acd_book.specs.Content.{Content}
use Rattle.acd_desk.specs.Desks.DeskState.{state_of, holding}
use Rattle.acd_desk.proofs.Pages.ReadsDone.{read_rows, read_so}
use Rattle.acd_desk.proofs.desk.Desk.look.Goals as goal

pub returns : goal.returns
returns g c =
    let rows = c.in_ok-loaded.loaded.switch.value in
    let old = state_of g.B.Book c.args.self.now in
    let new = holding (state_of g.B.Book c.switch_out.new.self) rows in
    read_so old new tt c.reading-found.result (λ (k : Content) u. k.rows ≡ rows) _
    (λ k p. (c.tables.result, c.reading-found.ensures, c.tables.ensures ∙ c.deref.ensures ∙ sym p))
    (read_rows old new rows c.in_ok-loaded.ensures.loaded refl refl)
