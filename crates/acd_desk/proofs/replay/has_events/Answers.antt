use Rattle.std.proofs.Common.{rules, ◌≡◌, Bool, length}
use Rattle.std.specs.Bool.{Decides}
use Rattle.acd_book.specs.Content.{Content, events_after}
use Rattle.acd_desk.specs.Reads.Pages.{IsPageOf}
use Rattle.acd_desk.proofs.Replays.RecordComparisons.{events_decided}
use Rattle.acd_book.proofs.ReadsAhead.{read_ok, read_nothing}
use Rattle.acd_desk.proofs.replay.has_events.Goals as goal

pub returns-in_err-found : goal.returns-in_err-found
returns-in_err-found g c =
    read_nothing (λ (k : Content) (found : Bool). IsPageOf k c.args.page.now → IsPageOf k c.events_after.new.self × Decides found (events_after k.events c.args.last (length c.args.events.now) ≡ c.args.events.now))
    (g.B.Book.state c.args.book.now) (g.B.Book.state c.events_after.new.book) c.in_err-found.field-0.0 c.from_residual.result c.in_err-found.ensures (search rules)

pub returns : goal.returns
returns g c =
    read_ok (λ (k : Content) (found : Bool). IsPageOf k c.args.page.now → IsPageOf k c.events_after.new.self × Decides found (events_after k.events c.args.last (length c.args.events.now) ≡ c.args.events.now))
    (g.B.Book.state c.args.book.now) (g.B.Book.state c.events_after.new.book) c.in_ok-found.found c.are_same_events.result c.in_ok-found.ensures
    (λ k has page.
    let both = has page in
    (both.1, events_decided k c.args.last _ c.in_ok-found.found.items c.deref.result.now c.args.events.now c.are_same_events.result both.0 c.deref.ensures.value c.are_same_events.ensures (search rules)))
