use Rattle.std.proofs.Common.{◌≡◌, ℕ, length, ◌∙◌}
use Rattle.acd_book.specs.Content.{Content}
use Rattle.acd_desk.specs.Contents.SoundContent.{IsSound}
use Rattle.acd_desk.specs.Desks.DeskState.{state_of}
use Rattle.acd_desk.proofs.Pages.ReadsDone.{read_follows}
use Rattle.acd_desk.proofs.Contents.ContentLaws.{sound_count}
use Rattle.acd_desk.proofs.desk.Desk.executed.Goals as goal

pub returns-clause-kept : goal.returns-clause-kept
returns-clause-kept g c =
    read_follows (state_of g.B.Book c.args.self.now) (state_of g.B.Book c.last_stamp.new.self) c.last_stamp.result
    (λ (held : Content) (last : ℕ). last ≡ held.rows.last_stamp) (λ (held : Content) (count : ℕ). IsSound held → count ≡ length held.kept)
    (λ held last is sound. is ∙ sound_count held sound)
    c.last_stamp.ensures
