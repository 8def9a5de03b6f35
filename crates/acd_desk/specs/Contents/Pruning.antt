-- A content whose oldest records are taken away, since its archive has them.
use Rattle.std.specs.Prelude.{◌≡◌, ℕ, ◌≤◌}
use Rattle.acd_book.specs.Content.{Content}
use Rattle.acd_desk.specs.Contents.CarriedContent.{Archive, together, joined}
use Rattle.acd_desk.specs.Contents.WithArchive.{IsCut, IsLedFrom}
use Rattle.acd_desk.specs.Audits.AuditWith.{first_sent_again}
use Rattle.acd_desk.specs.Audits.Overlap.{IsCleanCut}

-- a place up to which records and events may go: it isn't above the archive's last ones, and there the archive's moment changes
pub record IsPlace (a : Content) (stamp number : ℕ) : Type 0 where
  pub records : stamp ≤ a.rows.last_stamp
  pub events : number ≤ a.rows.last_event
  pub clean : IsCleanCut a stamp number

-- a part is gone from the front of a content: the archive has it in one piece, and each event up to there is before each of the archive's records that stay
pub record IsGone (a old new : Content) (gone : Archive) : Type 0 where
  pub whole : old ≡ together gone new
  pub left : Archive
  pub carried : Content
  pub cut : IsCut a (joined left gone) carried

-- the content stays what its newer requests make of the carried part, and the first of them that was sent again stays the same
pub record StaysLed (a old new : Content) (before : IsLedFrom a old) : Type 0 where
  pub led : IsLedFrom a new
  pub first : first_sent_again led.left led.newer ≡ first_sent_again before.left before.newer
