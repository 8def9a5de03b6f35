-- How far the replay of a content from its archive on has come.
use Rattle.std.specs.Prelude.{◌≡◌, ℕ, ◌+◌, Bool, true, false, Option, Some, None, IfSome, option_map, is_some, if◌then◌else◌}
use Rattle.acd_terms.specs.Lists.{Every}
use Rattle.acd_terms.specs.declared.rows.Rows.{Rows}
use Rattle.acd_terms.specs.declared.event.Event.{Event}
use Rattle.acd_terms.specs.declared.command.Request.{Request}
use Rattle.acd_book.specs.declared.kept.Kept.{Kept}
use Rattle.acd_book.specs.Content.{Content, kept_of}
use Rattle.acd_book.specs.Memory.{stamp_of}
use Rattle.acd_desk.specs.declared.audit.ArchiveAudit.{ArchiveAudit}
use Rattle.acd_desk.specs.declared.audit.ArchiveAudit.TheVariants.{Sound, SentAgain, Differs}
use Rattle.acd_desk.specs.declared.seen_keys.SeenKeys.{SeenKeys}
use Rattle.acd_desk.specs.declared.page.Page.{Page}
use Rattle.acd_desk.specs.declared.working.LoadedSwitch.{LoadedSwitch}
use Rattle.acd_desk.specs.declared.replay.Replay.{Replay}
use Rattle.acd_desk.specs.declared.newer.NewerReplay.{NewerReplay}
use Rattle.acd_desk.specs.declared.newer.NewerStep.{NewerStep}
use Rattle.acd_desk.specs.declared.newer.NewerStep.TheVariants.{Replayed, Ended}
use Rattle.acd_desk.specs.Contents.AbstractDesk.{stepped}
use Rattle.acd_desk.specs.Contents.KeyPlaces.{IsSeenKey}
use Rattle.acd_desk.specs.Reads.Pages.{IsPageOf}
use Rattle.acd_desk.specs.Audits.Replay.{again, rows_of, FindsFirst, GoesOn, Matches}
use Rattle.acd_desk.specs.Audits.AuditWith.{HoldsArchive, RunsTo, first_sent_again, IsAuditWith}
use Rattle.acd_desk.specs.Audits.Overlap.{AreInOrder}

-- the rows of its switch
abbrev pub newer_rows : NewerReplay → Rows
newer_rows r = rows_of r.replay

-- a record of the request's key is there
abbrev pub is_kept : Request → Content → Bool
is_kept r c = is_some (kept_of c.kept r.requester r.invoke)

-- a switch has the rows
abbrev pub IsSwitchOf : Content → LoadedSwitch → Type 0
IsSwitchOf a loaded = loaded.switch.value ≡ a.rows

-- so much is known of both before a record is compared with what its request gives
pub record KnowsWith (a c : Content) (keys : SeenKeys) (p : Page Event) (k : Kept) : Type 0 where
  pub finds : kept_of a.kept k.request.requester k.request.invoke ≡ None → FindsFirst c keys k
  pub page : IsPageOf c p

-- the same replay, to which the key counts as seen where the archive has it
pub record Notes (old : Replay) (known : Bool) (r : Request) (new : Replay) : Type 0 where
  pub rows : rows_of new ≡ rows_of old
  pub page : new.page ≡ old.page
  pub itself : known ≡ true → IsSeenKey new.keys r
  pub others : (other : Request) → IsSeenKey old.keys other → IsSeenKey new.keys other

-- the stamp of the first request that was sent again: the one noted before, or else this one, where the archive has its key
abbrev pub first_of_both : Option ℕ → Bool → ℕ → Option ℕ
first_of_both (Some first) known stamp = Some first
first_of_both None known stamp = if known then Some stamp else None

-- a replay that was continued, with the stamp of the first request that was sent again
abbrev pub with_first : Option ℕ → Option Replay → Option NewerReplay
with_first first played = option_map (λ (next : Replay). record { replay = next; sent_again = first }) played

-- its switch has replayed the first newer records, it has seen their keys, its page is of the content, and it has noted the first that was sent again
pub record GoesWith (a c : Content) (r : NewerReplay) : Type 0 where
  pub order : AreInOrder a c
  pub runs : RunsTo a c (newer_rows r)
  pub seen : Every (λ (k : Kept). IsSeenKey r.replay.keys k.request) runs.runs.newer
  pub page : IsPageOf c r.replay.page
  pub noted : r.sent_again ≡ option_map stamp_of (first_sent_again runs.runs.left runs.runs.newer)

-- a replay begins at the archive's rows
pub record BeginsWith (a c : Content) (r : Replay) : Type 0 where
  pub order : AreInOrder a c
  pub holds : HoldsArchive a c
  pub rows : rows_of r ≡ a.rows
  pub page : IsPageOf c r.page

-- a record is replayed, or it isn't what its request gives
abbrev pub IsReplayedWith : Content → Content → NewerReplay → Kept → Option NewerReplay → Type 0
IsReplayedWith a c r k None = ¬ Matches c (newer_rows r) k
IsReplayedWith a c r k (Some next) =
    Matches c (newer_rows r) k × GoesOn c r.replay k next.replay × (next.sent_again ≡ first_of_both r.sent_again (is_kept k.request a) k.stamp)

-- the same where so much is known before
abbrev pub PlaysWith : NewerReplay → Kept → Content → Content → Option NewerReplay → Type 0
PlaysWith r k a c found = KnowsWith a c r.replay.keys r.replay.page k → IsReplayedWith a c r k found

-- the switch made one step more, where the record was replayed
abbrev pub StepsOnWith : Rows → Kept → Option NewerReplay → Type 0
StepsOnWith s k played = IfSome played (λ (next : NewerReplay). newer_rows next ≡ (stepped s (again k)).rows)

-- sound, but for the first request that was sent again, where there is one
abbrev pub sound_or : Option ℕ → ArchiveAudit
sound_or None = Sound
sound_or (Some first) = SentAgain first

-- the answer where no record is left, and all else is as it has to be, or isn't
abbrev pub answer_at_end : NewerReplay → Bool → ArchiveAudit
answer_at_end r false = Differs ((newer_rows r).last_stamp + 1)
answer_at_end r true = sound_or r.sent_again

-- the result of a step of the replay from there
abbrev pub IsStepWith : NewerReplay → Content → Content → NewerStep → Type 0
IsStepWith r a c (Replayed next) = GoesWith a c r → GoesWith a c next
IsStepWith r a c (Ended found) = GoesWith a c r → IsAuditWith a c found

-- it replays one record, or ends
abbrev pub CountsOneWith : Rows → NewerStep → Type 0
CountsOneWith s (Replayed next) = ((newer_rows next).limits ≡ s.limits) × ((newer_rows next).last_stamp ≡ s.last_stamp + 1)
CountsOneWith s (Ended answer) = Unit {0}

-- the audit of both, where a replay begins so
abbrev pub AuditsFrom : Replay → Content → Content → ArchiveAudit → Type 0
AuditsFrom first a c found = BeginsWith a c first → IsAuditWith a c found

-- the audit of both, where they are in order
abbrev pub AuditsInOrder : Content → Content → ArchiveAudit → Type 0
AuditsInOrder a c found = AreInOrder a c → IsAuditWith a c found
