-- What is read of a book, by what its desk read; and over a connection, by what its book read.
use Rattle.std.proofs.Common.{◌≡◌, ℕ, Ok, subst, ◌∙◌}
use Rattle.acd_book.specs.Content.{Content}
use Rattle.acd_book.specs.Order.{IsOrdered}
use Rattle.acd_book.specs.State.{BookState}
use Rattle.acd_book.proofs.BookSteps.{step_then}
use Rattle.acd_desk.specs.declared.audit.Audit.{Audit}
use Rattle.acd_desk.specs.declared.audit.Audit.TheVariants as audit
use Rattle.acd_desk.specs.Audits.Audit.{IsFirstDifference}
use Rattle.acd_desk.specs.Contents.CarriedContent.{Archive, no_archive, together}
use Rattle.acd_desk.specs.Desks.DeskState.{DeskState, Starts, StartsWith}
use Rattle.acd_desk.specs.Contents.SoundContent.{IsSound}
use Rattle.acd_desk.specs.Desks.Opening.{Opened}
use Rattle.acd_desk.specs.Reads.DeskReads.{ReadDone}
use Rattle.acd_desk.proofs.Replays.AuditLaws.{one_audit}
use Rattle.acd_program.specs.declared.auditing.Finding.{Finding}
use Rattle.acd_program.specs.declared.auditing.Finding.TheVariants.{Sound, Counted, SentAgain, SentAgainCounted, Differs}
use Rattle.acd_program.specs.Commands.AuditFindings.{IsFinding, IsFindingOf}
use Rattle.acd_program.specs.Commands.Work.{WasAsked, IsFindingIfOrdered}
use Rattle.acd_sessions.specs.ConnectionBook.{IsHeldBook}
use Rattle.acd_terms.proofs.Results.{ok_err}

-- what an answer may say of a content
abbrev pub Says : Type 0 → Type 1
Says A = Content → A → Type 0

-- a desk that was opened was asked; of a content that is sound, by itself or with an archive, the answer is that of the read
pub asked_by : {A : Type 0} (old : BookState) (d e : DeskState) (x : A) (P : Content → A → Type 0) → Opened old d → ReadDone d e (Ok x) P → WasAsked old (λ (c : Content) (y : A). (p : Archive) → IsSound (together p c) → P c y) x e.book
asked_by old d e x P o t =
    let same : e.book.is_clean → old.is_sound → d.book.content ≡ old.content = λ clean sound. (o.opened (t.step.clean clean) sound).2 in
    let up : e.book.is_clean → old.is_sound → e.book.is_open
    = λ clean sound. t.stays clean (o.step.sound (t.step.clean clean) sound) (o.opened (t.step.clean clean) sound).1 in
    record {
      step = step_then o.step t.step (λ none. none) (λ h. ok_err h);
      opened = λ clean sound. ((o.opened (t.step.clean clean) sound).0, up clean sound);
      same = λ clean sound. (t.unchanged.same clean (o.step.sound (t.step.clean clean) sound) (up clean sound)).1 ∙ same clean sound;
      answer = λ clean sound p whole.
          let starts : StartsWith p d = o.starts p (t.step.clean clean) sound whole in
          subst (λ (c : Content). P c x) (same clean sound) (t.value clean starts.0 starts.2 starts.1);
      stops = λ clean sound c at. o.stops (t.step.clean clean) sound c (t.unchanged.stops clean (o.step.sound (t.step.clean clean) sound) c at);
    }

-- whatever follows from an answer is an answer
pub asked_so : {A B : Type 0} (old new : BookState) (x : A) (y : B) (P : Says A) (Q : Says B) → ((c : Content) → P c x → Q c y) → WasAsked old P x new → WasAsked old Q y new
asked_so old new x y P Q follows a = record {
  step = a.step;
  opened = a.opened;
  same = a.same;
  answer = λ clean sound. follows old.content (a.answer clean sound);
  stops = a.stops;
}

-- of a book that came of another
pub asked_of : {A : Type 0} (old mid new : BookState) (x : A) (P : Content → A → Type 0) → IsHeldBook old mid → WasAsked mid P x new → WasAsked old P x new
asked_of old mid new x P of a = record {
  step = step_then of.step a.step (λ none. none) (λ none. none);
  opened = λ clean is. (of.opened (a.step.clean clean) is, (a.opened clean (of.step.sound (a.step.clean clean) is)).1);
  same = λ clean is. a.same clean (of.step.sound (a.step.clean clean) is) ∙ of.content (a.step.clean clean) is;
  answer = λ clean is. subst (λ (c : Content). P c x) (of.content (a.step.clean clean) is) (a.answer clean (of.step.sound (a.step.clean clean) is));
  stops = λ clean is c at. of.stops (a.step.clean clean) is c (a.stops clean (of.step.sound (a.step.clean clean) is) c at);
}

-- its records are in order
pub asked_in_order : (old mid new : BookState) (x : Finding) → IsHeldBook old mid → WasAsked mid IsFindingIfOrdered x new → WasAsked old IsFindingOf x new
asked_in_order old mid new x of a =
    let there = asked_of old mid new x IsFindingIfOrdered of a in
    record {
      step = there.step;
      opened = there.opened;
      same = there.same;
      answer = λ clean is. there.answer clean is (subst (λ (c : Content). IsOrdered c) (of.content (a.step.clean clean) is) (of.ordered (a.step.clean clean) is));
      stops = there.stops;
    }

-- ---- an audit

-- a content with a first difference isn't sound
unsound : (c : Content) (place : ℕ) → IsFirstDifference c place → ¬ (IsSound c)
unsound c place differs = λ sound. differs_sound place (one_audit c (audit.Differs place) audit.Sound differs sound)
  where
    differs_sound : (n : ℕ) → ◌≡◌ {A = Audit} (audit.Differs n) audit.Sound → ⊥
    differs_sound n h = cc

-- an audit of a desk over the book finds the audit of the book's content
pub audited_by : (old : BookState) (d e : DeskState) (x : Finding) → Opened old d → ReadDone d e (Ok x) (λ (c : Content) (y : Finding). Unit {0})
    → (e.book.is_clean → d.book.is_sound → IsFinding d x) → WasAsked old IsFindingIfOrdered x e.book
audited_by old d e x o t found =
    let asked = asked_by old d e x (λ (c : Content) (y : Finding). Unit {0}) o t in
    record {
      step = asked.step;
      opened = asked.opened;
      same = asked.same;
      answer = λ clean sound. subst (λ (c : Content). IsFindingIfOrdered c x) (o.opened (t.step.clean clean) sound).2
          (of_desk x (λ whole. o.starts no_archive (t.step.clean clean) sound (subst IsSound (o.opened (t.step.clean clean) sound).2 whole)) (found clean (o.step.sound (t.step.clean clean) sound)));
      stops = asked.stops;
    }
  where
    of_desk : (x : Finding) → (IsSound d.book.content → Starts d) → IsFinding d x → IsFindingIfOrdered d.book.content x
    of_desk Sound starts h = h
    of_desk (Counted count) starts h = λ ordered. let whole = (h ordered).0 in (whole, (h ordered).1 (starts whole).2)
    of_desk (SentAgain stamp) starts h = absurd h
    of_desk (SentAgainCounted stamp count) starts h = absurd h
    of_desk (Differs place) starts h = λ ordered. (h ordered, unsound d.book.content place (h ordered))
