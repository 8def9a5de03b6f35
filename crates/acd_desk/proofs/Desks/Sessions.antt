-- A session, by opening a desk and running it: what it leaves.
use Rattle.std.proofs.Common.{◌≡◌, ℕ, List, [], ◌∷◌, sym, subst, ◌∙◌, inl, inr, true≢false}
use Rattle.acd_terms.specs.declared.command.Arrival.{Arrival}
use Rattle.acd_book.specs.Content.{Content, HasRisen}
use Rattle.acd_book.specs.State.{BookState}
use Rattle.acd_book.proofs.BookSteps.{step_then}
use Rattle.acd_desk.specs.declared.taken.Taken.{Taken}
use Rattle.acd_desk.specs.Contents.AcceptedArrivals.{accepted, maybe_last, answers_sent}
use Rattle.acd_desk.specs.Contents.SoundContent.{IsSound, replies, StopsAt}
use Rattle.acd_desk.specs.Contents.AnyContent.{Leads}
use Rattle.acd_desk.specs.Contents.CarriedContent.{no_archive}
use Rattle.acd_desk.specs.Desks.DeskState.{DeskState, Starts}
use Rattle.acd_desk.specs.Desks.Opening.{Opened}
use Rattle.acd_desk.specs.Desks.DeskCalls.{Ran, EndsIn, EndsUp, HoldsRun}
use Rattle.acd_desk.specs.Desks.Session.{Session, IsLastAccepted}

ends_up : (s : DeskState) (ts : List Taken) → s.book.is_open → IsLastAccepted ts → EndsUp s ts
ends_up s [] opened last = opened
ends_up s (t ∷ []) opened last = last
ends_up s (_ ∷ t ∷ ts) opened last = ends_up s (t ∷ ts) opened last

pub session_ran : (After : Taken → Type 0) (old : BookState) (d e : DeskState) (l : List Arrival) (ts : List Taken) → Opened old d → Ran d l ts e → EndsIn After ts → Session After old l ts e.book
session_ran After old d e l ts o ran later =
    let starts : e.book.is_clean → old.is_sound → IsSound old.content → Starts d = λ clean sound whole. o.starts no_archive (ran.step.clean clean) sound whole in
    let same : e.book.is_clean → old.is_sound → d.book.content ≡ old.content = λ clean sound. (o.opened (ran.step.clean clean) sound).2 in
    let up : e.book.is_clean → old.is_sound → IsLastAccepted ts → EndsUp d ts
    = λ clean sound last. ends_up d ts (o.opened (ran.step.clean clean) sound).1 last in
    record {
      even = ran.even;
      step = step_then o.step ran.step (λ none. absurd none) (λ found. found);
      opened = λ clean sound. (o.opened (ran.step.clean clean) sound).0;
      accepts = λ clean sound. o.accepts (ran.step.clean clean) sound;
      leads = λ clean sound counted.
          let before = ran.step.clean clean in
          subst (λ (c : Content). Leads c l ts e.book) (same clean sound)
          (ran.leads clean (o.step.sound before sound) (o.opened before sound).1 (o.in_step before sound counted));
      replies = λ clean sound whole. subst (λ (c : Content). answers_sent ts ≡ replies c (accepted l ts)) (same clean sound) (ran.replies clean (starts clean sound whole));
      holds = λ clean sound whole opened. subst (λ (c : Content). HoldsRun c (accepted l ts) e.book) (same clean sound) (ran.holds clean (starts clean sound whole) opened);
      up = λ clean sound last. ran.up clean (o.step.sound (ran.step.clean clean) sound) (up clean sound last);
      stops = λ clean sound whole c at. subst (λ (x : Content). StopsAt x (accepted l ts) (maybe_last l ts) c) (same clean sound) (ran.stops clean (starts clean sound whole) c at);
      sound_stops = λ clean sound whole c at. ran.sound_stops clean (starts clean sound whole) c at;
      later = later;
      cause = λ clean sound whole found. elim (ran.desk.cause (ran.desk.shuts found)) [
        | inl cause ↦ elim cause [
          | inl failed ↦ absurd (true≢false (sym failed ∙ o.working))
          | inr risen ↦ subst (λ (k : ℕ). HasRisen k e.book.failures) (o.step.quiet (λ none. none)) risen
        ]
        | inr deceived ↦ absurd (deceived.1 (clean, (starts clean sound whole).0, (starts clean sound whole).2))
      ];
    }
