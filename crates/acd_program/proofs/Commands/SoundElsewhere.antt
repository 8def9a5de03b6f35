-- A book that was asked, as one that is sound for another reason.
use Rattle.acd_book.specs.Content.{Content}
use Rattle.acd_book.specs.State.{BookState}
use Rattle.acd_program.specs.Commands.Work.{WasAsked}
use Rattle.acd_sessions.proofs.Called.{called, step_called}

-- of a book that was sound, what a step, a session or a read left
module _ (Sound : Type 0) (new : BookState) (so : new.is_sound → Sound) where
  pub asked_called : {A : Type 0} (old : BookState) (x : A) (P : Content → A → Type 0) → WasAsked old P x new → WasAsked old P x (called new Sound)
  asked_called old x P a = record { step = step_called Sound new so old a.step; opened = a.opened; same = a.same; answer = a.answer; stops = a.stops }
