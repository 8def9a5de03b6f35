-- A read of a desk's book that gave an answer: what it leaves.
use Rattle.std.specs.Prelude.{◌≡◌, None}
use Rattle.acd_book.specs.State.{IfHonest, BookStep, Unchanged}
use Rattle.acd_desk.specs.Desks.DeskState.{DeskState, InStep}

-- the same content, and no failure
pub record Reread (old new : DeskState) : Type 0 where
  pub step : BookStep ⊥ old.book new.book
  pub unchanged : Unchanged old.book new.book
  pub stays : IfHonest old.book new.book (old.book.is_open → new.book.is_open)
  pub same : IfHonest old.book new.book (new.book.content ≡ old.book.content)
  pub in_step : IfHonest old.book new.book (InStep old → InStep new)
  pub failed : new.failed ≡ old.failed
  pub loaded : new.switch ≡ None → old.switch ≡ None
