-- A call of a desk that executes a request with a new key: what it leaves.
use Rattle.std.proofs.Common.{◌≡◌, ℕ, false, List, Some, None, Result, Ok, Err, refl, sym, ap, subst, ◌∙◌, inl, inr, true≢false, nat_le}
use Rattle.acd_terms.specs.declared.rows.Rows.{Rows}
use Rattle.acd_terms.specs.declared.event.Event.{Event}
use Rattle.acd_terms.specs.declared.command.Arrival.{Arrival}
use Rattle.acd_model.specs.Rules.First.{BreaksNoRule}
use Rattle.acd_model.specs.declared.moves.Change.{Change}
use Rattle.acd_book.specs.declared.kept.Kept.{Kept}
use Rattle.acd_book.specs.Content.{FollowsBy, committed_by}
use Rattle.acd_book.specs.State.{BookState, Commits}
use Rattle.acd_book.specs.declared.fault.BookFault.{BookFault}
use Rattle.acd_book.specs.declared.fault.BookFault.TheVariants as faults
use Rattle.acd_book.proofs.BookSteps.{no_step}
use Rattle.acd_desk.specs.declared.taken.Taken.TheVariants.{Reply, NoMemory, StoreFault}
use Rattle.acd_desk.specs.declared.working.Working.TheVariants.{Unloaded}
use Rattle.acd_desk.specs.Desks.Faults.{answer_to, left_by}
use Rattle.acd_desk.specs.Desks.PreparedCommit.{Prepared}
use Rattle.acd_desk.specs.Desks.DeskState.{DeskState, switch_of, is_failed, holding, Mirrors, with_new_key}
use Rattle.acd_desk.specs.Desks.DeskCalls.{Took}
use Rattle.acd_terms.proofs.Results.{ok_err}
use Rattle.acd_desk.proofs.Desks.Calls.{step_new}
use Rattle.acd_desk.proofs.Desks.DeskSteps.{works}
use Rattle.acd_desk.proofs.Desks.Commits.{some_none, commits, executed_in_step, executed_reply}
use Rattle.acd_desk.proofs.Desks.FaultyCalls.{Undone, faulted, no_memory}

err_is : {e f : BookFault} → ◌≡◌ {A = Result (Unit {0}) BookFault} (Err e) (Err f) → e ≡ f
err_is h = cc

reply_store : (status : ℕ) (body : List ℕ) → Reply status body ≡ StoreFault → ⊥
reply_store status body h = cc

-- it was executed, and is kept
pub kept_new : (s : DeskState) (rows next : Rows) (a : Arrival) (changes : List Change) (es : List Event) (k : Kept) (d : BookState) → Prepared rows a changes es k next
    → nat_le rows.limits.requests rows.last_stamp ≡ false → Commits s.book d (Ok tt) (FollowsBy changes es k) (committed_by changes es k)
    → Took (with_new_key (holding s rows) a.request) a (Reply k.status k.body) (record { book = d; switch = Some next; failed = false })
kept_new s rows next a changes es k d p room done =
    let old : DeskState = with_new_key (holding s rows) a.request in
    let new : DeskState = record { book = d; switch = Some next; failed = false } in
    let does = commits rows a changes es k next p s.book.content in
    record {
      step = step_new (holding s rows) a.request d done.step (λ is. absurd (ok_err is));
      desk = works old new (λ h. reply_store k.status k.body h) refl refl (λ clean sound step opened working.
          let before = step sound.1 refl in
          let did = does before sound.2 room in
          executed_in_step rows a changes es k next p s.book.content d.content before (done.made clean sound.0 did.0 ∙ did.1 ∙ did.2));
      shut = λ h. absurd (true≢false (sym h));
      up = λ fine clean sound. done.opened clean sound.0;
      sent = λ fine clean sound step.
          let before = step sound.1 refl in
          let did = does before sound.2 room in
          (executed_reply rows a changes es k next p s.book.content before.0 sound.2 did.2, done.made clean sound.0 did.0 ∙ did.1);
      unmoved = λ none. absurd (true≢false none);
      stops = λ clean sound step x at. elim (done.stops clean sound.0 x at) [
        | inl before ↦ inl before
        | inr made ↦ inr (refl, made.0, let did = does (step sound.1 refl) sound.2 room in made.1 did.0 ∙ did.1)
      ];
      unloads = λ working gone. absurd (some_none next gone);
    }

mirrored : (rows : Rows) → BreaksNoRule rows → (s : Rows) → Mirrors (Some rows) s → Mirrors None s
mirrored rows rules s same = subst BreaksNoRule (sym same) rules

-- it was executed, and may be kept or not
pub not_kept : (s : DeskState) (rows next : Rows) (a : Arrival) (changes : List Change) (es : List Event) (k : Kept) (d : BookState) (f : BookFault) → BreaksNoRule rows
    → Prepared rows a changes es k next → nat_le rows.limits.requests rows.last_stamp ≡ false → Commits s.book d (Err f) (FollowsBy changes es k) (committed_by changes es k)
    → Took (with_new_key (holding s rows) a.request) a (answer_to f) (record { book = d; switch = switch_of (left_by f Unloaded); failed = is_failed (left_by f Unloaded) })
not_kept s rows next a changes es k d f rules p room done =
    let old : DeskState = with_new_key (holding s rows) a.request in
    let does = commits rows a changes es k next p s.book.content in
    let undone : Undone (f ≡ faults.Store) old a d = record {
      step = step_new (holding s rows) a.request d done.step err_is;
      same = λ clean sound opened. done.undone clean sound.0 opened;
      stops = λ clean sound step x at. elim (done.stops clean sound.0 x at) [
        | inl before ↦ inl before
        | inr made ↦ inr (refl, made.0, let did = does (step sound.1 refl) sound.2 room in made.1 did.0 ∙ did.1)
      ];
    } in
    faulted old a d Unloaded f undone (λ is. done.cause (ap Err is)) refl refl (mirrored rows rules)

-- there was no memory to execute it
pub not_executed : (s : DeskState) (rows : Rows) (a : Arrival) → BreaksNoRule rows
    → Took (with_new_key (holding s rows) a.request) a NoMemory (record { book = s.book; switch = None; failed = false })
not_executed s rows a rules =
    let old : DeskState = with_new_key (holding s rows) a.request in
    let undone : Undone ⊥ old a s.book = record {
      step = step_new (holding s rows) a.request s.book (no_step s.book) (λ none. none);
      same = λ clean sound opened. (opened, refl);
      stops = λ clean sound step x at. inl at;
    } in
    no_memory old a s.book None undone (λ none. none) refl (mirrored rows rules)
