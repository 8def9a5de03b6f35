-- A call of a desk that is answered by a fault: what it leaves.
use Rattle.std.proofs.Common.{◌≡◌, Bool, true, false, Option, None, refl, sym, subst, ◌∙◌, inl, inr, ◌⊎◌, true≢false}
use Rattle.acd_terms.specs.declared.rows.Rows.{Rows}
use Rattle.acd_terms.specs.declared.command.Arrival.{Arrival}
use Rattle.acd_book.specs.Content.{Content, IsCounted, HasRisen}
use Rattle.acd_book.specs.State.{BookState, IfHonest, BookStep}
use Rattle.acd_book.specs.declared.fault.BookFault.{BookFault}
use Rattle.acd_book.specs.declared.fault.BookFault.TheVariants as faults
use Rattle.acd_book.proofs.BookSteps.{step_so}
use Rattle.acd_desk.specs.declared.taken.Taken.{Taken}
use Rattle.acd_desk.specs.declared.taken.Taken.TheVariants.{NoMemory, StoreFault}
use Rattle.acd_desk.specs.declared.working.Working.{Working}
use Rattle.acd_desk.specs.Desks.Faults.{answer_to, left_by}
use Rattle.acd_desk.specs.Contents.Replies.{after}
use Rattle.acd_desk.specs.Contents.AcceptedArrivals.{is_fault}
use Rattle.acd_desk.specs.Desks.DeskState.{DeskState, switch_of, is_failed, Mirrors, InStep}
use Rattle.acd_desk.specs.Desks.DeskCalls.{DeskStep, IsCause, IsDeceived, Took}
use Rattle.acd_desk.proofs.Desks.DeskSteps.{works, fails}
use Rattle.acd_desk.proofs.Desks.CallsInTurn.{no_store}

-- a stop was one before; or the desk worked, its book was open, and the arrival is executed
abbrev pub StopsBy : DeskState → Arrival → BookState → Type 0
StopsBy old a new =
    IfHonest old.book new (InStep old → (c : Content) → new.stops c → old.book.stops c ⊎ ((old.failed ≡ false) × old.book.is_open × (c ≡ after old.book.content a)))

abbrev pub Unmoved : DeskState → BookState → Type 0
Unmoved old new = IfHonest old.book new (new.is_open → old.book.is_open × (new.content ≡ old.book.content))

-- a fault was answered
pub took_fault : (old new : DeskState) (a : Arrival) (t : Taken) → is_fault t ≡ true → BookStep (t ≡ StoreFault) old.book new.book → DeskStep (t ≡ StoreFault) (old.switch ≡ None) old new
    → Unmoved old new.book → StopsBy old a new.book → (new.failed ≡ false → new.switch ≡ None → (old.switch ≡ None) ⊎ (t ≡ NoMemory)) → Took old a t new
took_fault old new a t fault step desk unmoved stops unloads = record {
  step = step;
  desk = desk;
  shut = λ failed. fault;
  up = λ fine. absurd (true≢false (sym fault ∙ fine));
  sent = λ fine. absurd (true≢false (sym fault ∙ fine));
  unmoved = λ none. unmoved;
  stops = stops;
  unloads = unloads;
}

-- a call of the book that did nothing, or nothing that is known: what it leaves
pub record Undone (Failed : Type 0) (old : DeskState) (a : Arrival) (new : BookState) : Type 0 where
  pub step : BookStep Failed old.book new
  pub same : Unmoved old new
  pub stops : StopsBy old a new

-- no memory: the memory mirrors what it mirrored before
pub no_memory : {F : Type 0} (old : DeskState) (a : Arrival) (d : BookState) (left : Option Rows) → Undone F old a d → ¬ F → old.failed ≡ false
    → ((s : Rows) → Mirrors old.switch s → Mirrors left s) → Took old a NoMemory (record { book = d; switch = left; failed = false })
no_memory old a d left undone none working mirrors =
    let new : DeskState = record { book = d; switch = left; failed = false } in
    took_fault old new a NoMemory refl (step_so undone.step (λ failed. absurd (none failed)))
    (works old new no_store working refl (λ clean sound step opened still.
    let same = undone.same clean sound opened in
    let before = step same.0 working in
    subst (λ (x : Content). Mirrors left x.rows × IsCounted x) (sym same.1) (mirrors old.book.content.rows before.0, before.1)))
    undone.same undone.stops (λ still gone. inr refl)

-- a store fault
pub store_fault : {F : Type 0} (old : DeskState) (a : Arrival) (d : BookState) → Undone F old a d
    → IsCause old (record { book = d; switch = None; failed = true }) ⊎ ((old.switch ≡ None) × IsDeceived old (record { book = d; switch = None; failed = true }))
    → Took old a StoreFault (record { book = d; switch = None; failed = true })
store_fault old a d undone cause =
    let new : DeskState = record { book = d; switch = None; failed = true } in
    took_fault old new a StoreFault refl (step_so undone.step (λ failed. refl)) (fails old new refl refl cause) undone.same undone.stops (λ working. absurd (true≢false working))

no_fault : faults.NoMemory ≡ faults.Store → ⊥
no_fault h = cc

-- a fault of the book
pub faulted : (old : DeskState) (a : Arrival) (d : BookState) (w : Working) (f : BookFault) → Undone (f ≡ faults.Store) old a d → (f ≡ faults.Store → HasRisen old.book.failures d.failures)
    → old.failed ≡ false → is_failed w ≡ false → ((s : Rows) → Mirrors old.switch s → Mirrors (switch_of w) s)
    → Took old a (answer_to f) (record { book = d; switch = switch_of (left_by f w); failed = is_failed (left_by f w) })
faulted old a d w faults.NoMemory undone cause working works mirrors =
    subst (λ (b : Bool). Took old a NoMemory (record { book = d; switch = switch_of w; failed = b })) (sym works) (no_memory old a d (switch_of w) undone no_fault working mirrors)
faulted old a d w faults.Store undone cause working works mirrors = store_fault old a d undone (inl (inr (cause refl)))
