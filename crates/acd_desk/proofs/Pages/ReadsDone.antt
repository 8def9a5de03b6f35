-- A read of a desk, by its parts: what it leaves.
use Rattle.std.proofs.Common.{◌≡◌, ◌↔◌, ℕ, true, false, List, Option, Some, None, Result, String, Ok, Err, IfOk, OnOk, IsErrOf, refl, sym, ap, subst, ◌∙◌, inl, inr, ◌⊎◌, true≢false}
use Rattle.std.proofs.lemmas.Bool.{false_from_ne_true}
use Rattle.std.proofs.lemmas.Result.{IfOk-weaker, on_ok_weaker}
use Rattle.std.specs.Borrow.{Bor}
use Rattle.std.specs.Fn.{Once, FnOnceReturns, FnOnceReturnsAt}
use Rattle.std.specs.declared.alloc.AllocError.{AllocError}
use Rattle.acd_terms.specs.declared.rows.Rows.{Rows}
use Rattle.acd_terms.specs.declared.command.Arrival.{Arrival}
use Rattle.acd_model.specs.Rules.First.{BreaksNoRule}
use Rattle.acd_book.specs.Content.{Content, IsCounted}
use Rattle.acd_book.specs.State.{BookState, IfHonest, BookStep, Unchanged, Reads}
use Rattle.acd_book.specs.declared.fault.BookFault.{BookFault}
use Rattle.acd_book.specs.declared.fault.BookFault.TheVariants as faults
use Rattle.acd_book.proofs.BookSteps.{step_so, step_then, unchanged_then}
use Rattle.acd_book.proofs.ReadsInTurn.{Finding, Together}
use Rattle.acd_desk.specs.declared.fault.DeskFault.{DeskFault}
use Rattle.acd_desk.specs.declared.fault.DeskFault.TheVariants.{NoMemory, StoreFault}
use Rattle.acd_desk.specs.declared.taken.Taken.TheVariants as taken
use Rattle.acd_desk.specs.declared.working.Working.{Working}
use Rattle.acd_desk.specs.declared.working.Working.TheVariants.{Unloaded}
use Rattle.acd_desk.specs.Desks.Faults.{fault_of, taken_by, left_by}
use Rattle.acd_desk.specs.Contents.AcceptedArrivals.{is_fault}
use Rattle.acd_desk.specs.Desks.DeskState.{DeskState, InStep, switch_of, is_failed, Mirrors}
use Rattle.acd_desk.specs.Desks.DeskCalls.{IsCause, IsDeceived, Took}
use Rattle.acd_desk.specs.Reads.BookReads.{Reread}
use Rattle.acd_desk.specs.Reads.DeskReads.{ReadDone, ReadFailed}
use Rattle.acd_desk.specs.Reads.ReadAnswers.{text_read}
use Rattle.acd_desk.specs.Reads.AnswerTexts.{seen_text}
use Rattle.acd_desk.proofs.Desks.DeskSteps.{works, fails, rereads, desk_so, desk_then}
use Rattle.acd_desk.proofs.Desks.FaultyCalls.{took_fault}
use Rattle.acd_desk.proofs.Desks.CallsInTurn.{no_store}
use Rattle.acd_terms.proofs.Results.{ok_err, same_error}

no_fault : {A : Type 0} → ◌≡◌ {A = Result A DeskFault} (Err NoMemory) (Err StoreFault) → ⊥
no_fault h = cc

-- a desk that read works afterwards, unless it answers storeFault
read_works : {A : Type 0} (old new : DeskState) (r : Result A DeskFault) (P : Finding A) → ReadDone old new r P → ¬ (IsErrOf r StoreFault) → new.failed ≡ false
read_works old new r P read none = false_from_ne_true new.failed (λ failed. elim (read.desk.answers failed) [
  | inl before ↦ none (read.shut before)
  | inr now ↦ none now
])

module _ {A B : Type 0} (old new : DeskState) where
  -- another answer, which is a storeFault where this one is
  read_as : (r : Result A DeskFault) (q : Result B DeskFault) (P : Finding A) (Q : Finding B) → ReadDone old new r P
      → (IsErrOf r StoreFault ↔ IsErrOf q StoreFault) → IfHonest old.book new.book (InStep old → old.book.is_open → IfOk q (Q old.book.content))
      → OnOk q (IfHonest old.book new.book (old.book.is_open → new.book.is_open)) → ReadDone old new q Q
  read_as r q P Q read same value stays = record {
    step = step_so read.step same.0;
    unchanged = read.unchanged;
    desk = desk_so read.desk same.0 same.1;
    value = value;
    stays = stays;
    shut = λ failed. same.0 (read.shut failed);
    loads = read.loads;
  }

  -- a fault says as little of one thing as of another
  pub read_nothing : (f : DeskFault) (P : Finding A) (Q : Finding B) → ReadDone old new (Err f) P → ReadDone old new (Err f) Q
  read_nothing f P Q read = read_as (Err f) (Err f) P Q read (λ h. ap Err (same_error h), λ h. ap Err (same_error h)) (λ clean sound step opened. tt) tt

  -- what follows from what was read is read
  pub read_so : (x : A) (y : B) (P : Finding A) (Q : Finding B) → ((c : Content) → P c x → Q c y) → ReadDone old new (Ok x) P → ReadDone old new (Ok y) Q
  read_so x y P Q follows read =
      read_as (Ok x) (Ok y) P Q read (λ h. absurd (ok_err h), λ h. absurd (ok_err h))
      (λ clean sound step opened. follows old.book.content (read.value clean sound step opened)) read.stays

  -- there was no memory for the answer of the read
  pub read_no_memory : (x : A) (P : Finding A) (Q : Finding B) → ReadDone old new (Ok x) P → ReadDone old new (Err NoMemory) Q
  read_no_memory x P Q read = read_as (Ok x) (Err NoMemory) P Q read (λ h. absurd (ok_err h), λ h. absurd (no_fault h)) (λ clean sound step opened. tt) tt

-- a text that was read, seen as its characters
pub read_seen : {Z : Type 0} (old new : DeskState) (r : Result (Option (String Z)) DeskFault) (P : Content → Option (List ℕ))
    → ReadDone old new r (λ (c : Content) (text : Option (String Z)). text_read text ≡ P c)
    → ReadDone old new (seen_text r) (λ (c : Content) (text : Option (List ℕ)). text ≡ P c)
read_seen {Z} old new (Ok text) P h =
    read_so old new text (text_read text) (λ (c : Content) (x : Option (String Z)). text_read x ≡ P c) (λ (c : Content) (x : Option (List ℕ)). x ≡ P c)
    (λ c same. same) h
read_seen {Z} old new (Err why) P h =
    read_nothing old new why (λ (c : Content) (x : Option (String Z)). text_read x ≡ P c) (λ (c : Content) (x : Option (List ℕ)). x ≡ P c) h

-- what follows from a read's answer is read too
pub read_follows : {A : Type 0} (old new : DeskState) (r : Result A DeskFault) (P Q : Finding A) → ((c : Content) (x : A) → P c x → Q c x)
    → ReadDone old new r P → ReadDone old new r Q
read_follows old new (Ok x) P Q follows read = read_so old new x x P Q (λ c. follows c x) read
read_follows old new (Err f) P Q follows read = read_nothing old new f P Q read

-- a call's look-up in the tables is a read of their content
pub read_looked : {F A : Type 0} (old new : DeskState) (g : Once F (Bor Rows × Unit {0}) A) (f : F) (r : Result A DeskFault) (Q : Finding A)
    → ((c : Content) (tables : Bor Rows) (x : A) → FnOnceReturns g f (tables, tt) x → tables.now ≡ c.rows → Q c x)
    → ReadDone old new r (λ c x. FnOnceReturnsAt g f c.rows x) → ReadDone old new r Q
read_looked old new g f r Q so looked = read_follows old new r (λ c x. FnOnceReturnsAt g f c.rows x) Q (λ c x by. so c by.0 x by.1 by.2) looked

-- and so is a text that it makes of them
pub read_made : {F Z : Type 0} (old new : DeskState) (g : Once F (Bor Rows × Unit {0}) (Result (Option (String Z)) AllocError)) (f : F)
    (r : Result (Option (String Z)) DeskFault) (read : Content → Option (List ℕ))
    → ((c : Content) (tables : Bor Rows) (text : Option (String Z)) → FnOnceReturns g f (tables, tt) (Ok text) → tables.now ≡ c.rows → text_read text ≡ read c)
    → ReadDone old new r (λ c text. FnOnceReturnsAt g f c.rows (Ok text)) → ReadDone old new r (λ c text. text_read text ≡ read c)
read_made old new g f r read so made =
    read_follows old new r (λ c text. FnOnceReturnsAt g f c.rows (Ok text)) (λ c text. text_read text ≡ read c)
    (λ c text by. so c by.0 text by.1 by.2) made

-- one read after another that gave an answer
pub read_twice : {A B : Type 0} (old mid new : DeskState) (x : A) (r : Result B DeskFault) (P : Finding A) (Q R : Finding B)
    → ReadDone old mid (Ok x) P → ReadDone mid new r Q → Together P x Q R → ReadDone old new r R
read_twice {A} {B} old mid new x r P Q R first second follows =
    let before : new.book.is_clean → mid.book.is_clean = second.step.clean in
    let sound_then : new.book.is_clean → old.book.is_sound → mid.book.is_sound = λ clean. first.step.sound (before clean) in
    let up : new.book.is_clean → old.book.is_sound → old.book.is_open → mid.book.is_open = λ clean. first.stays (before clean) in
    let mid_works : mid.failed ≡ false = read_works old mid (Ok x) P first (λ h. ok_err h) in
    record {
      step = step_then first.step second.step (λ h. absurd (ok_err h)) (λ h. h);
      unchanged = unchanged_then first.step second.step first.unchanged second.unchanged;
      desk = desk_then old mid new first.step second.step first.desk second.desk (λ h. absurd (ok_err h)) (λ h. h) (λ h. inr h) (λ gone. gone) first.loads;
      value = λ clean sound step opened.
          let same : mid.book.content ≡ old.book.content = (first.unchanged.same (before clean) sound (up clean sound opened)).1 in
          let found : P old.book.content x = first.value (before clean) sound step opened in
          IfOk-weaker r (Q mid.book.content) (R old.book.content) (λ y q. follows old.book.content found y (subst (λ (c : Content). Q c y) same q))
          (second.value clean (sound_then clean sound) (first.desk.in_step (before clean) sound step) (up clean sound opened));
      stays = on_ok_weaker r (λ (more : IfHonest mid.book new.book (mid.book.is_open → new.book.is_open)).
          λ (clean : new.book.is_clean) (sound : old.book.is_sound) (opened : old.book.is_open).
          more clean (sound_then clean sound) (up clean sound opened)) second.stays;
      shut = λ failed. absurd (ok_err (first.shut failed));
      loads = λ working gone. first.loads mid_works (second.loads working gone);
    }

-- a switch that is in memory
pub read_rows : (old new : DeskState) (rows : Rows) → Reread old new → new.switch ≡ Some rows → new.failed ≡ false
    → ReadDone {A = Unit {0}} old new (Ok tt) (λ c u. c.rows ≡ rows)
read_rows old new rows r is working = record {
  step = step_so r.step (λ none. absurd none);
  unchanged = r.unchanged;
  desk = rereads old new (λ h. ok_err h) r;
  value = λ clean sound step opened.
      let mirrors = (r.in_step clean sound step (r.stays clean sound opened) working).0 in
      ap (λ (c : Content). c.rows) (sym (r.same clean sound)) ∙ subst (λ (o : Option Rows). Mirrors o new.book.content.rows) is mirrors;
  stays = r.stays;
  shut = λ failed. absurd (true≢false (sym failed ∙ sym r.failed ∙ working));
  loads = λ working gone. r.loaded gone;
}

abbrev pub stands : BookState → Working → DeskState
stands b w = record { book = b; switch = switch_of w; failed = is_failed w }

pub without_memory : {B F : Type 0} (b d : BookState) (w : Working) (Q : Finding B) → BookStep F b d → Unchanged b d → ¬ F → is_failed w ≡ false
    → ReadDone (stands b w) (stands d w) (Err NoMemory) Q
without_memory b d w Q step unchanged none working = record {
  step = step_so step (λ failed. absurd (none failed));
  unchanged = unchanged;
  desk = works (stands b w) (stands d w) (λ h. no_fault h) working working (λ clean sound step opened still.
      let same = unchanged.same clean sound opened in
      subst (λ (c : Content). Mirrors (switch_of w) c.rows × IsCounted c) (sym same.1) (step same.0 working));
  value = λ clean sound step opened. tt;
  stays = tt;
  shut = λ failed. absurd (true≢false (sym failed ∙ working));
  loads = λ working gone. gone;
}

pub store_failed : {B F : Type 0} (b d : BookState) (w : Working) (Q : Finding B) → BookStep F b d → Unchanged b d
    → (let new : DeskState = record { book = d; switch = None; failed = true } in
    IsCause (stands b w) new ⊎ ((switch_of w ≡ None) × IsDeceived (stands b w) new))
    → ReadDone (stands b w) (record { book = d; switch = None; failed = true }) (Err StoreFault) Q
store_failed b d w Q step unchanged cause = record {
  step = step_so step (λ failed. refl);
  unchanged = unchanged;
  desk = fails (stands b w) (record { book = d; switch = None; failed = true }) refl refl cause;
  value = λ clean sound step opened. tt;
  stays = tt;
  shut = λ failed. refl;
  loads = λ working. absurd (true≢false working);
}

-- a read of the book that gave none
pub unread_by_book : {A B : Type 0} (b d : BookState) (w : Working) (f : BookFault) (P : Finding A) (Q : Finding B) → Reads b d (Err f) P → is_failed w ≡ false
    → ReadDone (stands b w) (stands d (left_by f w)) (Err (fault_of f)) Q
unread_by_book b d w faults.NoMemory P Q reads works = without_memory b d w Q reads.step reads.unchanged (λ h. (let same = same_error h in absurd cc)) works
unread_by_book b d w faults.Store P Q reads works = store_failed b d w Q reads.step reads.unchanged (inl (inr (reads.cause refl)))

-- the rows were read, and make no switch
pub unread_by_rows : {B : Type 0} (b d : BookState) (rows : Rows) (f : BookFault) (Q : Finding B)
    → Reads b d (Ok rows) (λ (c : Content) (found : Rows). found ≡ c.rows) → (f ≡ faults.Store → ¬ (BreaksNoRule rows))
    → ReadDone (stands b Unloaded) (stands d (left_by f Unloaded)) (Err (fault_of f)) Q
unread_by_rows b d rows faults.NoMemory Q reads broken = without_memory b d Unloaded Q reads.step reads.unchanged (λ h. ok_err h) refl
unread_by_rows b d rows faults.Store Q reads broken =
    store_failed b d Unloaded Q reads.step reads.unchanged
    (inr (
      refl,
      λ honest.
          let holds = reads.value honest.0 honest.1 in
          broken refl (subst BreaksNoRule (sym holds.1) (honest.2 holds.0 refl).0),
    ))

-- the answer of a desk that can't load its switch
taken_store : (f : DeskFault) → taken_by f ≡ taken.StoreFault → f ≡ StoreFault
taken_store NoMemory h = absurd (no_store h)
taken_store StoreFault h = refl

taken_fault : (f : DeskFault) → is_fault (taken_by f) ≡ true
taken_fault NoMemory = refl
taken_fault StoreFault = refl

pub took_nothing : (old new : DeskState) (a : Arrival) (f : DeskFault) → ReadFailed old f new → Took old a (taken_by f) new
took_nothing old new a f read =
    let there : IsErrOf {T = Unit {0}} (Err f) StoreFault → taken_by f ≡ taken.StoreFault = λ h. ap taken_by (same_error h) in
    took_fault old new a (taken_by f) (taken_fault f) (step_so read.step there) (desk_so read.desk there (λ h. ap Err (taken_store f h)))
    read.unchanged.same (λ clean sound step c at. inl (read.unchanged.stops clean sound c at)) (λ working gone. inl (read.loads working gone))

-- an equation for the fault, and one for the desk
pub leaves_read_failed : {D : Type 0} (stand : D → DeskState) (old : DeskState) (f g : DeskFault) (d e : D) → f ≡ g → d ≡ e
    → ReadFailed old g (stand e) → ReadFailed old f (stand d)
leaves_read_failed stand old f g d e said is read =
    subst (λ (x : DeskFault). ReadFailed old x (stand d)) (sym said) (subst (λ (x : _). ReadFailed old g (stand x)) (sym is) read)
