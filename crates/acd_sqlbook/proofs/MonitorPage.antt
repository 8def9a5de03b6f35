-- A page of a monitor, by an index or by a look at all events.
use Rattle.std.proofs.Common.{◌≡◌, ℕ, List, Option, Some, Result, Ok, Err, max, take, filter, sym, ap, subst, ◌∙◌}
use Rattle.std.specs.Prelude.{Vec}
use Rattle.std.specs.declared.alloc.Global.{Global}
use Rattle.sqlite.specs.declared.error.Error.{Error}
use Rattle.sqlite.specs.State.{State, HasCleanDisk}
use Rattle.acd_terms.specs.declared.event.Event.{Event}
use Rattle.acd_terms.specs.declared.record.MonitorRecord.{MonitorRecord}
use Rattle.acd_model.specs.Scans.{monitor_of}
use Rattle.acd_book.specs.Content.{Content, is_at_after, watched_by, events_of_monitor}
use Rattle.acd_book.specs.MonitorIndexes.{ArePageNumbers}
use Rattle.acd_sql_columns.specs.Transactions.{HoldsContent}
use Rattle.acd_sql_columns.specs.ReadResults.{Finds}
use Rattle.acd_sql_statements.specs.EventsByNumber.{picked}
use Rattle.acd_sql_statements.proofs.ReadsInTurn.{quiet_still, finds_after, finds_so}
use Rattle.acd_sqlbook.specs.Calls.{HasRead}
use Rattle.acd_sqlbook.specs.EventIndex.{Indexes, IsIndexOf}
use Rattle.acd_sqlbook.specs.declared.index.Index.{Index}
use Rattle.acd_sqlbook.proofs.IndexedEvents.{ascending, page_picked}
use Rattle.acd_sqlbook.proofs.AfterProbe.{reads_after, reads_two, reads_fail}

-- the events of the device are a page of what is indexed
abbrev pub IsIndexedPage : Index → ℕ → ℕ → ℕ → Content → Vec Event Global → Type 0
IsIndexedPage index device number limit c events = Indexes index c.events → events.items ≡ take limit (filter (is_at_after (Some device) number) c.events)

abbrev pub IsIndexedPageOf : Index → ℕ → ℕ → ℕ → Content → Vec Event Global → Type 0
IsIndexedPageOf index monitor number limit c events = Indexes index c.events → events.items ≡ events_of_monitor c monitor number limit

pub page_by_numbers : (old new : State) (index : Index) (device number limit : ℕ) (numbers : List ℕ) (r : Result (Vec Event Global) Error)
    → ArePageNumbers index.watched device number limit numbers
    → Finds old new r (λ c events. events.items ≡ picked c.events numbers)
    → Finds old new r (IsIndexedPage index device number limit)
page_by_numbers old new index device number limit numbers r page =
    finds_so old new r (λ (c : Content) (events : Vec Event Global). events.items ≡ picked c.events numbers)
    (IsIndexedPage index device number limit)
    (λ c held events is indexes. is ∙ page_picked device number limit c.events numbers (ascending old c held) (page c.events indexes.lists))

pub page_by_all : (old new : State) (index : Index) (device number limit : ℕ) (r : Result (Vec Event Global) Error)
    → Finds old new r (λ c events. events.items ≡ take limit (filter (is_at_after (Some device) number) c.events))
    → Finds old new r (IsIndexedPage index device number limit)
page_by_all old new index device number limit r =
    finds_so old new r (λ (c : Content) (events : Vec Event Global). events.items ≡ take limit (filter (is_at_after (Some device) number) c.events))
    (IsIndexedPage index device number limit)
    (λ c held events is indexes. is)

pub page_of : (old mid new : State) (index : Index) (monitor number above limit : ℕ) (o : Option MonitorRecord) (w : MonitorRecord)
    (r : Result (Vec Event Global) Error)
    → o ≡ Some w → Finds {E = Error} old mid (Ok o) (λ c found. found ≡ monitor_of c.rows monitor)
    → above ≡ max number w.after_event
    → Finds mid new r (IsIndexedPage index w.device above limit)
    → Finds old new r (IsIndexedPageOf index monitor number limit)
page_of old mid new index monitor number above limit o w r there h is =
    finds_after old mid new o r (λ (c : Content) (found : Option MonitorRecord). found ≡ monitor_of c.rows monitor)
    (IsIndexedPage index w.device above limit)
    (IsIndexedPageOf index monitor number limit) h
    (λ c events p q indexes. q indexes ∙ ap (λ n. take limit (filter (is_at_after (Some w.device) n) c.events)) is
    ∙ ap (λ o. watched_by o c.events number limit) (sym there ∙ p))

-- by what is indexed
pub page_recorded : (old new : State) (recorded : Option Index) (index : Index) (monitor number limit : ℕ) (r : Result (Vec Event Global) Error)
    → recorded ≡ Some index
    → Finds old new r (IsIndexedPageOf index monitor number limit)
    → Finds old new r (λ c events. IsIndexOf recorded c.events → events.items ≡ events_of_monitor c monitor number limit)
page_recorded old new recorded index monitor number limit r is h =
    subst (λ (o : Option Index). Finds old new r (λ c events. IsIndexOf o c.events → events.items ≡ events_of_monitor c monitor number limit)) (sym is) h

pub page_unrecorded : (old new : State) (recorded : Option Index) (monitor number limit : ℕ) (r : Result (Vec Event Global) Error)
    → Finds old new r (λ c events. events.items ≡ events_of_monitor c monitor number limit)
    → Finds old new r (λ c events. IsIndexOf recorded c.events → events.items ≡ events_of_monitor c monitor number limit)
page_unrecorded old new recorded monitor number limit r =
    finds_so old new r (λ (c : Content) (events : Vec Event Global). events.items ≡ events_of_monitor c monitor number limit)
    (λ (c : Content) (events : Vec Event Global). IsIndexOf recorded c.events → events.items ≡ events_of_monitor c monitor number limit)
    (λ c held events is n. is)

-- what was indexed before, what is indexed next, and a page by that
module _ (old mid new : State) (before took next : Option Index) (monitor number limit : ℕ) (taken : took ≡ before)
    (first : HasRead {A = Option Index} old mid (Ok next) (λ c n. IsIndexOf took c.events → IsIndexOf n c.events)) where
  pub page_next : (r : Result (Vec Event Global) Error)
      → Finds mid new r (λ c events. IsIndexOf next c.events → events.items ≡ events_of_monitor c monitor number limit)
      → HasRead old new r (λ c events. IsIndexOf before c.events → events.items ≡ events_of_monitor c monitor number limit)
  page_next r second =
      reads_two old mid new next r (λ (c : Content) (n : Option Index). IsIndexOf took c.events → IsIndexOf n c.events)
      (λ (c : Content) (events : Vec Event Global). IsIndexOf next c.events → events.items ≡ events_of_monitor c monitor number limit)
      (λ (c : Content) (events : Vec Event Global). IsIndexOf before c.events → events.items ≡ events_of_monitor c monitor number limit) first
      (λ c events p q n. q (p (subst (λ (o : Option Index). IsIndexOf o c.events) (sym taken) n)))
      (reads_after mid mid new r
      (λ (c : Content) (events : Vec Event Global). IsIndexOf next c.events → events.items ≡ events_of_monitor c monitor number limit) (quiet_still mid)
      first.up (λ k db left. left) second)

  pub next_recorded : (HasCleanDisk new → HasCleanDisk mid) → HasCleanDisk new → (c : Content) → HoldsContent old c → IsIndexOf before c.events
      → IsIndexOf next c.events
  next_recorded clean k c held n = first.value (clean k) c held (subst (λ (o : Option Index). IsIndexOf o c.events) (sym taken) n)

pub page_never : (old new : State) (before took : Option Index) (monitor number limit : ℕ) (e : Error) (r : Result (Vec Event Global) Error) → r ≡ Err e
    → HasRead {A = Option Index} old new (Err e) (λ c n. IsIndexOf took c.events → IsIndexOf n c.events)
    → HasRead old new r (λ c events. IsIndexOf before c.events → events.items ≡ events_of_monitor c monitor number limit)
page_never old new before took monitor number limit e r is h =
    subst
    (λ (r : Result (Vec Event Global) Error). HasRead old new r
    (λ c events. IsIndexOf before c.events → events.items ≡ events_of_monitor c monitor number limit))
    (sym is)
    (reads_fail old new e (λ (c : Content) (n : Option Index). IsIndexOf took c.events → IsIndexOf n c.events)
    (λ (c : Content) (events : Vec Event Global). IsIndexOf before c.events → events.items ≡ events_of_monitor c monitor number limit) h)
