-- The index of a book that holds some events already: a pass through them, page by page.
use Rattle.std.proofs.Common.{◌≡◌, ℕ, zero, suc, ◌<◌, ◌≤◌, ◌==◌, length, Bool, true, false, nat_lt, List, [], ◌∷◌, ◌++◌, Option, None, Some, Result, Ok, Err, IsTrue, take, drop, refl, sym, ap, subst, ◌∙◌, arith, append_assoc, append-nil}
use Rattle.std.specs.Prelude.{Vec}
use Rattle.std.specs.Ordering.{nat_cmp}
use Rattle.std.specs.declared.alloc.Global.{Global}
use Rattle.std.proofs.lemmas.List.{take-append-drop}
use Rattle.sqlite.specs.declared.error.Error.{Error}
use Rattle.sqlite.specs.State.{State, HasCleanDisk}
use Rattle.acd_terms.specs.Lists.{Every, AllAfter}
use Rattle.acd_terms.specs.declared.event.Event.{Event}
use Rattle.acd_terms.specs.declared.rows.Rows.{Rows}
use Rattle.acd_lemmas.proofs.Numbers.{less_is, no_less, below_is, same_number}
use Rattle.acd_book.specs.Content.{Content, events_after}
use Rattle.acd_book.specs.Memory.{number_of_event}
use Rattle.acd_book.specs.Order.{Rises}
use Rattle.acd_book.specs.MonitorIndexes.{WatchesAfter}
use Rattle.acd_sql_columns.specs.Transactions.{Quiet, NoStop}
use Rattle.acd_sql_columns.specs.ReadResults.{Finds}
use Rattle.acd_sql_columns.proofs.Rows.RecordsOfRows.{found_none}
use Rattle.acd_sql_statements.specs.EventsByNumber.{IsOpenIfClean}
use Rattle.acd_sql_statements.proofs.ReadsInTurn.{quiet_still, finds_after, chained, broken, finds_on, finds_so}
use Rattle.acd_sqlbook.specs.Calls.{HasRead}
use Rattle.acd_sqlbook.specs.EventIndex.{Indexes, IsIndexOf, IndexGoesOn, BeginsIndex, last_of}
use Rattle.acd_sqlbook.specs.declared.index.Index.{Index}
use Rattle.acd_sqlbook.proofs.IndexedEvents.{Ascends, ascending}
use Rattle.acd_book.proofs.EventsAbove.{left_after}

-- ---- events up to a number, and those above it

ascend_rise : (e : Event) (events : List Event) → AllAfter (λ (a b : Event). nat_cmp a.number b.number) e events → Ascends events
    → Rises number_of_event e.number events
ascend_rise e [] after up = tt
ascend_rise e (x ∷ events) after up = (less_is e.number x.number after.0, ascend_rise x events up.0 up.1)

record Parts (n : ℕ) (events : List Event) : Type 0 where
  seen : List Event
  rest : List Event
  all : events ≡ seen ++ rest
  low : Every (λ (e : Event). e.number ≤ n) seen
  above : Rises number_of_event n rest

parted : (n : ℕ) (events : List Event) → Ascends events → Parts n events
parted n [] up = record { seen = []; rest = []; all = refl; low = tt; above = tt }
parted n (e ∷ events) up = by (nat_lt n e.number) refl (parted n events up.1)
  where
    by : (b : Bool) → nat_lt n e.number ≡ b → Parts n events → Parts n (e ∷ events)
    by true over p = record { seen = []; rest = e ∷ events; all = refl; low = tt; above = (below_is n e.number over, ascend_rise e events up.0 up.1) }
    by false under p = record {
      seen = e ∷ p.seen;
      rest = p.rest;
      all = ap (λ (l : List Event). e ∷ l) p.all;
      low = (no_less n e.number under, p.low);
      above = p.above;
    }

-- an index that watches from its last number on has begun
begins_at : (i : Index) (events : List Event) → WatchesAfter i.last i.watched → Ascends events → BeginsIndex i events
begins_at i events after up =
    let p = parted i.last events up in
    record { seen = p.seen; rest = p.rest; all = p.all; indexes = record { lists = after p.seen p.low; last = p.low }; above = p.above }

-- ---- a page of those that are left

page_front : (limit : ℕ) (i : Index) (page events : List Event) (b : BeginsIndex i events) → page ≡ events_after events i.last limit → page ≡ take limit b.rest
page_front limit i page events b is =
    is ∙ ap (λ (l : List Event). events_after l i.last limit) b.all ∙ left_after i.last limit b.seen b.rest b.indexes.last b.above

rises_left : (n last : ℕ) (events : List Event) → Rises number_of_event last events → Rises number_of_event (last_of last (take n events)) (drop n events)
rises_left zero last events up = up
rises_left (suc n) last [] up = tt
rises_left (suc n) last (e ∷ events) up = rises_left n e.number events up.1

goes_on : (limit : ℕ) (i next : Index) (page events : List Event) → BeginsIndex i events → page ≡ events_after events i.last limit → IndexGoesOn i page next
    → BeginsIndex next events
goes_on limit i next page events b is goes =
    let front = page_front limit i page events b is in
    record {
      seen = b.seen ++ page;
      rest = drop limit b.rest;
      all = b.all
          ∙ ap (λ (l : List Event). b.seen ++ l) (sym (take-append-drop limit b.rest))
          ∙ sym (append_assoc b.seen (take limit b.rest) (drop limit b.rest))
          ∙ ap (λ (l : List Event). (b.seen ++ l) ++ drop limit b.rest) (sym front);
      indexes = goes.of_both b.seen b.indexes;
      above = subst (λ (n : ℕ). Rises number_of_event n (drop limit b.rest)) (sym (goes.end ∙ ap (last_of i.last) front)) (rises_left limit i.last b.rest b.above);
    }

none_taken : (n : ℕ) (events : List Event) → 0 < n → [] ≡ take n events → events ≡ []
none_taken zero events some is = absurd (omega (arith, some))
none_taken (suc n) [] some is = refl
none_taken (suc n) (e ∷ events) some is = absurd (let apart = is in cc)

-- after an empty page it is of all
ends : (limit : ℕ) (i : Index) (events : List Event) → 0 < limit → BeginsIndex i events → [] ≡ events_after events i.last limit → Indexes i events
ends limit i events some b is =
    let none = none_taken limit b.rest some (page_front limit i [] events b is) in
    subst (Indexes i) (sym (b.all ∙ ap (λ (l : List Event). b.seen ++ l) none ∙ append-nil b.seen)) b.indexes

no_event : (events : List Event) → length events ≡ 0 → events ≡ []
no_event [] is = refl
no_event (e ∷ events) is = absurd (omega (arith, is))

pub nothing_in : (page : Vec Event Global) → (page.len == 0) ≡ true → page.items ≡ []
nothing_in page is = no_event page.items (omega (arith, page.ok.0, same_number page.len 0 is))

-- ---- over a connection

abbrev pub HasPassed : Index → Content → Index → Type 0
HasPassed begun c i = BeginsIndex begun c.events → BeginsIndex i c.events

abbrev HasIndexed : Index → Content → Option Index → Type 0
HasIndexed begun c recorded = BeginsIndex begun c.events → IsIndexOf recorded c.events

abbrev IsPageBeyond : ℕ → ℕ → Content → Vec Event Global → Type 0
IsPageBeyond last limit c events = events.items ≡ events_after c.events last limit

pub pass_begins : (s : State) (begun : Index) → IsOpenIfClean s → Finds {E = Error} s s (Ok begun) (HasPassed begun)
pass_begins s begun is_open = record { up = λ k. is_open k; quiet = quiet_still s; stops = λ k c held db left. left; answer = λ k c held b. b }

module _ (old mid new : State) (begun i : Index) (limit : ℕ) (first : Finds {E = Error} old mid (Ok i) (HasPassed begun)) where
  pub pass_more : (page : Vec Event Global) (next : Index) → IndexGoesOn i page.items next → Finds {E = Error} mid new (Ok page) (IsPageBeyond i.last limit)
      → Finds {E = Error} old new (Ok next) (HasPassed begun)
  pass_more page next goes =
      chained old mid new i (HasPassed begun) (IsPageBeyond i.last limit) first page next (HasPassed begun)
      (λ c p q b. goes_on limit i next page.items c.events (p b) q goes)

  pub pass_all : (page : Vec Event Global) → page.items ≡ [] → 0 < limit → Finds {E = Error} mid new (Ok page) (IsPageBeyond i.last limit)
      → Finds {E = Error} old new (Ok (Some i)) (HasIndexed begun)
  pass_all page none some =
      chained old mid new i (HasPassed begun) (IsPageBeyond i.last limit) first page (Some i) (HasIndexed begun)
      (λ c p q b. ends limit i c.events some (p b) (sym none ∙ q))

  pub pass_not : (page : Vec Event Global) → Finds {E = Error} mid new (Ok page) (IsPageBeyond i.last limit)
      → Finds {E = Error} old new (Ok None) (HasIndexed begun)
  pass_not page = chained old mid new i (HasPassed begun) (IsPageBeyond i.last limit) first page None (HasIndexed begun) (λ c p q b. tt)

  pub pass_fails : (e : Error) (r : Result (Option Index) Error) → r ≡ Err e → Finds {A = Vec Event Global} mid new (Err e) (IsPageBeyond i.last limit)
      → Finds old new r (HasIndexed begun)
  pass_fails e r is second =
      subst (λ (r : Result (Option Index) Error). Finds old new r (HasIndexed begun)) (sym is)
      (broken old mid new i (HasPassed begun) (IsPageBeyond i.last limit) first e (HasIndexed begun) second)

pub pass_cut : (old new : State) (begun i : Index) → Finds {E = Error} old new (Ok i) (HasPassed begun) → Finds {E = Error} old new (Ok None) (HasIndexed begun)
pass_cut old new begun i first = finds_on old new i (Ok None) (HasPassed begun) (HasIndexed begun) first (λ c p b. tt)

-- from the rows that say where it begins
pub begins : (old mid new : State) (rows : Rows) (begun : Index) (r : Result (Option Index) Error) → WatchesAfter begun.last begun.watched
    → Finds {E = Error} old mid (Ok rows) (λ c found. found ≡ c.rows)
    → (IsOpenIfClean mid → Finds mid new r (HasIndexed begun)) → Finds old new r (λ c recorded. IsIndexOf recorded c.events)
begins old mid new rows begun r after first second =
    finds_after old mid new rows r (λ (c : Content) (found : Rows). Ascends c.events) (HasIndexed begun)
    (λ (c : Content) (recorded : Option Index). IsIndexOf recorded c.events)
    (finds_so old mid (Ok rows) (λ (c : Content) (found : Rows). found ≡ c.rows) (λ (c : Content) (found : Rows). Ascends c.events)
    (λ c held found is. ascending old c held) first)
    (λ c recorded p q. q (begins_at begun c.events after p)) (second first.up)

pub begins_never : (old new : State) (e : Error) (r : Result (Option Index) Error) → r ≡ Err e → Finds {A = Rows} old new (Err e) (λ c found. found ≡ c.rows)
    → Finds old new r (λ c recorded. IsIndexOf recorded c.events)
begins_never old new e r is h =
    subst (λ (r : Result (Option Index) Error). Finds old new r (λ c recorded. IsIndexOf recorded c.events)) (sym is)
    (found_none old new e (λ (c : Content) (found : Rows). found ≡ c.rows) (λ (c : Content) (recorded : Option Index). IsIndexOf recorded c.events) h)

pub stays_recorded : (old mid : State) (recorded : Option Index) (index : Index) → recorded ≡ Some index → Quiet old mid
    → (HasCleanDisk mid → IsTrue mid.is_open) → (HasCleanDisk mid → NoStop old mid)
    → HasRead {A = Option Index} old mid (Ok (Some index)) (λ c next. IsIndexOf recorded c.events → IsIndexOf next c.events)
stays_recorded old mid recorded index is quiet live still = record {
  quiet = quiet;
  up = live;
  stops = λ k stands. still k;
  value = λ k c held n. subst (λ (o : Option Index). IsIndexOf o c.events) is n;
}

pub begins_anew : (old new : State) (recorded : Option Index) (r : Result (Option Index) Error) → Finds old new r (λ c next. IsIndexOf next c.events)
    → Finds old new r (λ c next. IsIndexOf recorded c.events → IsIndexOf next c.events)
begins_anew old new recorded r =
    finds_so old new r (λ (c : Content) (next : Option Index). IsIndexOf next c.events)
    (λ (c : Content) (next : Option Index). IsIndexOf recorded c.events → IsIndexOf next c.events) (λ c held next is n. is)
