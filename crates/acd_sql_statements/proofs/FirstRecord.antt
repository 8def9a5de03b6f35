-- The first of the records that pass.
use Rattle.std.proofs.Common.{◌≡◌, ℕ, nat_lt, List, [], ◌∷◌, map, filter, find, take, max, Bool, true, false, cond, Option, Some, None, Result, Ok, Err, IfOk, IfSome, refl, sym, ap, ◌∙◌}
use Rattle.std.specs.Prelude.{Vec, option_to_list}
use Rattle.std.specs.declared.alloc.Global.{Global}
use Rattle.sqlite_value.specs.Order.{Row}
use Rattle.sqlite.specs.declared.error.Error.{Error}
use Rattle.sqlite.specs.State.{State}
use Rattle.acd_terms.specs.Lists.{Every, find_by}
use Rattle.acd_terms.specs.declared.event.Event.{Event}
use Rattle.acd_terms.specs.declared.record.MonitorRecord.{MonitorRecord}
use Rattle.acd_model.specs.Scans.{at_monitor, monitor_of}
use Rattle.acd_book.specs.Content.{Content, is_at_after, watched_by, events_of_monitor, records_after}
use Rattle.acd_book.specs.declared.kept.Kept.{Kept}
use Rattle.acd_sql_columns.specs.declared.tables.Table.TheVariants as table
use Rattle.acd_sql_columns.specs.Rows.{IsReadable, monitor_values}
use Rattle.acd_sql_columns.specs.Transactions.{HoldsContent}
use Rattle.acd_sql_columns.specs.ReadResults.{Finds}
use Rattle.acd_sql_columns.specs.Ranges.{monitor_of_row}
use Rattle.acd_sql_statements.proofs.ReadsInTurn.{finds_on, finds_after}
use Rattle.acd_sql_columns.proofs.Rows.Records.{monitor_exact}
use Rattle.acd_lemmas.proofs.Lists.{head_is, every-take, every-filter}

module _ {R : Type 0} (in_row : Row → Option R) (values : R → Row) (IsGood : R → Type 0)
    (exact : (row : Row) (x y : R) → IsGood y → in_row row ≡ Some x → row ≡ values y → x ≡ y) where
  same_one : (found one : Option R) (rows : List Row) → IfSome one IsGood → rows ≡ map values (option_to_list one)
      → map Some (option_to_list found) ≡ map in_row (take 1 rows) → found ≡ one
  same_one None None rows good are read = refl
  same_one None (Some y) rows good are read = absurd (let k = read ∙ ap (λ l. map in_row (take 1 l)) are in cc)
  same_one (Some x) None rows good are read = absurd (let k = read ∙ ap (λ l. map in_row (take 1 l)) are in cc)
  same_one (Some x) (Some y) rows good are read =
      let each = read ∙ ap (λ l. map in_row (take 1 l)) are in
      ap Some (exact (values y) x y good (sym (head_is (Some x) (in_row (values y)) [] [] each)) refl)

  pub first_recorded : (old new : State) (rows : Vec Row Global) (r : Result (Option R) Error) (part : Content → Option R)
      → ((c : Content) → HoldsContent old c → IfSome (part c) IsGood)
      → Finds {E = Error} old new (Ok rows) (λ c rows. rows.items ≡ map values (option_to_list (part c)))
      → IfOk r (λ found. map Some (option_to_list found) ≡ map in_row (take 1 rows.items)) → Finds old new r (λ c found. found ≡ part c)
  first_recorded old new rows (Err e) part good h read = record { up = λ k. tt; quiet = h.quiet; stops = h.stops; answer = λ k. tt }
  first_recorded old new rows (Ok found) part good h read = record {
    up = h.up;
    quiet = h.quiet;
    stops = h.stops;
    answer = λ k c held. same_one found (part c) rows.items (good c held) (h.answer k c held) read;
  }

pub any : {X : Type 0} (o : Option X) → IfSome o (λ _. Unit {0})
any None = tt
any (Some x) = tt

-- ---- kept records

found_every : {X : Type 0} (P : X → Type 0) (p : X → Bool) (xs : List X) → Every P xs → IfSome (find p xs) P
found_every P p [] h = tt
found_every P p (x ∷ xs) h = elim (p x) as (λ t. IfSome (cond t (Some x) (find p xs)) P) [ true ↦ h.0 | false ↦ found_every P p xs h.1 ]

pub found_readable : (s : State) (p : Kept → Bool) (c : Content) → HoldsContent s c → IfSome (find p c.kept) IsReadable
found_readable s p c held = found_every IsReadable p c.kept (held.encodes table.Kept).1

pub page_readable : (s : State) (stamp limit : ℕ) (c : Content) → HoldsContent s c → Every IsReadable (records_after c.kept stamp limit)
page_readable s stamp limit c held =
    every-take IsReadable limit (filter (λ (k : Kept). nat_lt stamp k.stamp) c.kept)
    (every-filter IsReadable (λ (k : Kept). nat_lt stamp k.stamp) c.kept (held.encodes table.Kept).1)

-- ---- a monitor

-- among all of them
pub monitor_listed : (old new : State) (n : ℕ) (monitors : Vec MonitorRecord Global) (o : Option MonitorRecord)
    → Finds {E = Error} old new (Ok monitors) (λ c monitors. monitors.items ≡ c.rows.monitors)
    → o ≡ find_by (at_monitor n) monitors.items → Finds {E = Error} old new (Ok o) (λ c found. found ≡ monitor_of c.rows n)
unfolding monitor_of
monitor_listed old new n monitors o h is =
    finds_on old new monitors (Ok o) (λ (c : Content) (m : Vec MonitorRecord Global). m.items ≡ c.rows.monitors)
    (λ (c : Content) (f : Option MonitorRecord). f ≡ find_by (at_monitor n) c.rows.monitors) h
    (λ c same. is ∙ ap (find_by (at_monitor n)) same)

-- by its row
pub monitor_first : (old new : State) (n : ℕ) (rows : Vec Row Global) (r : Result (Option MonitorRecord) Error)
    → Finds {E = Error} old new (Ok rows) (λ c rows. rows.items ≡ map monitor_values (option_to_list (monitor_of c.rows n)))
    → IfOk r (λ found. map Some (option_to_list found) ≡ map monitor_of_row (take 1 rows.items)) → Finds old new r (λ c found. found ≡ monitor_of c.rows n)
monitor_first old new n rows r h read =
    first_recorded monitor_of_row monitor_values (λ _. Unit {0}) (λ row x y good is stored. monitor_exact row x y is stored) old new rows r
    (λ (c : Content). monitor_of c.rows n) (λ c held. any (monitor_of c.rows n)) h read

-- its events
pub watched : (old mid new : State) (monitor number above limit : ℕ) (o : Option MonitorRecord) (w : MonitorRecord) (r : Result (Vec Event Global) Error)
    → o ≡ Some w → Finds {E = Error} old mid (Ok o) (λ c found. found ≡ monitor_of c.rows monitor)
    → above ≡ max number w.after_event → Finds mid new r (λ c events. events.items ≡ take limit (filter (is_at_after (Some w.device) above) c.events))
    → Finds old new r (λ c events. events.items ≡ events_of_monitor c monitor number limit)
watched old mid new monitor number above limit o w r there h is =
    finds_after old mid new o r (λ (c : Content) (found : Option MonitorRecord). found ≡ monitor_of c.rows monitor)
    (λ (c : Content) (events : Vec Event Global). events.items ≡ take limit (filter (is_at_after (Some w.device) above) c.events))
    (λ (c : Content) (events : Vec Event Global). events.items ≡ events_of_monitor c monitor number limit) h
    (λ c events p q. q ∙ ap (λ n. take limit (filter (is_at_after (Some w.device) n) c.events)) is
    ∙ ap (λ o. watched_by o c.events number limit) (sym there ∙ p))
