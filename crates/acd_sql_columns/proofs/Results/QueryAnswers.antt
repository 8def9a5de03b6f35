-- The result of each query.
use Rattle.std.proofs.Common.{◌≡◌, ℕ, ◌+◌, zero, suc, List, [], ◌∷◌, map, filter, take, find, nat_lt, ◌==◌, ◌&&◌, cond, Bool, true, false, Option, Some, None, refl, sym, ap, ap₂, ◌∙◌, arith}
use Rattle.std.specs.Prelude.{negsuc, pos, bytes_eq, option_to_list}
use Rattle.std.specs.Ordering.{is_eq, is_gt}
use Rattle.std.proofs.lemmas.Bool.Decides.{nat_tests}
use Rattle.std.proofs.lemmas.List.{take-map}
use Rattle.std.proofs.lemmas.Map.Text.{is_eq-slice_cmp}
use Rattle.sqlite_value.specs.declared.keys.Collation.TheVariants.{Binary}
use Rattle.sqlite_value.specs.declared.keys.Key.{Key}
use Rattle.sqlite_value.specs.declared.value.Value.TheVariants.{Int, Text}
use Rattle.sqlite_value.specs.Keys.{ascending}
use Rattle.sqlite_value.specs.Order.{Row, value_cmp}
use Rattle.sqlite_value.proofs.OrderLemmas.{value_cmp-Text}
use Rattle.sqlite_sql.specs.Ops.{binary, is_true, from_truth}
use Rattle.sqlite_sql.specs.Term.{Term, lit, col, op2}
use Rattle.sqlite_sql.specs.declared.ops.BinaryOp.TheVariants.{Compare}
use Rattle.sqlite_sql.specs.declared.ops.CompareOp.TheVariants.{Eq, Gt}
use Rattle.sqlite.specs.Listing.{understood}
use Rattle.sqlite.specs.State.{State, Shown}
use Rattle.sqlite.proofs.Callers.{IsPlain}
use Rattle.sqlite_tied.specs.Compute.{everything}
use Rattle.acd_terms.specs.declared.event.Event.{Event}
use Rattle.acd_terms.specs.declared.record.MonitorRecord.{MonitorRecord}
use Rattle.acd_terms.specs.Columns.{columns_of}
use Rattle.acd_model.specs.Scans.{monitor_of, has}
use Rattle.sqlite.specs.Values.{or_null}
use Rattle.acd_lemmas.proofs.State.{monitor_find}
use Rattle.acd_book.specs.Content.{Content, kept_of, is_key, is_at_after}
use Rattle.acd_book.specs.declared.kept.Kept.{Kept}
use Rattle.acd_sql_columns.specs.declared.tables.Table.TheVariants as table
use Rattle.acd_sql_columns.specs.Schema.{book_schema, tables_1, added_in_2 as both_new, names_of, further_columns}
use Rattle.acd_sql_columns.specs.Schema as schema
use Rattle.acd_sql_columns.specs.Values.{id_value}
use Rattle.acd_sql_columns.specs.Rows.{monitor_values, monitor_row, event_values, event_row, kept_values, kept_row}
use Rattle.acd_sql_columns.specs.Transactions.{HoldsContent}
use Rattle.acd_sql_columns.proofs.OneTable.KeyedRows.{id_cmp, id_tied}
use Rattle.acd_sql_columns.proofs.OneTable.Listings.{Listing, Lists, listed, held_begins, stored}
use Rattle.acd_sql_columns.proofs.Writes.Puts.{truth_back}
use Rattle.acd_sql_columns.specs.declared.texts.TheConstants.{SELECT_EVENTS_AT_DEVICE, SELECT_KEPT_OF_REQUEST, SELECT_MONITOR}

-- so many columns of a row, from one on
abbrev pub columns : ℕ → ℕ → List Term
columns start zero = []
columns start (suc more) = col 1 start ∷ columns (start + 1) more

-- in the order of the numbers of the rows, all of them
abbrev pub by_number : List (Term × Key)
by_number = (col 1 0, ascending Binary) ∷ []

abbrev pub no_limit : Term
no_limit = lit (Int (negsuc 0))

-- ---- tests

truth : (b : Bool) → is_true (from_truth (Some b)) ≡ b
truth true = refl
truth false = refl

-- two tests, of which the second is asked for first
both_tests : {a b : Bool} (p q : Bool) → p ≡ a → q ≡ b → (p && (q && true)) ≡ (b && a)
both_tests true true e f = ap₂ ◌&&◌ f e
both_tests true false e f = ap₂ ◌&&◌ f e
both_tests false true e f = ap₂ ◌&&◌ f e
both_tests false false e f = ap₂ ◌&&◌ f e

-- ---- those above a number

pub above : (n k : ℕ) → is_gt (value_cmp (id_value k) (id_value n)) ≡ nat_lt n k
above n k = ap is_gt (id_cmp k n) ∙ greater n k
  where
    greater : (n k : ℕ) → is_gt (Rattle.std.specs.Ordering.nat_cmp k n) ≡ nat_lt n k
    greater n k = grind (arith, nat_tests)

abbrev pub above_parameter : List Term
above_parameter = op2 (Compare Gt Binary) (col 1 0) (col 0 0) ∷ []

at_device : (o : Option ℕ) (device : ℕ) → is_true (binary (Compare Eq Binary) (or_null id_value o) (id_value device)) ≡ has o device
unfolding binary
at_device None device = refl
at_device (Some d) device = truth (is_eq (value_cmp (id_value d) (id_value device))) ∙ id_tied d device

events_at_listing : Listing tables_1 SELECT_EVENTS_AT_DEVICE.now
unfolding understood everything
events_at_listing = record {
  tree = schema.events_layout.tree;
  terms = op2 (Compare Gt Binary) (col 1 0) (col 0 0) ∷ op2 (Compare Eq Binary) (col 1 4) (col 0 1) ∷ [];
  project = col 1 0 ∷ columns 2 (further_columns schema.events_layout);
  order = by_number;
  limit = col 0 2;
  names = names_of schema.events_layout;
  command = λ rest s. refl;
  plain = λ rest s. (refl, refl);
  unlisted = λ rest s. refl;
}

events_at_lists : (device number limit : ℕ)
    → Lists SELECT_EVENTS_AT_DEVICE.now events_at_listing (λ (e : Event). e.number) event_row event_values
    (id_value number ∷ id_value device ∷ id_value limit ∷ []) (is_at_after (Some device) number)
unfolding events_at_listing binary
events_at_lists device number limit = record {
  keyed = λ e. refl;
  ranks = λ x y. refl;
  tests = λ e. both_tests _ _ (truth _ ∙ above number e.number) (at_device (columns_of e.report).device device);
  shows = λ e. refl;
}

pub events_at_plain : IsPlain (understood book_schema SELECT_EVENTS_AT_DEVICE.now)
events_at_plain = events_at_listing.plain both_new book_schema

pub shows_events_at : (device number limit : ℕ) (old new : State) (rows : List Row) (c : Content) → HoldsContent old c
    → Shown SELECT_EVENTS_AT_DEVICE.now (id_value number ∷ id_value device ∷ id_value limit ∷ []) old new rows
    → rows ≡ map event_values (take limit (filter (is_at_after (Some device) number) c.events))
unfolding events_at_listing
shows_events_at device number limit old new rows c held h =
    listed SELECT_EVENTS_AT_DEVICE.now events_at_listing _ event_row event_values (id_value number ∷ id_value device ∷ id_value limit ∷ [])
    (is_at_after (Some device) number) (events_at_lists device number limit) old new rows c.events (held_begins old c held)
    (stored table.Events old c held) h
    ∙ take-map event_values limit (filter (is_at_after (Some device) number) c.events)

-- ---- the one at a key

pub first_found : {X : Type 0} (p : X → Bool) (xs : List X) → take 1 (filter p xs) ≡ option_to_list (find p xs)
first_found p [] = refl
first_found p (x ∷ xs) = elim (p x) as (λ b. take 1 (cond b (x ∷ filter p xs) (filter p xs)) ≡ option_to_list (cond b (Some x) (find p xs))) [
  | true ↦ refl
  | false ↦ first_found p xs
]

monitor_listing : Listing tables_1 SELECT_MONITOR.now
unfolding understood everything
monitor_listing = record {
  tree = schema.monitors_layout.tree;
  terms = op2 (Compare Eq Binary) (col 1 0) (col 0 0) ∷ [];
  project = col 1 0 ∷ columns 2 (further_columns schema.monitors_layout);
  order = by_number;
  limit = lit (Int (pos 1));
  names = names_of schema.monitors_layout;
  command = λ rest s. refl;
  plain = λ rest s. (refl, refl);
  unlisted = λ rest s. refl;
}

monitor_lists : (n : ℕ)
    → Lists SELECT_MONITOR.now monitor_listing (λ (w : MonitorRecord). w.monitor) monitor_row monitor_values (id_value n ∷ []) (λ w. w.monitor == n)
unfolding monitor_listing binary
monitor_lists n = record { keyed = λ w. refl; ranks = λ x y. refl; tests = λ w. truth_back _ ∙ id_tied w.monitor n; shows = λ w. refl }

pub monitor_plain : IsPlain (understood book_schema SELECT_MONITOR.now)
monitor_plain = monitor_listing.plain both_new book_schema

pub shows_monitor : (n : ℕ) (old new : State) (rows : List Row) (c : Content) → HoldsContent old c → Shown SELECT_MONITOR.now (id_value n ∷ []) old new rows
    → rows ≡ map monitor_values (option_to_list (monitor_of c.rows n))
unfolding monitor_listing
shows_monitor n old new rows c held h =
    listed SELECT_MONITOR.now monitor_listing _ monitor_row monitor_values (id_value n ∷ []) (λ w. w.monitor == n) (monitor_lists n) old new rows
    c.rows.monitors (held_begins old c held) (stored table.Monitors old c held) h
    ∙ take-map monitor_values 1 (filter (λ (w : MonitorRecord). w.monitor == n) c.rows.monitors)
    ∙ ap (map monitor_values) (first_found (λ (w : MonitorRecord). w.monitor == n) c.rows.monitors ∙ ap option_to_list (sym (monitor_find c.rows n)))

pub text_tied : (s t : List ℕ) → is_eq (value_cmp (Text s) (Text t)) ≡ bytes_eq s t
text_tied s t = ap is_eq (value_cmp-Text s t) ∙ is_eq-slice_cmp s t

pub two : (a b : Bool) → (is_true (from_truth (Some a)) && (is_true (from_truth (Some b)) && true)) ≡ (a && b)
two true true = refl
two true false = refl
two false true = refl
two false false = refl

key_listing : Listing tables_1 SELECT_KEPT_OF_REQUEST.now
unfolding understood everything
key_listing = record {
  tree = schema.kept_layout.tree;
  terms = op2 (Compare Eq Binary) (col 1 2) (col 0 0) ∷ op2 (Compare Eq Binary) (col 1 3) (col 0 1) ∷ [];
  project = col 1 0 ∷ columns 2 (further_columns schema.kept_layout);
  order = by_number;
  limit = lit (Int (pos 1));
  names = names_of schema.kept_layout;
  command = λ rest s. refl;
  plain = λ rest s. (refl, refl);
  unlisted = λ rest s. refl;
}

key_lists : (requester : List ℕ) (invoke : ℕ)
    → Lists SELECT_KEPT_OF_REQUEST.now key_listing (λ (k : Kept). k.stamp) kept_row kept_values (Text requester ∷ id_value invoke ∷ [])
    (λ k. is_key requester invoke k.request)
unfolding key_listing binary
key_lists requester invoke = record {
  keyed = λ k. refl;
  ranks = λ x y. refl;
  tests = λ k. two _ _ ∙ ap₂ ◌&&◌ (text_tied k.request.requester requester) (id_tied k.request.invoke invoke);
  shows = λ k. refl;
}

pub key_plain : IsPlain (understood book_schema SELECT_KEPT_OF_REQUEST.now)
key_plain = key_listing.plain both_new book_schema

pub shows_kept_under : (requester : List ℕ) (invoke : ℕ) (old new : State) (rows : List Row) (c : Content) → HoldsContent old c
    → Shown SELECT_KEPT_OF_REQUEST.now (Text requester ∷ id_value invoke ∷ []) old new rows
    → rows ≡ map kept_values (option_to_list (kept_of c.kept requester invoke))
unfolding key_listing
shows_kept_under requester invoke old new rows c held h =
    listed SELECT_KEPT_OF_REQUEST.now key_listing _ kept_row kept_values (Text requester ∷ id_value invoke ∷ []) (λ k. is_key requester invoke k.request)
    (key_lists requester invoke) old new rows c.kept (held_begins old c held)
    (stored table.Kept old c held).0 h
    ∙ take-map kept_values 1 (filter (λ (k : Kept). is_key requester invoke k.request) c.kept)
    ∙ ap (map kept_values) (first_found (λ (k : Kept). is_key requester invoke k.request) c.kept)
