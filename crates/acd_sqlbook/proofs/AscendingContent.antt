-- The content of tables is in ascending number, from 1 on where each value is in its range.
use Rattle.std.proofs.Common.{◌≡◌, ◌==◌, ℕ, ◌<◌, nat_le, length, List, [], ◌∷◌, map, true, Some, refl, sym, subst, ◌∙◌, arith}
use Rattle.std.proofs.lemmas.Bool.Decides.{nat_tests}
use Rattle.std.specs.List.{AllByRecursion}
use Rattle.sqlite_value.specs.Order.{Row}
use Rattle.sqlite_trees.specs.Tree.{Trees}
use Rattle.acd_terms.specs.Lists.{AllAfter, IsAscending}
use Rattle.acd_terms.specs.declared.event.Event.{Event}
use Rattle.acd_book.specs.Content.{Content}
use Rattle.acd_book.specs.Memory.{stamp_of, number_of_event}
use Rattle.acd_book.specs.Order.{Rises, IsOrdered}
use Rattle.acd_book.specs.declared.kept.Kept.{Kept}
use Rattle.acd_sql_columns.specs.declared.tables.Table.TheVariants as table
use Rattle.acd_sql_columns.specs.AnyRows.{is_good}
use Rattle.acd_sql_columns.specs.InRange.{is_good_table, IsInRange}
use Rattle.acd_sql_columns.specs.Content.{Encodes}
use Rattle.acd_sql_columns.specs.Values.{at_least, whole_at, stamp_at}
use Rattle.acd_sql_columns.specs.Fields.{read_whole}
use Rattle.acd_sql_columns.specs.Ranges.{event_from, event_in, kept_in}
use Rattle.acd_sql_columns.specs.Rows.{event_fields, event_made, event_values, kept_values}
use Rattle.acd_sql_schema.proofs.Contents.{each_good, of_mapped}
use Rattle.acd_sql_columns.proofs.OneTable.KeyedRows.{by_key}
use Rattle.acd_sql_columns.proofs.FileTables.QueryResults.{all_so}
use Rattle.acd_sql_columns.proofs.Rows.ValuesInRange.{bound, guarded}
use Rattle.acd_lemmas.proofs.Numbers.{less_is}
use Rattle.acd_lemmas.proofs.Lists.{some_is, some_from}

-- ---- from 1 on

above_none : (n : ℕ) → nat_le 1 n ≡ true → 0 < n
above_none n h = grind (arith, nat_tests)

-- the number that was read as a stamp
stamp_above : (r : Row) (n m : ℕ) → stamp_at r 0 ≡ Some n → whole_at r 0 ≡ Some m → 0 < m
unfolding stamp_at
stamp_above r n m h is =
    let b = bound (whole_at r 0) (at_least 1) n h in
    subst (λ k. 0 < k) (some_is b.0 m (sym b.1 ∙ is)) (above_none b.0 (guarded (nat_le 1 b.0) (Some b.0) n b.2).0)

kept_above : (k : Kept) → is_good table.Kept (kept_values k) ≡ true → 0 < stamp_of k
unfolding kept_in
kept_above k good =
    let x = some_from (kept_in (kept_values k)) good in
    let w = guarded (length (kept_values k) == 7) _ x.0 x.1 in
    let stamp = bound _ _ x.0 w.1 in
    stamp_above (kept_values k) stamp.0 k.stamp stamp.1 refl

event_above : (e : Event) → is_good table.Events (event_values e) ≡ true → 0 < number_of_event e
unfolding event_in
event_above e good =
    let x = some_from (event_in (event_values e)) good in
    let values = bound (read_whole event_fields event_made (event_values e)) event_from x.0 x.1 in
    let w = guarded (length (event_values e) == 10) _ values.0 values.1 in
    let number = bound _ _ values.0 w.1 in
    stamp_above (event_values e) number.0 e.number number.1 refl

-- ---- ascending

module _ {T : Type 0} (number : T → ℕ) where
  rises_after : (x : T) (xs : List T) → AllAfter (by_key number) x xs → IsAscending (by_key number) xs → Rises number (number x) xs
  rises_after x [] after up = tt
  rises_after x (y ∷ ys) after up = (less_is (number x) (number y) after.0, rises_after y ys up.0 up.1)

  rises : (xs : List T) → AllByRecursion (λ x. 0 < number x) xs → IsAscending (by_key number) xs → Rises number 0 xs
  rises [] above up = tt
  rises (x ∷ xs) above up = (above.0, rises_after x xs up.0 up.1)

pub stored_ordered : (db : Trees) (c : Content) → Encodes db c → IsInRange c → IsOrdered c
unfolding is_good_table
stored_ordered db c is good = record {
  kept = rises stamp_of c.kept
      (all_so (λ k. is_good table.Kept (kept_values k) ≡ true) (λ k. 0 < stamp_of k) kept_above c.kept
      (of_mapped (λ r. is_good table.Kept r ≡ true) kept_values c.kept (each_good table.Kept (map kept_values c.kept) (good.tables table.Kept))))
      (is table.Kept).0.ascending;
  events = rises number_of_event c.events
      (all_so (λ e. is_good table.Events (event_values e) ≡ true) (λ e. 0 < number_of_event e) event_above c.events
      (of_mapped (λ r. is_good table.Events r ≡ true) event_values c.events (each_good table.Events (map event_values c.events) (good.tables table.Events))))
      (is table.Events).ascending;
}
