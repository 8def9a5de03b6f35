-- A query changes nothing, but that a failure may shut the connection.
use Rattle.std.proofs.Common.{◌⊎◌, inl, inr, ℕ, List, [], Result, Ok, Err, Option, Some, None, refl, sym, subst, ◌∙◌, IsTrue, IfOk, IfErr, OnOk, arith}
use Rattle.std.specs.Prelude.{Vec, codes}
use Rattle.std.specs.declared.alloc.Global.{Global}
use Rattle.sqlite_trees.specs.Tree.{Trees}
use Rattle.sqlite_value.specs.Order.{Row}
use Rattle.sqlite_schema.specs.declared.schema.Schema.{Schema}
use Rattle.sqlite_schema.specs.declared.command.Returning.{Returning}
use Rattle.sqlite_resolve.specs.declared.compiled.Compiled.{Compiled}
use Rattle.sqlite.specs.declared.error.Error.{Error}
use Rattle.sqlite.specs.Listing.{understood}
use Rattle.sqlite.specs.State.{State, HasCleanDisk, Survives, QueriesRow, FailsToQuery, FailsToShow, Shown, ShowsRows, IsUnchanged, IsRolledBack, IsNotRun}
use Rattle.sqlite.proofs.Callers.{IsPlain}
use Rattle.sqlite_tied.specs.Compute.{everything}
use Rattle.acd_sql_columns.specs.Schema.{book_schema}
use Rattle.acd_book.specs.Content.{Content}
use Rattle.acd_sql_columns.specs.Transactions.{HoldsContent, Quiet, NoStop}
use Rattle.acd_sql_columns.proofs.Writes.TransactionEnds.{holds_still, rolled_back}
use Rattle.acd_sql_columns.proofs.OneTable.Listings.{schema_is}

fails_show : (old new : State) (sql : List ℕ) (c : Compiled) (params : Row) (e : Error) (r : Option Returning) → FailsToShow old new sql c params e r
    → IsUnchanged old new ⊎ IsRolledBack old new
fails_show old new sql c params e None h = inl h.3
fails_show old new sql c params e (Some what) (inl refused) = inl refused.1
fails_show old new sql c params e (Some what) (inr failed) = inr failed.3

pub fails_query : (sql : List ℕ) (params : Row) (old new : State) (e : Error) → FailsToQuery sql params old new e → IsUnchanged old new ⊎ IsRolledBack old new
unfolding FailsToQuery IsNotRun
fails_query sql params old new e (inl (inl none)) = inl none.1
fails_query sql params old new e (inl (inr failed)) = inr failed.3
fails_query sql params old new e (inr ran) = fails_show old new sql ran.0 _ e ran.0.returning ran.2

shows_open : (old new : State) (sql : List ℕ) (c : Compiled) (params : Row) (rows : List Row) (r : Option Returning) → ShowsRows old new sql c params rows r
    → IsTrue old.is_open × IsTrue new.is_open
shows_open old new sql c params rows None h = (h.3.0.was_open, h.3.0.is_open)
shows_open old new sql c params rows (Some what) h = (h.1.shown.was_open, h.1.shown.is_open)

pub shown_open : (sql : List ℕ) (params : Row) (old new : State) (rows : List Row) → Shown sql params old new rows → IsTrue old.is_open × IsTrue new.is_open
unfolding Shown
shown_open sql params old new rows h = shows_open old new sql h.0 _ rows h.0.returning h.2

pub shown_same : (sql : List ℕ) (params : Row) (old new : State) (rows : List Row) → IsPlain (understood old.now.schema sql) → Shown sql params old new rows
    → IsUnchanged old new
unfolding Shown
shown_same sql params old new rows plain h =
    let none = (subst IsPlain h.1.is plain).0 in
    (subst (ShowsRows old new sql h.0 _ rows) none h.2).3

pub row_same : (sql : List ℕ) (params : Row) (old new : State) (row : Row) → IsPlain (understood old.now.schema sql) → QueriesRow sql params old new (Ok row)
    → IsUnchanged old new
unfolding QueriesRow
row_same sql params old new row plain (inl h) = h.1
row_same sql params old new row plain (inr h) = shown_same sql params old new h.0 plain h.1

holds_same : (old new : State) (c : Content) → IsUnchanged old new → HoldsContent old c → HoldsContent new c
holds_same old new c same h = holds_still old new c h same.0.is_open (same.0.now_is ∙ h.idle) same.0.committed_is

module _ (old new : State) {P : Trees → Type 0} (s : Survives old new P) where
  pub quiet_unchanged : (HasCleanDisk new → IsUnchanged old new) → Quiet old new
  quiet_unchanged same = record {
    clean = λ k. omega (arith, s.clean);
    was_open = λ k up. (same k).0.was_open;
    same = λ k c h up. holds_same old new c (same k) h;
  }

  pub quiet_failed : (HasCleanDisk new → IsUnchanged old new ⊎ IsRolledBack old new) → Quiet old new
  quiet_failed ends = record {
    clean = λ k. omega (arith, s.clean);
    was_open = λ k up. elim (ends k) [ inl same ↦ same.0.was_open | inr back ↦ back.was_open up ];
    same = λ k c h up. elim (ends k) [
      | inl same ↦ holds_same old new c same h
      | inr back ↦ rolled_back old old new c h (record { was_open = λ x. x; committed = λ x. refl }) back up
    ];
  }

  -- where nothing that it might commit is possible
  pub quiet_stops : HasCleanDisk new → ((db : Trees) → ¬ P db) → NoStop old new
  quiet_stops k never db left = elim (s.crash k db left) [ inl was ↦ was | inr made ↦ absurd (never db made) ]

pub plain_at : (sql : List ℕ) (old : State) (c : Content) → IsPlain (understood book_schema sql) → HoldsContent old c → IsPlain (understood old.now.schema sql)
plain_at sql old c plain h = subst (λ s. IsPlain (understood s sql)) (sym (schema_is old c h)) plain

-- all rows of an answer, or a failure
pub quiet_query : (sql : List ℕ) (params : Row) (old new : State) {P : Trees → Type 0} (r : Result (Vec Row Global) Error)
    → IsPlain (understood book_schema sql) → Survives old new P
    → (HasCleanDisk new → IfOk r (λ rows. Shown sql params old new rows.items)) → (HasCleanDisk new → IfErr r (FailsToQuery sql params old new)) → Quiet old new
quiet_query sql params old new (Err e) plain s ok err = quiet_failed old new s (λ k. fails_query sql params old new e (err k))
quiet_query sql params old new (Ok rows) plain s ok err = record {
  clean = λ k. omega (arith, s.clean);
  was_open = λ k up. (shown_open sql params old new rows.items (ok k)).0;
  same = λ k c h up. holds_same old new c (shown_same sql params old new rows.items (plain_at sql old c plain h) (ok k)) h;
}

pub row_fails : (sql : List ℕ) (params : Row) (old new : State) (e : Error) → IsPlain (understood old.now.schema sql) → QueriesRow sql params old new (Err e)
    → IsUnchanged old new ⊎ IsRolledBack old new
unfolding QueriesRow
row_fails sql params old new e plain (inl h) = fails_query sql params old new e h
row_fails sql params old new e plain (inr h) = inl (shown_same sql params old new [] plain h.1)

pub query_up : (sql : List ℕ) (params : Row) (old new : State) (r : Result (Vec Row Global) Error) → IfOk r (λ rows. Shown sql params old new rows.items)
    → OnOk r (IsTrue new.is_open)
query_up sql params old new (Err e) h = tt
query_up sql params old new (Ok rows) h = (shown_open sql params old new rows.items h).1

-- ---- a query that reads no table, under any schema

abbrev pub probe_text : List ℕ
probe_text = codes "SELECT 1"

pub probe_plain : (schema : Schema) → IsPlain (understood schema probe_text)
unfolding understood everything
probe_plain schema = (refl, refl)
