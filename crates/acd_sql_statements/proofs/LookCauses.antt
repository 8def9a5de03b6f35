-- Why looks at a database fail, one after the other.
use Rattle.std.proofs.Common.{◌≡◌, inl, inr, ℕ, ◌≤◌, List, [], true, false, Option, Result, Ok, Err, IfErr, refl, sym, ap, subst, ◌∙◌, arith}
use Rattle.std.specs.Prelude.{Vec, IsSome, IsPermutation}
use Rattle.std.specs.Option.{is_some}
use Rattle.std.specs.declared.alloc.Global.{Global}
use Rattle.sqlite_trees.specs.Tree.{Trees}
use Rattle.sqlite_value.specs.Order.{Row}
use Rattle.sqlite.specs.declared.error.Error.{Error}
use Rattle.sqlite.specs.Effect.{Database}
use Rattle.sqlite.specs.State.{State, HasCleanDisk, Survives, FailsToQuery, QueriesRow}
use Rattle.acd_sql_columns.specs.declared.tables.Table.{Table}
use Rattle.acd_sql_columns.specs.AnyRows.{is_good, is_good_in, rows_in}
use Rattle.acd_sql_columns.specs.DatabaseView.{HasDatabase, Sees}
use Rattle.acd_sql_columns.proofs.FileTables.QueryResults.{bad_among}
use Rattle.acd_sql_columns.proofs.Results.Queries.{probe_text}
use Rattle.acd_sql_columns.proofs.Results.SnapshotReads.{sees_fail}
use Rattle.acd_sql_columns.proofs.FileTables.TableQueries.{finds_good}
use Rattle.acd_sql_statements.specs.StoreFailures.{IsMemory}
use Rattle.acd_sql_statements.specs.ReadFailures.{FailsToShow, FailsToDecode, RefusesToShow}
use Rattle.acd_sql_statements.specs.Looks.{HasLookCause, FailsToLook}
use Rattle.acd_sql_statements.proofs.ReadCauses.{query_failed, row_failed, probe_answered, read_spares, nothing_read, read_then}

-- ---- one query

module _ (sql : List ℕ) (params : Row) (old new : State) where
  looks : (d : Database) → HasDatabase old d → ¬ (RefusesToShow d sql params) → (e : Error) → FailsToShow old new sql params e → FailsToLook old new e
  looks d old_database never e (inl memory) = inl memory
  looks d old_database never e (inr (inl (inl more))) = inr (inl more)
  looks d old_database never e (inr (inl (inr shut))) = absurd (let apart = sym old_database.is_open ∙ shut in cc)
  looks d old_database never e (inr (inr (inl steps))) = inr (inr steps)
  looks d old_database never e (inr (inr (inr refused))) = absurd (never (subst (λ (x : Database). RefusesToShow x sql params) old_database.now refused))

  pub looks_query : {A : Type 0} {P : Trees → Type 0} (r : Result A Error) → Survives old new P → (old.in_transaction ≡ false → new.in_transaction ≡ false)
      → (HasCleanDisk new → IfErr r (FailsToQuery sql params old new)) → HasLookCause (λ d. ¬ (RefusesToShow d sql params)) old new r
  looks_query (Ok a) s idle fails = record { spares = read_spares s idle; cause = λ k d old_database never. tt }
  looks_query (Err e) s idle fails = record {
    spares = read_spares s idle;
    cause = λ k d old_database never. looks d old_database never e (query_failed sql params old new e (fails k));
  }

-- the query that reads no table
pub looks_probe : {A : Type 0} {P : Trees → Type 0} (Is : Database → Type 0) (old new : State) (e : Error) → Survives old new P
    → (old.in_transaction ≡ false → new.in_transaction ≡ false) → (HasCleanDisk new → QueriesRow probe_text [] old new (Err e))
    → HasLookCause {A = A} Is old new (Err e)
looks_probe Is old new e s idle fails = record {
  spares = read_spares s idle;
  cause = λ k d old_database any. looks probe_text [] old new d old_database (probe_answered d) e (row_failed old new e (fails k));
}

pub looks_none : {A : Type 0} {P : Trees → Type 0} (Is : Database → Type 0) (old new : State) (a : A) → Survives old new P
    → (old.in_transaction ≡ false → new.in_transaction ≡ false) → HasLookCause Is old new (Ok a)
looks_none Is old new a s idle = record { spares = read_spares s idle; cause = λ k d old_database any. tt }

-- ---- one after the other

pub looks_still : {A : Type 0} (Is : Database → Type 0) (s : State) (a : A) → HasLookCause Is s s (Ok a)
looks_still Is s a = record { spares = nothing_read s; cause = λ k d old_database any. tt }

module _ (Is Was : Database → Type 0) (so : (d : Database) → Is d → Was d) where
  pub looks_so : {A : Type 0} (old new : State) (r : Result A Error) → HasLookCause Was old new r → HasLookCause Is old new r
  looks_so old new r h = record { spares = h.spares; cause = λ k d old_database it. h.cause k d old_database (so d it) }

  pub looks_fail : {A B : Type 0} (old new : State) (e : Error) → HasLookCause {A = A} Was old new (Err e) → HasLookCause {A = B} Is old new (Err e)
  looks_fail old new e h = record { spares = h.spares; cause = λ k d old_database it. h.cause k d old_database (so d it) }

  -- as a `?` hands it on
  pub looks_as : {A B : Type 0} (old new : State) (e : Error) (r : Result B Error) → r ≡ Err e → HasLookCause {A = A} Was old new (Err e)
      → HasLookCause Is old new r
  looks_as old new e r is h = subst (HasLookCause Is old new) (sym is) (looks_fail old new e h)

  pub looks_done : {A B : Type 0} (old new : State) (a : A) (b : B) → HasLookCause Was old new (Ok a) → HasLookCause Is old new (Ok b)
  looks_done old new a b h = record { spares = h.spares; cause = λ k d old_database it. tt }

  -- the answer of a read is used for the next result
  pub looks_on : {A B : Type 0} (old new : State) (a : A) (r : Result B Error) → HasLookCause Was old new (Ok a)
      → (HasCleanDisk new → (d : Database) → HasDatabase old d → Is d → IfErr r (FailsToLook old new)) → HasLookCause Is old new r
  looks_on old new a r h on = record { spares = h.spares; cause = on }

later : {B : Type 0} (old mid new : State) (r : Result B Error) → old.faults ≤ mid.faults → mid.step_limit ≡ old.step_limit → IfErr r (FailsToLook mid new)
    → IfErr r (FailsToLook old new)
later old mid new (Ok b) counts limit h = tt
later old mid new (Err e) counts limit (inl memory) = inl memory
later old mid new (Err e) counts limit (inr (inl more)) = inr (inl (omega (arith, more, counts)))
later old mid new (Err e) counts limit (inr (inr steps)) = inr (inr (subst IsSome limit steps))

-- a look that failed sees nothing, also as a `?` hands it on
pub sees_as : {A B : Type 0} (d : Database) (old new : State) (e : Error) (r : Result B Error) → r ≡ Err e → (P : A → Type 0) (Q : B → Type 0)
    → Sees d old new (Err e) P → Sees d old new r Q
sees_as d old new e r is P Q seen = subst (λ r. Sees d old new r Q) (sym is) (sees_fail d old new e P Q seen)

-- each database of the one kind is of the other
abbrev pub Implies : (Database → Type 0) → (Database → Type 0) → Type 0
Implies Is Was = (d : Database) → Is d → Was d

-- a look at each of the kind sees this
abbrev pub SeesWhere : {A : Type 0} → (Database → Type 0) → State → State → Result A Error → (Database → A → Type 0) → Type 0
SeesWhere Is old new r IsAnswer = (d : Database) → Is d → Sees d old new r (IsAnswer d)

-- the second look is at what the first one saw
module _ {A B : Type 0} (Is First Next : Database → Type 0) (IsAnswer : Database → A → Type 0) (IsLast : Database → B → Type 0) where
  pub looks_then : (old mid new : State) (a : A) (r : Result B Error) → Implies Is First → HasLookCause First old mid (Ok a) → SeesWhere Is old mid (Ok a) IsAnswer
      → ((d : Database) → Is d → IsAnswer d a → Next d) → SeesWhere Is mid new r IsLast → HasLookCause Next mid new r → HasLookCause Is old new r
  looks_then old mid new a r so first seen is last next = record {
    spares = read_then first.spares next.spares;
    cause = λ k d old_database it.
        let m = (last d it).clean k in
        let saw = seen d it in
        later old mid new r first.spares.counts first.spares.limit
        (next.cause k d (saw.same m old_database (saw.up m old_database)) (is d it (saw.answer m old_database)));
  }

-- ---- rows that represent no record

-- of a table whose values are in their ranges each row represents one
module _ {R : Type 0} (in_row : Row → Option R) (t : Table) (decides : (row : Row) → is_good t row ≡ is_some (in_row row)) where
  decoded : {B : Type 0} (d : Database) (old new : State) (rows : Vec Row Global) (r : Result B Error) → HasCleanDisk new → HasDatabase old d
      → is_good_in t d.trees ≡ true
      → Sees d old new (Ok rows) (λ rows. IsPermutation (rows_in t d.trees) rows.items) → IfErr r (FailsToDecode in_row rows.items)
      → IfErr r (FailsToLook old new)
  decoded d old new rows (Ok b) k old_database good seen h = tt
  decoded d old new rows (Err e) k old_database good seen (inl memory) = inl memory
  decoded d old new rows (Err e) k old_database good seen (inr h) =
      let bad = bad_among t rows.items h.0 h.1 (decides h.0 ∙ ap is_some h.2) in
      let sees = finds_good t d old new rows (Ok false) (sym bad) seen in
      absurd (let apart = sym good ∙ (sees.answer k old_database).bad refl in cc)

  pub looks_decoded : {B : Type 0} (Is Was : Database → Type 0) (old new : State) (rows : Vec Row Global) (r : Result B Error)
      → Implies Is (λ d. is_good_in t d.trees ≡ true) → HasLookCause Was old new (Ok rows)
      → SeesWhere Is old new (Ok rows) (λ d rows. IsPermutation (rows_in t d.trees) rows.items) → IfErr r (FailsToDecode in_row rows.items)
      → HasLookCause Is old new r
  looks_decoded Is Was old new rows r good h seen fails = record {
    spares = h.spares;
    cause = λ k d old_database it. decoded d old new rows r k old_database (good d it) (seen d it) fails;
  }

-- ---- of the database that is there

pub looks_at : {A : Type 0} (Is Was : Database → Type 0) (old new : State) (r : Result A Error) → ((d : Database) → HasDatabase old d → Is d → Was d)
    → HasLookCause Was old new r → HasLookCause Is old new r
looks_at Is Was old new r so h = record { spares = h.spares; cause = λ k d old_database it. h.cause k d old_database (so d old_database it) }

-- nothing is asked of it, and memory lacks
pub looks_lacks : {A : Type 0} (Is : Database → Type 0) (s : State) (r : Result A Error) → IfErr r IsMemory → HasLookCause Is s s r
looks_lacks Is s (Ok a) lacks = looks_still Is s a
looks_lacks Is s (Err e) lacks = record { spares = nothing_read s; cause = λ k d old_database any. inl lacks }
