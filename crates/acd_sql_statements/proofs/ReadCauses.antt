-- Why reads fail, one after the other.
use Rattle.std.proofs.Common.{◌≡◌, ◌⊎◌, inl, inr, ℕ, ◌≤◌, pos, negsuc, List, [], ◌∷◌, map, false, Option, Some, None, Result, Ok, Err, IsTrue, IfErr, refl, sym, ap, subst, ◌∙◌, arith}
use Rattle.std.specs.Prelude.{Vec, IsSome, codes}
use Rattle.std.specs.List.Sorted.{IsPermutation}
use Rattle.std.specs.declared.alloc.Global.{Global}
use Rattle.std.proofs.lemmas.List.Sorted.{IsPermutation-map}
use Rattle.sqlite_trees.specs.Tree.{Trees}
use Rattle.sqlite_value.specs.declared.value.Value.TheVariants.{Null, Int}
use Rattle.sqlite_value.specs.Order.{Row}
use Rattle.sqlite_rules.specs.Lists.{Has}
use Rattle.sqlite_sql.specs.Term.{lit}
use Rattle.sqlite_sql.specs.Query.{Query, end, output, Output, IsAnswer}
use Rattle.sqlite_sql.specs.Program.{overlay, IsProgramAnswer}
use Rattle.sqlite_schema.specs.declared.schema.Schema.{Schema}
use Rattle.sqlite_schema.specs.declared.command.Command.{Command}
use Rattle.sqlite_schema.specs.declared.command.Command.TheVariants.{Select, Rows}
use Rattle.sqlite_schema.specs.declared.command.Returning.{Returning}
use Rattle.sqlite_resolve.specs.declared.compiled.Compiled.{Compiled}
use Rattle.sqlite_tied.specs.Compute.{everything}
use Rattle.sqlite.specs.declared.error.Error.{Error}
use Rattle.sqlite.specs.Clock.{timed}
use Rattle.sqlite.specs.Effect.{Database, RefusesToRead}
use Rattle.sqlite.specs.Listing.{understood, reads_listing}
use Rattle.sqlite.specs.State.{State, HasCleanDisk, Survives, FailsToQuery, FailsToShow as FailsToShowRows, Shown, IsStatement, QueriesRow}
use Rattle.sqlite.proofs.Callers.{command_of, reads_as, one_permutation}
use Rattle.acd_book.specs.Content.{Content}
use Rattle.acd_sql_columns.specs.declared.meta.Meta.{Meta}
use Rattle.acd_sql_columns.specs.declared.tables.Table.{Table}
use Rattle.acd_sql_columns.specs.declared.tables.Table.TheVariants as table
use Rattle.acd_sql_columns.specs.AnyRows.{is_good}
use Rattle.acd_sql_columns.specs.Transactions.{HoldsContent, Quiet}
use Rattle.acd_sql_columns.specs.ReadResults.{Finds}
use Rattle.acd_sql_columns.specs.Relations.{meta_of}
use Rattle.acd_sql_columns.specs.Rows.{meta_shown}
use Rattle.acd_sql_columns.proofs.OneTable.Listings.{schema_is}
use Rattle.acd_sql_columns.proofs.FileTables.QueryResults.{bad_among}
use Rattle.acd_sql_columns.proofs.Results.Queries.{probe_text, probe_plain}
use Rattle.acd_sql_columns.specs.InRange.{IsInRange, values_of, is_good_table}
use Rattle.acd_sql_statements.specs.StoreFailures.{IsMemory}
use Rattle.acd_sql_statements.specs.ReadFailures.{HasReadCauseIf, Spares, IsUnanswered, RefusesToShow, FailsToShow, IsAnswered, FailsToRead, HasReadCause}
use Rattle.acd_sql_statements.proofs.ReadTexts.{answered}
use Rattle.acd_sql_statements.proofs.Failures.{not_run}

-- ---- what a read spares

pub read_spares : {P : Trees → Type 0} {old new : State} → Survives old new P → (old.in_transaction ≡ false → new.in_transaction ≡ false) → Spares old new
read_spares s idle = record { counts = s.counts; limit = s.limit; idle = idle }

pub nothing_read : (s : State) → Spares s s
nothing_read s = record { counts = omega arith; limit = refl; idle = λ idle. idle }

pub read_then : {old mid new : State} → Spares old mid → Spares mid new → Spares old new
read_then first next = record {
  counts = omega (arith, first.counts, next.counts);
  limit = next.limit ∙ first.limit;
  idle = λ idle. next.idle (first.idle idle);
}

-- ---- one query

unanswered : (limit : Option ℕ) (k : Command) (db : Database) (params : Row) (e : Error) → RefusesToRead limit k db params e
    → IsSome limit ⊎ IsUnanswered k db params
unanswered limit (Select q names) db params e (inl typed) = inr (inl typed.1)
unanswered limit (Select q names) db params e (inr (inl over)) = inr (inr over.1)
unanswered limit (Select q names) db params e (inr (inr steps)) = inl steps.1
unanswered limit (Rows values width names) db params e h = inl h.1
unanswered limit _ db params e h = inr tt

module _ (sql : List ℕ) (params : Row) (old new : State) where
  shows : (e : Error) (c : Compiled) (it : IsStatement old sql params c) (r : Option Returning) → c.returning ≡ r
      → FailsToShowRows old new sql c (timed params c.formats it.now) e r
      → IsSome old.step_limit ⊎ RefusesToShow old.now sql params
  unfolding RefusesToShow
  shows e c it None none h = elim (unanswered old.step_limit c.command h.0 (timed params c.formats it.now) e h.2) [
    | inl steps ↦ inl steps
    | inr refused ↦ inr (inr (c, it.is, inr (it.now, h.0, h.1, refused)))
  ]
  shows e c it (Some what) is h = inr (inr (c, it.is, inl (what, is)))

  pub query_failed : (e : Error) → FailsToQuery sql params old new e → FailsToShow old new sql params e
  unfolding FailsToQuery RefusesToShow
  query_failed e (inl unrun) = elim (not_run old new sql params e unrun) [
    | inl memory ↦ inl memory
    | inr other ↦ elim other [ inl failed ↦ inr (inl failed) | inr unread ↦ inr (inr (inr (inl unread))) ]
  ]
  query_failed e (inr h) = inr (inr (shows e h.0 h.1 h.0.returning refl h.2))

  -- of a content
  read_failed : (c : Content) → HoldsContent old c → ¬ (RefusesToShow old.now sql params) → (e : Error) → FailsToShow old new sql params e
      → FailsToRead c old new e
  read_failed c held never e (inl memory) = inl memory
  read_failed c held never e (inr (inl (inl more))) = inr (inl more)
  read_failed c held never e (inr (inl (inr shut))) = absurd (let apart = sym held.is_open ∙ shut in cc)
  read_failed c held never e (inr (inr (inl steps))) = inr (inr (inl steps))
  read_failed c held never e (inr (inr (inr refused))) = absurd (never refused)

  pub cause_query : {A : Type 0} {P : Trees → Type 0} (r : Result A Error) → IsAnswered sql params → Survives old new P
      → (old.in_transaction ≡ false → new.in_transaction ≡ false) → (HasCleanDisk new → IfErr r (FailsToQuery sql params old new)) → HasReadCause old new r
  cause_query r answers s idle fails = record { spares = read_spares s idle; cause = λ k c held any. each r (fails k) c held }
    where
      each : {A : Type 0} (r : Result A Error) → IfErr r (FailsToQuery sql params old new) → (c : Content) → HoldsContent old c
          → IfErr r (FailsToRead c old new)
      each (Ok x) h c held = tt
      each (Err e) h c held = read_failed c held (answers old.now (schema_is old c held)) e (query_failed e h)

-- ---- the query that reads no table

abbrev one : Query
one = record {
  from = end;
  filter = [];
  group = None;
  project = lit (Int (pos 1)) ∷ [];
  distinct = false;
  collations = [];
  order = [];
  limit = lit (Int (negsuc 0));
  offset = lit (Int (pos 0));
}

probe_command : (s : Schema) → command_of (understood s probe_text) ≡ Select (record { lets = []; body = one }) (codes "1" ∷ [])
unfolding understood everything
probe_command s = refl

probe_unlisted : (s : Schema) → reads_listing s probe_text ≡ false
unfolding understood everything
probe_unlisted s = refl

pub probe_answered : (d : Database) → ¬ (RefusesToShow d probe_text [])
unfolding understood everything
probe_answered d = answered d.schema probe_text [] refl (refl, refl, refl, refl, (refl, refl, refl, refl)) d refl

-- it has one row
one_row : (db : Trees) (rows : List Row) → IsProgramAnswer [] one db [] rows → rows ≡ (Int (pos 1) ∷ []) ∷ []
one_row db rows h =
    let a : IsAnswer one (overlay db []) [] rows = h Null in
    let kept = a.distinct ∙ ap (map (output one)) a.grouped in
    let same = IsPermutation-map (λ (o : Output). o.1) _ a.ordered (subst (λ k. IsPermutation k a.ordered) kept a.same) in
    one_permutation (Int (pos 1) ∷ []) rows (subst (IsPermutation ((Int (pos 1) ∷ []) ∷ [])) (sym a.shown) same)

never_none : (old new : State) → Shown probe_text [] old new [] → ⊥
never_none old new h =
    let read =
    reads_as probe_text [] old new old.now.schema refl _ (probe_command old.now.schema) (probe_plain old.now.schema) (probe_unlisted old.now.schema) [] h in
    absurd (let apart = one_row old.now.trees [] read.answer in cc)

pub row_failed : (old new : State) (e : Error) → QueriesRow probe_text [] old new (Err e) → FailsToShow old new probe_text [] e
unfolding QueriesRow
row_failed old new e (inl h) = query_failed probe_text [] old new e h
row_failed old new e (inr h) = absurd (never_none old new h.1)

pub cause_probe : {A : Type 0} {P : Trees → Type 0} (old new : State) (e : Error) → Survives old new P
    → (old.in_transaction ≡ false → new.in_transaction ≡ false) → (HasCleanDisk new → QueriesRow probe_text [] old new (Err e))
    → HasReadCause {A = A} old new (Err e)
cause_probe old new e s idle fails = record {
  spares = read_spares s idle;
  cause = λ k c held any. read_failed probe_text [] old new c held (probe_answered old.now) e (row_failed old new e (fails k));
}

-- ---- one after the other

pub cause_none : {A : Type 0} {P : Trees → Type 0} (old new : State) (a : A) → Survives old new P → (old.in_transaction ≡ false → new.in_transaction ≡ false)
    → HasReadCause old new (Ok a)
cause_none old new a s idle = record { spares = read_spares s idle; cause = λ k c held any. tt }

pub cause_still : {A : Type 0} (s : State) (a : A) → HasReadCause s s (Ok a)
cause_still s a = record { spares = nothing_read s; cause = λ k c held any. tt }

pub cause_failed : {A B : Type 0} (old new : State) (e : Error) → HasReadCause {A = A} old new (Err e) → HasReadCause {A = B} old new (Err e)
cause_failed old new e h = record { spares = h.spares; cause = h.cause }

-- as a `?` hands it on
pub cause_as : {A B : Type 0} (old new : State) (e : Error) (r : Result B Error) → r ≡ Err e → HasReadCause {A = A} old new (Err e) → HasReadCause old new r
cause_as old new e r is h = subst (HasReadCause old new) (sym is) (cause_failed old new e h)

-- the answer of a read is used for the next result
pub cause_on : {A B : Type 0} (old new : State) (a : A) (r : Result B Error) → HasReadCause old new (Ok a)
    → (HasCleanDisk new → (c : Content) → HoldsContent old c → IfErr r (FailsToRead c old new)) → HasReadCause old new r
cause_on old new a r h on = record { spares = h.spares; cause = λ k c held any. on k c held }

pub cause_done : {A B : Type 0} (old new : State) (a : A) (b : B) → HasReadCause old new (Ok a) → HasReadCause old new (Ok b)
cause_done old new a b h = cause_on old new a (Ok b) h (λ k c held. tt)

-- a failure after what was read is one of the whole
later : (c : Content) (old mid new : State) (e : Error) → old.faults ≤ mid.faults → mid.step_limit ≡ old.step_limit → FailsToRead c mid new e
    → FailsToRead c old new e
later c old mid new e counts limit (inl memory) = inl memory
later c old mid new e counts limit (inr (inl more)) = inr (inl (omega (arith, more, counts)))
later c old mid new e counts limit (inr (inr (inl steps))) = inr (inr (inl (subst IsSome limit steps)))
later c old mid new e counts limit (inr (inr (inr bad))) = inr (inr (inr bad))

later_if : {B : Type 0} (c : Content) (old mid new : State) (r : Result B Error) → old.faults ≤ mid.faults → mid.step_limit ≡ old.step_limit
    → IfErr r (FailsToRead c mid new) → IfErr r (FailsToRead c old new)
later_if c old mid new (Ok x) counts limit h = tt
later_if c old mid new (Err e) counts limit h = later c old mid new e counts limit h

pub cause_after : {A B : Type 0} (old mid new : State) (a : A) (r : Result B Error) → HasReadCause old mid (Ok a) → Quiet old mid
    → (HasCleanDisk mid → IsTrue mid.is_open) → (HasCleanDisk new → HasCleanDisk mid) → HasReadCause mid new r → HasReadCause old new r
cause_after old mid new a r first quiet live clean next = record {
  spares = read_then first.spares next.spares;
  cause = λ k c held any. later_if c old mid new r first.spares.counts first.spares.limit (next.cause k c (quiet.same (clean k) c held (live (clean k))) any);
}

-- the second asks for what the first one's answer gives
pub cause_then : {A B : Type 0} (IsAnswer : Content → A → Type 0) (old mid new : State) (a : A) (r : Result B Error)
    → HasReadCause old mid (Ok a) → Finds {E = Error} old mid (Ok a) IsAnswer → Quiet mid new → HasReadCauseIf (λ c. IsAnswer c a) mid new r
    → HasReadCause old new r
cause_then IsAnswer old mid new a r first found quiet next = record {
  spares = read_then first.spares next.spares;
  cause = λ k c held any. let m = quiet.clean k in
      later_if c old mid new r first.spares.counts first.spares.limit (next.cause k c (found.quiet.same m c held (found.up m)) (found.answer m c held));
}

pub cause_given : {A : Type 0} (P : Content → Type 0) (old new : State) (r : Result A Error) → HasReadCause old new r → HasReadCauseIf P old new r
cause_given P old new r h = record { spares = h.spares; cause = λ k c held p. h.cause k c held tt }

-- the answers of reads are combined, where memory alone can lack
pub cause_memory : {A B : Type 0} (old new : State) (a : A) (r : Result B Error) → HasReadCause old new (Ok a) → IfErr r IsMemory → HasReadCause old new r
cause_memory old new a r h fails = cause_on old new a r h (λ k c held. each r c fails)
  where
    each : {B : Type 0} (r : Result B Error) (c : Content) → IfErr r IsMemory → IfErr r (FailsToRead c old new)
    each (Ok b) c h = tt
    each (Err e) c memory = inl memory

-- ---- values out of their ranges

pub bad_row : (t : Table) (c : Content) (row : Row) → Has (values_of t c) row → is_good t row ≡ false → ¬ (IsInRange c)
unfolding is_good_table
bad_row t c row has bad range = absurd (let apart = sym (bad_among t (values_of t c) row has bad) ∙ range.tables t in cc)

-- the limits and the counters
pub cause_meta : (old new : State) (rows : List Row) (a : Vec Row Global) (r : Result Meta Error) → HasReadCause old new (Ok a)
    → IfErr r (λ e. (m : Meta) → rows ≡ meta_shown m ∷ [] → is_good table.Meta (meta_shown m) ≡ false)
    → (HasCleanDisk new → (c : Content) → HoldsContent old c → rows ≡ meta_shown (meta_of c.rows) ∷ []) → HasReadCause old new r
cause_meta old new rows a (Ok found) h bad are = record { spares = h.spares; cause = λ k c held any. tt }
cause_meta old new rows a (Err e) h bad are = record {
  spares = h.spares;
  cause = λ k c held any. inr (inr (inr (bad_row table.Meta c (meta_shown (meta_of c.rows)) (inl refl) (bad (meta_of c.rows) (are k c held)))));
}
