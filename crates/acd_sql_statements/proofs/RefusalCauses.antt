-- Why a part of a commit isn't written.
use Rattle.std.proofs.Common.{◌≡◌, inl, inr, ℕ, ◌<◌, List, length, get_or, Option, Result, Ok, Err, IsTrue, IfErr, OnOk, sym, ap, subst, ◌∙◌, arith}
use Rattle.std.proofs.lemmas.Grind.{common_steps}
use Rattle.sqlite_value.specs.Order.{Row}
use Rattle.sqlite.specs.declared.error.Error.{Error}
use Rattle.sqlite.specs.State.{State, HasCleanDisk, Executes}
use Rattle.acd_terms.specs.declared.record.ConnectionRecord.{ConnectionRecord}
use Rattle.acd_sql_columns.specs.Descriptions.{Description, after_key}
use Rattle.acd_sql_columns.specs.Transactions.{HoldsUncommitted, Works}
use Rattle.acd_sql_columns.specs.Relations.{Relations}
use Rattle.acd_sql_columns.specs.Rows.{connection_values}
use Rattle.acd_sql_columns.specs.Schema.{book_schema}
use Rattle.acd_sql_columns.specs.declared.texts.TheConstants.{UPDATE_CONNECTION}
use Rattle.acd_sql_columns.proofs.FileTables.Connections.{after_none}
use Rattle.acd_sql_columns.proofs.Writes.Common.{inert}
use Rattle.acd_sql_columns.proofs.FileTables.DescribedTable.{Described, Updates, by_first, columns_given}
use Rattle.acd_sql_columns.proofs.Writes.Statements.{inert_works}
use Rattle.acd_sql_columns.proofs.Writes.Updates.{Updating}
use Rattle.acd_sql_columns.proofs.Writes.Sets.{set_none}
use Rattle.acd_sql_statements.specs.StoreFailures.{FailsToWrite}
use Rattle.acd_sql_statements.specs.WriteRefusals.{RefusesOn, FailsToLeave, HasWriteCause}
use Rattle.acd_sql_statements.proofs.Failures.{failed_after}

-- nothing is said of a success where there was none
pub unless_ok : {A : Type 0} (P : Type 0) (e : Error) (r : Result A Error) → r ≡ Err e → OnOk r P
unless_ok {A} P e r is = subst (λ (r : Result A Error). OnOk r P) (sym is) tt

-- ---- one statement

module _ (old new : State) (sql : List ℕ) (params : Row) where
  pub refused_on : (e : Error) (r : Relations) → HoldsUncommitted old r → FailsToWrite old new sql params e → FailsToLeave (RefusesOn sql params) r old new e
  refused_on e r d (inl memory) = inl memory
  refused_on e r d (inr (inl failed)) = inr (inl failed)
  refused_on e r d (inr (inr refused)) = inr (inr (record { database = old.now; schema = d.schema; tables = d.tables; refuses = refused }))

  pub by_one : {A : Type 0} (result : Result A Error) → (HasCleanDisk new → IsTrue old.in_transaction → IfErr result (FailsToWrite old new sql params))
      → HasWriteCause (RefusesOn sql params) old new result
  by_one (Ok x) h = λ clean r d. tt
  by_one (Err e) h = λ clean r d. refused_on e r d (h clean d.inside)

-- ---- what is said of one failure is said of another

-- of each view before something holds, where the disk is clean
abbrev pub IsKnown : State → State → (Relations → Type 0) → Type 0
IsKnown old new Is = HasCleanDisk new → (r : Relations) → HoldsUncommitted old r → Is r

module _ (old new : State) where
  -- the same error in an answer of another kind
  pub by_same : {B : Type 0} (R : Option ℕ → Relations → Type 0) (e : Error) (result : Result B Error) → result ≡ Err e
      → (HasCleanDisk new → (r : Relations) → HoldsUncommitted old r → FailsToLeave R r old new e) → HasWriteCause R old new result
  by_same R e result is h = λ clean r d. subst (λ b. IfErr b (FailsToLeave R r old new)) (sym is) (h clean r d)

  -- where something more is known of the view
  pub by_known : {A : Type 0} (Is : Relations → Type 0) (P Q : Option ℕ → Relations → Type 0) (result : Result A Error)
      → IsKnown old new Is → ((limit : Option ℕ) (r : Relations) → Is r → P limit r → Q limit r) → HasWriteCause P old new result → HasWriteCause Q old new result
  by_known Is P Q (Ok x) known so h = λ clean r d. tt
  by_known Is P Q (Err e) known so h = λ clean r d. each r (known clean r d) (h clean r d)
    where
      each : (r : Relations) → Is r → FailsToLeave P r old new e → FailsToLeave Q r old new e
      each r is (inl memory) = inl memory
      each r is (inr (inl failed)) = inr (inl failed)
      each r is (inr (inr p)) = inr (inr (so old.step_limit r is p))

  pub by_more : {A : Type 0} (P Q : Option ℕ → Relations → Type 0) (result : Result A Error) → ((limit : Option ℕ) (r : Relations) → P limit r → Q limit r)
      → HasWriteCause P old new result → HasWriteCause Q old new result
  by_more P Q result so = by_known (λ r. Unit {0}) P Q result (λ clean r d. tt) (λ limit r known p. so limit r p)

-- after what was written before
pub by_later : {A : Type 0} (old mid new : State) (change : Relations → Relations) (Q : Option ℕ → Relations → Type 0) (result : Result A Error) → Works old mid
    → Works mid new
    → IsKnown old mid (λ r. HoldsUncommitted mid (change r)) → HasWriteCause Q mid new result
    → HasWriteCause (λ limit r. Q limit (change r)) old new result
by_later old mid new change Q (Ok x) first second made h = λ clean r d. tt
by_later old mid new change Q (Err e) first second made h =
    λ clean r d. let middle : HasCleanDisk mid = omega (arith, clean, second.survives.clean) in each r middle (h clean (change r) (made middle r d))
  where
    each : (r : Relations) → HasCleanDisk mid → FailsToLeave Q (change r) mid new e → FailsToLeave (λ limit r. Q limit (change r)) r old new e
    each r middle (inl memory) = inl memory
    each r middle (inr (inl failed)) = inr (inl (failed_after old mid new first.survives middle second.survives.counts failed))
    each r middle (inr (inr q)) = inr (inr (subst (λ limit. Q limit (change r)) first.survives.limit q))

-- ---- an UPDATE that changed no row

updating : {R : Type 0} (d : Description R) (f : Described d) (text : List ℕ) → Updates d text → Updating book_schema text
updating d f text u = record {
  at = d.place;
  layout = d.layout;
  terms = by_first;
  project = columns_given (after_key d);
  place = ap (λ t. t.0) f.computes;
  command = u.updates;
  plain = u.plain;
  inert = inert_works book_schema inert d.layout.tree;
}

pub still_uncommitted : {R : Type 0} (d : Description R) (f : Described d) (text : List ℕ) (u : Updates d text) (x : R) (r : Relations) (old mid : State)
    (none : ℕ)
    → HoldsUncommitted old r → Executes text (d.values x) old mid (Ok none) → none ≡ 0 → HoldsUncommitted mid r
unfolding updating
still_uncommitted d f text u x r old mid none uncommitted ran missed =
    let still = set_none book_schema text (updating d f text u) (d.values x) old mid none uncommitted.schema ran missed in
    let held = f.held r old.now.trees uncommitted.tables in
    subst (HoldsUncommitted mid) (f.unchanged r) (record {
      inside = still.mode ∙ uncommitted.inside;
      schema = still.schema_is;
      sound = still.sound;
      tables = f.framed (d.records r) (old.now.trees d.layout.tree) old.now.trees mid.now.trees r held.0 held.1 still.rows_are still.others uncommitted.tables;
    })

pub still_connected : (x : ConnectionRecord) (r : Relations) (old mid : State) (none : ℕ) → HoldsUncommitted old r
    → Executes UPDATE_CONNECTION.now (connection_values x) old mid (Ok none) → none ≡ 0 → HoldsUncommitted mid r
still_connected x r old mid none uncommitted ran missed = after_none x (λ r. r) old mid mid none (Ok tt) ran missed (λ r d. d) r uncommitted

-- ---- further groups, one after the other

pub any_default : (xs : List ℕ) (i d e : ℕ) → i < length xs → get_or xs i d ≡ get_or xs i e
any_default xs i d e low = grind (arith, common_steps)
