-- The new tables after the nine, and the new version, inside a transaction and after it.
use Rattle.std.proofs.Common.{◌≡◌, ◌≢◌, ◌≤◌, inl, inr, List, [], ◌∷◌, ◌++◌, false, Result, Ok, Err, IsTrue, OnOk, OnErr, IfErr, refl, sym, ap, subst, ◌∙◌}
use Rattle.sqlite_value.specs.Order.{Row}
use Rattle.sqlite_trees.specs.Tree.{Trees}
use Rattle.sqlite.specs.declared.error.Error.{Error}
use Rattle.sqlite.specs.Effect.{Database}
use Rattle.sqlite.specs.State.{State, HasCleanDisk, KeepsCommit, KeepsCounts, Shows, Survives}
use Rattle.sqlite.specs.Steps.{FailsToCommit}
use Rattle.acd_sql_columns.specs.declared.tables.Table.{Table}
use Rattle.acd_sql_columns.specs.declared.tables.Table.TheVariants as table
use Rattle.acd_sql_columns.specs.declared.tables.Version.TheVariants as version
use Rattle.acd_sql_columns.specs.Content.{tree_of, IsIn}
use Rattle.acd_sql_columns.specs.SchemaSteps.{Builds, SetsSecondVersion}
use Rattle.acd_sql_columns.specs.Schema.{old_schema, book_schema}
use Rattle.acd_sql_columns.specs.Transactions.{Works}
use Rattle.acd_sql_columns.specs.declared.texts.TheConstants.{UPDATE_VERSION}
use Rattle.acd_sql_statements.specs.StoreFailures.{Refuses, FailsToWrite}
use Rattle.acd_sql_statements.proofs.Failures.{failed_after, failed_before}
use Rattle.acd_sql_schema.specs.Creation.{FailsToMake}
use Rattle.acd_sql_schema.specs.Migration.{AreBeside, FailsToMigrate, IsMigration, IsAltered, IsMade, IsRestored, MayAlter}

-- ---- rows

-- of each of the nine tables
abbrev pub rows_of : Trees → List (List Row)
rows_of db =
    db (tree_of table.Meta) ∷ db (tree_of table.Groups) ∷ db (tree_of table.Stations) ∷ db (tree_of table.Agents) ∷ db (tree_of table.Calls)
    ∷ db (tree_of table.Connections) ∷ db (tree_of table.Monitors) ∷ db (tree_of table.Events) ∷ db (tree_of table.Kept) ∷ []

pub old_builds : (old : State) → IsTrue old.in_transaction → old.now.schema ≡ old_schema → Builds old old_schema (rows_of old.now.trees)
old_builds old inside is = record { inside = inside; schema_is = is; rows_are = (refl, (refl, (refl, (refl, (refl, (refl, (refl, (refl, (refl, tt))))))))) }

-- ---- inside the transaction

module _ (old mid new : State) (b : Builds mid book_schema ((rows_of old.now.trees ++ [] ∷ []) ++ [] ∷ [])) (t : SetsSecondVersion mid new) where
  kept_as : (u : Table) → IsIn version.First u → tree_of u ≢ tree_of table.Meta → new.now.trees (tree_of u) ≡ old.now.trees (tree_of u)
  kept_as table.Meta here other = absurd (other refl)
  kept_as table.Groups here other = t.others.1.0 other ∙ b.rows_are.1.0
  kept_as table.Stations here other = t.others.1.1.0 other ∙ b.rows_are.1.1.0
  kept_as table.Agents here other = t.others.1.1.1.0 other ∙ b.rows_are.1.1.1.0
  kept_as table.Calls here other = t.others.1.1.1.1.0 other ∙ b.rows_are.1.1.1.1.0
  kept_as table.Connections here other = t.others.1.1.1.1.1.0 other ∙ b.rows_are.1.1.1.1.1.0
  kept_as table.Monitors here other = t.others.1.1.1.1.1.1.0 other ∙ b.rows_are.1.1.1.1.1.1.0
  kept_as table.Events here other = t.others.1.1.1.1.1.1.1.0 other ∙ b.rows_are.1.1.1.1.1.1.1.0
  kept_as table.Kept here other = t.others.1.1.1.1.1.1.1.1.0 other ∙ b.rows_are.1.1.1.1.1.1.1.1.0
  kept_as table.AgentGroups here other = absurd here
  kept_as table.GroupPriority here other = absurd here

  pub altered : IsAltered old new
  altered = record {
    inside = t.inside ∙ b.inside;
    schema_is = t.schema_is;
    tables = record {
      sound = t.sound;
      version_is = λ m is. t.version_is m (b.rows_are.0 ∙ is);
      kept = kept_as;
      further = t.others.1.1.1.1.1.1.1.1.1.0 (λ e. cc e) ∙ b.rows_are.1.1.1.1.1.1.1.1.1.0;
      priorities = t.others.1.1.1.1.1.1.1.1.1.1.0 (λ e. cc e) ∙ b.rows_are.1.1.1.1.1.1.1.1.1.1.0;
    };
  }

pub altered_if : (old mid new : State) (r : Result (Unit {0}) Error)
    → ((rows : List (List Row)) → Builds old old_schema rows → Builds mid book_schema ((rows ++ [] ∷ []) ++ [] ∷ []))
    → OnOk r (mid.now.schema ≡ book_schema → SetsSecondVersion mid new) → IsTrue old.in_transaction → old.now.schema ≡ old_schema → OnOk r (IsAltered old new)
altered_if old mid new (Err e) makes set inside is = tt
altered_if old mid new (Ok x) makes set inside is =
    let b = makes (rows_of old.now.trees) (old_builds old inside is) in altered old mid new b (set b.schema_is)

-- ---- after it

pub made_of : (old mid new : State) (r : Result (Unit {0}) Error) → IsAltered old mid
    → OnOk r (IsTrue mid.in_transaction × Shows mid new mid.now mid.now false × KeepsCounts mid new × (new.marks ≡ [])) → OnOk r (IsMade old new)
made_of old mid new (Err e) a ended = tt
made_of old mid new (Ok x) a ended = record {
  is_open = ended.1.is_open;
  idle = ended.1.now_is ∙ sym ended.1.committed_is;
  schema_is = ap (λ (d : Database). d.schema) ended.1.committed_is ∙ a.schema_is;
  tables = subst (λ (d : Database). IsMigration old.now.trees d.trees) (sym ended.1.committed_is) a.tables;
}

pub restored : (old mid new : State) (r : Result (Unit {0}) Error) → KeepsCommit old mid → IsAltered old mid → IfErr r (FailsToCommit mid new)
    → OnErr r (IsTrue new.is_open → IsRestored old new)
restored old mid new (Ok x) kept a fails = tt
restored old mid new (Err e) kept a fails = λ (up : IsTrue new.is_open). elim fails [
  | inl failed ↦
      let same = kept.committed (failed.3.was_open up) in
      record { now = (failed.3.undone up).0 ∙ same; committed = (failed.3.undone up).1 ∙ same }
  | inr late ↦ absurd (let e = sym a.inside ∙ late.1 in cc)
]

pub may_alter : (old begun mid new : State) → ((db : Trees) → begun.may_leave db → old.may_leave db) → Survives begun mid (λ _. ⊥)
    → Survives mid new (λ db. db ≡ mid.now.trees) → IsAltered old mid → HasCleanDisk mid → HasCleanDisk new
    → MayAlter old new
may_alter old begun mid new back first second a middle late db left = elim (second.crash late db left) [
  | inl was ↦ elim (first.crash middle db was) [ inl older ↦ inl (back db older) | inr none ↦ absurd none ]
  | inr made ↦ inr (subst (IsMigration old.now.trees) (sym made) a.tables)
]

-- nothing was begun that ends
pub still_stops : (old begun mid : State) → ((db : Trees) → begun.may_leave db → old.may_leave db) → Survives begun mid (λ _. ⊥) → HasCleanDisk mid
    → MayAlter old mid
still_stops old begun mid back first middle db left = elim (first.crash middle db left) [ inl older ↦ inl (back db older) | inr none ↦ absurd none ]

-- ---- why it isn't made

beside : (old : Trees) (mid : State) → Builds mid book_schema ((rows_of old ++ [] ∷ []) ++ [] ∷ []) → AreBeside old mid.now
beside old mid b = record { schema_is = b.schema_is; kept = each; further = b.rows_are.1.1.1.1.1.1.1.1.1.0; priorities = b.rows_are.1.1.1.1.1.1.1.1.1.1.0 }
  where
    each : (t : Table) → IsIn version.First t → mid.now.trees (tree_of t) ≡ old (tree_of t)
    each table.Meta here = b.rows_are.0
    each table.Groups here = b.rows_are.1.0
    each table.Stations here = b.rows_are.1.1.0
    each table.Agents here = b.rows_are.1.1.1.0
    each table.Calls here = b.rows_are.1.1.1.1.0
    each table.Connections here = b.rows_are.1.1.1.1.1.0
    each table.Monitors here = b.rows_are.1.1.1.1.1.1.0
    each table.Events here = b.rows_are.1.1.1.1.1.1.1.0
    each table.Kept here = b.rows_are.1.1.1.1.1.1.1.1.0
    each table.AgentGroups here = absurd here
    each table.GroupPriority here = absurd here

-- for a cause that tables aren't made
pub unmade : (old new : State) (e : Error) → FailsToMake old new e → FailsToMigrate old new e
unmade old new e (inl memory) = inl memory
unmade old new e (inr failed) = inr (inl failed)

version_refused : (old mid new : State) (e : Error) → Works old mid → HasCleanDisk mid → mid.faults ≤ new.faults
    → Builds mid book_schema ((rows_of old.now.trees ++ [] ∷ []) ++ [] ∷ []) → FailsToWrite mid new UPDATE_VERSION.now [] e → FailsToMigrate old new e
version_refused old mid new e w k counts b (inl memory) = inl memory
version_refused old mid new e w k counts b (inr (inl failed)) = inr (inl (failed_after old mid new w.survives k counts failed))
version_refused old mid new e w k counts b (inr (inr refused)) =
    inr (inr (mid.now, beside old.now.trees mid b, subst (λ l. Refuses l mid.now UPDATE_VERSION.now []) w.survives.limit refused))

pub version_refused_if : (old mid new : State) (r : Result (Unit {0}) Error) → Works old mid → HasCleanDisk mid → mid.faults ≤ new.faults
    → Builds mid book_schema ((rows_of old.now.trees ++ [] ∷ []) ++ [] ∷ []) → IfErr r (FailsToWrite mid new UPDATE_VERSION.now [])
    → IfErr r (FailsToMigrate old new)
version_refused_if old mid new (Ok x) w k counts b h = tt
version_refused_if old mid new (Err e) w k counts b h = version_refused old mid new e w k counts b h

pub still_unmade : (old mid new : State) (e : Error) → mid.faults ≤ new.faults → FailsToMigrate old mid e → FailsToMigrate old new e
still_unmade old mid new e counts (inl memory) = inl memory
still_unmade old mid new e counts (inr (inl failed)) = inr (inl (failed_before old mid new failed counts))
still_unmade old mid new e counts (inr (inr refused)) = inr (inr refused)

pub unmade_if : (old new : State) (r : Result (Unit {0}) Error) → IfErr r (FailsToMake old new) → IfErr r (FailsToMigrate old new)
unmade_if old new (Ok x) h = tt
unmade_if old new (Err e) h = unmade old new e h
