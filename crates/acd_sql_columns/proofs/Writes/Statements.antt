-- The effect of a statement on the state of a connection, of any schema.
use Rattle.std.proofs.Common.{◌≡◌, ◌≢◌, ◌⊎◌, inl, inr, ℕ, ◌/◌, List, [], ◌∷◌, length, map, slice_get, Bool, true, false, Some, None, Option, Ok, Err, Result, IsTrue, IfOk, refl, sym, ap, subst, subst₂, ◌∙◌, append-nil, if◌then◌else◌, ◌==◌}
use Rattle.sqlite_value.specs.Order.{Row}
use Rattle.sqlite_trees.specs.Tree.{Trees}
use Rattle.sqlite_sql.specs.Term.{Term, col}
use Rattle.sqlite_schema.specs.declared.program.Program.{Program}
use Rattle.std.specs.List.Sorted.{IsPermutation}
use Rattle.sqlite_rules.specs.Calls.{ids_of}
use Rattle.acd_sql_columns.proofs.OneTable.Scans.{scan, scanned, showing, passing}
use Rattle.sqlite_schema.specs.declared.schema.Table.{Table}
use Rattle.sqlite_schema.specs.declared.schema.Schema.{Schema}
use Rattle.std.specs.List.{AllByRecursion, filter_map, flat_map}
use Rattle.sqlite_schema.specs.declared.schema.Reference.{Reference}
use Rattle.sqlite_schema.specs.declared.schema.Action.TheVariants.{NoAction}
use Rattle.sqlite_schema.specs.declared.schema.Keys.TheVariants.{Enforced}
use Rattle.sqlite_schema.specs.declared.command.Source.TheVariants.{Values}
use Rattle.sqlite_schema.specs.declared.command.Command.TheVariants.{Insert, Delete}
use Rattle.sqlite_rules.specs.declared.error.Rowids.TheVariants.{Chosen, Given}
use Rattle.sqlite_rules.specs.Edit.{Edit, edit_of, edited, taken_by, Applies}
use Rattle.sqlite_rules.specs.Action as action
use Rattle.sqlite.specs.Does.{Tally, Does, AtPlace, OnRows}
use Rattle.sqlite.specs.Rows.{Part, Written, Inserts}
use Rattle.sqlite_catalog.specs.Listing.{IsSound}
use Rattle.sqlite.specs.Effect.{Database, IsDatabase, value_rows}
use Rattle.sqlite.specs.Listing.{understood}
use Rattle.sqlite.specs.State.{State, mode_of, Shows, Executes, ExecutesInside, HasCleanDisk, KeepsCommit, Survives}
use Rattle.sqlite.specs.declared.error.Error.{Error}
use Rattle.std.proofs.lemmas.Bool.{cases_Bool}
use Rattle.sqlite.proofs.Callers.{IsPlain, command_of, statement_of, runs_as, one_step}
use Rattle.acd_sql_columns.specs.Schema.{Layout, table_of}
use Rattle.acd_sql_columns.specs.Transactions.{Works, RanStatement}

-- a part that gave a value did not stop on the way
pub went : {B E R : Type 0} {b : B} {Stops : E → Type 0} → ((stop : E) × Stops stop × (Ok b ≡ Err stop)) ⊎ R → R
went (inl stopped) = absurd (let e = stopped.2 in cc)
went (inr on) = on

pub same_value : {B E : Type 0} {a b : B} → ◌≡◌ {A = Result B E} (Ok a) (Ok b) → a ≡ b
same_value e = cc

pub at_place : {X A : Type 0} (P : X → Part A) (o : Option X) (x : X) (a : A) → o ≡ Some x → AtPlace P o (Ok a) → P x (Ok a)
at_place P o x a is h = subst (λ o. AtPlace P o (Ok a)) is h

-- the table of an INSERT of values, and the edit that it makes
pub record Insertion (schema : Schema) (text : List ℕ) : Type 0 where
  pub at : ℕ
  pub layout : Layout
  pub terms : List Term
  pub width : ℕ
  pub place : slice_get schema.tables at ≡ Some (table_of layout)
  pub command : command_of (understood schema text) ≡ Insert at (Values terms width)
  pub plain : IsPlain (understood schema text)
  pub inert : (olds news : List Row) → action.works schema Enforced 0 layout.tree olds news ≡ []

abbrev pub insertion_edit : {schema : Schema} {text : List ℕ} → Insertion schema text → Row → Trees → Edit
insertion_edit it params db = edit_of db (table_of it.layout) [] Chosen 0 (value_rows params it.width (length it.terms / it.width) it.terms)

pub obeyed : (schema : Schema) (s : State) → s.now.schema ≡ schema → IsDatabase s.now → IsSound schema s.now.trees
obeyed schema s is obeys = subst (λ (it : Schema). IsSound it s.now.trees) is obeys

-- the change of one statement inside a transaction or outside
pub record Changed (schema : Schema) (old new : State) (edit : Edit) : Type 0 where
  pub shown : Shows old new new.now (if old.in_transaction then old.committed else new.now) old.in_transaction
  pub marks : new.marks ≡ old.marks
  pub schema_is : new.now.schema ≡ schema
  pub sound : IsSound schema new.now.trees
  pub applies : Applies schema Enforced old.now.trees edit new.now.trees

inserts_rows : (schema : Schema) (layout : Layout) (limit : Option ℕ) (params : Row) (terms : List Term) (width : ℕ) (db : Trees) (w : Written)
    → Inserts (record { limit = limit; keys = Enforced; schema = schema; table = table_of layout; params = params }) (Values terms width) db (Ok w)
    → action.Writes schema Enforced db (edit_of db (table_of layout) [] Chosen 0 (value_rows params width (length terms / width) terms)) (Ok w.trees)
inserts_rows schema layout limit params terms width db w h =
    let given = went h in
    let written = went (went given.2).2 in
    let counted = went written.2 in
    let trees : w.trees ≡ written.0 = ap (λ (it : Written). it.trees) (same_value counted.2) ∙ same_value counted.1 in
    let rows : given.0 ≡ value_rows params width (length terms / width) terms =
    given.1.1 ∙ ap (λ (ps : Row). value_rows ps width (length terms / width) terms) (append-nil params) in
    subst₂ (λ (all : List Row) (t : Trees). action.Writes schema Enforced db (edit_of db (table_of layout) [] Chosen 0 all) (Ok t)) rows (sym trees) written.1

pub inserted : (schema : Schema) (text : List ℕ) (it : Insertion schema text) (params : Row) (old new : State) (count : ℕ) → old.now.schema ≡ schema
    → Executes text params old new (Ok count) → Changed schema old new (insertion_edit it params old.now.trees)
inserted schema text it params old new count has h =
    let db = old.now.trees in
    let command = Insert it.at (Values it.terms it.width) in
    let w = runs_as text params old new schema has command it.command it.plain count h in
    let words = statement_of text (understood schema text) in
    let does = subst (λ s. Does old.step_limit (mode_of old) params (record old.now { schema = s }) words None command (Ok (w.tally, new.now))) has w.changed in
    let done =
    went (at_place
    (λ (t : Table). OnRows (record {
      limit = old.step_limit;
      keys = Enforced;
      schema = schema;
      table = t;
      params = params;
    }) (mode_of old) None command db)
    (slice_get schema.tables it.at) (table_of it.layout) (w.tally, new.now) it.place does) in
    let now : new.now ≡ record { schema = schema; trees = done.0.trees } = ap (λ (p : Tally × Database). p.1) (same_value (went (went done.2).2).2) in
    let writes = inserts_rows schema it.layout old.step_limit params it.terms it.width db done.0 done.1 in
    record {
      shown = w.shown;
      marks = w.marks;
      schema_is = ap (λ (d : Database). d.schema) now;
      sound = obeyed schema new (ap (λ (d : Database). d.schema) now) w.sound;
      applies =
          subst (Applies schema Enforced db (insertion_edit it params db)) (sym (ap (λ (d : Database). d.trees) now))
          (one_step schema Enforced db done.0.trees (insertion_edit it params db)
          (it.inert (taken_by db (insertion_edit it params db)) (insertion_edit it params db).news) writes);
    }

-- one table has these rows, and all else is as it was
pub record Replaces (schema : Schema) (tree : ℕ) (rows : List Row) (old new : State) : Type 0 where
  pub mode : new.in_transaction ≡ old.in_transaction
  pub schema_is : new.now.schema ≡ schema
  pub sound : IsSound schema new.now.trees
  pub rows_are : new.now.trees tree ≡ rows
  pub others : AllByRecursion (λ t. t.tree ≢ tree → new.now.trees t.tree ≡ old.now.trees t.tree) schema.tables

pub replaces : (schema : Schema) (old new : State) (edit : Edit) (rows : List Row) → Changed schema old new edit → edited old.now.trees edit ≡ rows
    → Replaces schema edit.table.tree rows old new
replaces schema old new edit rows made is = record {
  mode = made.shown.mode;
  schema_is = made.schema_is;
  sound = made.sound;
  rows_are = made.applies.rows ∙ is;
  others = made.applies.tables;
}

-- ---- no foreign key of the schema acts

abbrev pub HasNoAction : Reference → Type 0
HasNoAction ref = (ref.on_delete ≡ NoAction) × (ref.on_update ≡ NoAction)

abbrev pub IsInert : Schema → Type 0
IsInert schema = AllByRecursion (λ t. AllByRecursion HasNoAction t.references) schema.tables

no_deed : (b : Bool) (ref : Reference) → HasNoAction ref → action.deed_for Enforced b ref ≡ None
no_deed true ref h = ap (action.deed_of Enforced true) h.0
no_deed false ref h = ap (action.deed_of Enforced false) h.1

no_work : (schema : Schema) (tree : ℕ) (olds news : List Row) (child : Table) (refs : List Reference) → AllByRecursion HasNoAction refs
    → filter_map (action.work_for schema Enforced 0 tree olds news child) refs ≡ []
no_work schema tree olds news child [] h = refl
no_work schema tree olds news child (ref ∷ refs) h = rw (no_deed (length news == 0) ref h.0) (no_work schema tree olds news child refs h.1)

no_works : (schema : Schema) (tree : ℕ) (olds news : List Row) (tables : List Table) → AllByRecursion (λ t. AllByRecursion HasNoAction t.references) tables
    → flat_map (λ child. filter_map (action.work_for schema Enforced 0 tree olds news child) child.references) tables ≡ []
no_works schema tree olds news [] h = refl
no_works schema tree olds news (t ∷ ts) h = rw (no_work schema tree olds news t t.references h.0) (no_works schema tree olds news ts h.1)

pub inert_works : (schema : Schema) → IsInert schema → (tree : ℕ) (olds news : List Row) → action.works schema Enforced 0 tree olds news ≡ []
inert_works schema h tree olds news = no_works schema tree olds news schema.tables h

-- ---- inside a transaction

pub counted_inside : (text : List ℕ) (params : Row) (old new : State) (e : Error) (count : ℕ) → (old.in_transaction ≡ false → Ok count ≡ Err e)
    → (IsTrue old.in_transaction → ExecutesInside 0 text params old new (Ok count))
    → Executes text params old new (Ok count)
counted_inside text params old new e count ended runs = elim (cases_Bool old.in_transaction) [
  | inl inside ↦ (runs inside).0
  | inr outside ↦ absurd (let k = ended outside in cc)
]

pub ran_inside : (text : List ℕ) (params : Row) (old new : State) (e : Error) (count : ℕ) → (old.in_transaction ≡ false → Ok count ≡ Err e)
    → (IsTrue old.in_transaction → ExecutesInside 0 text params old new (Ok count))
    → RanStatement text params old new
ran_inside text params old new e count ended runs = (count, counted_inside text params old new e count ended runs)

pub counts_inside : (text : List ℕ) (params : Row) (old new : State) (e : Error) (r : Result ℕ Error) → (old.in_transaction ≡ false → r ≡ Err e)
    → (IsTrue old.in_transaction → ExecutesInside 0 text params old new r)
    → IfOk r (λ count. Executes text params old new (Ok count))
counts_inside text params old new e (Err f) ended runs = tt
counts_inside text params old new e (Ok count) ended runs = counted_inside text params old new e count ended runs

kept_inside : (text : List ℕ) (params : Row) (old new : State) (r : Result ℕ Error) → ExecutesInside 0 text params old new r → KeepsCommit old new
kept_inside text params old new (Ok count) h = record { was_open = λ up. h.1.was_open; committed = λ up. h.1.committed_is }
kept_inside text params old new (Err e) (inl h) = elim h.1 [
  | inl same ↦ record { was_open = λ up. same.0.was_open; committed = λ up. same.0.committed_is }
  | inr back ↦ record { was_open = back.was_open; committed = λ up. (back.undone up).1 }
]
kept_inside text params old new (Err e) (inr h) = record { was_open = λ up. h.2.0.was_open; committed = λ up. h.2.0.committed_is }

pub works_inside : (text : List ℕ) (params : Row) (old new : State) (r : Result ℕ Error) → Survives old new (λ _. ⊥)
    → (HasCleanDisk new → IsTrue old.in_transaction → ExecutesInside 0 text params old new r)
    → (old.in_transaction ≡ false → new ≡ old) → Works old new
works_inside text params old new r survives runs ended = record {
  survives = survives;
  kept = λ clean. elim (cases_Bool old.in_transaction) [
    | inl inside ↦ kept_inside text params old new r (runs clean inside)
    | inr outside ↦ subst (λ (s : State). KeepsCommit old s) (sym (ended outside)) (record { was_open = λ up. up; committed = λ up. refl })
  ];
}

-- ---- DELETE

-- the table of a DELETE, and its tests
pub record Deletion (schema : Schema) (text : List ℕ) : Type 0 where
  pub at : ℕ
  pub layout : Layout
  pub terms : List Term
  pub place : slice_get schema.tables at ≡ Some (table_of layout)
  pub command : command_of (understood schema text) ≡ Delete at (record { lets = []; body = scan layout.tree terms (col 1 0 ∷ []) [] })
  pub plain : IsPlain (understood schema text)
  pub inert : (olds news : List Row) → action.works schema Enforced 0 layout.tree olds news ≡ []

abbrev pub deletion_edit : {schema : Schema} {text : List ℕ} → Deletion schema text → List Row → Trees → Edit
deletion_edit it rows db = edit_of db (table_of it.layout) (ids_of rows) Given 0 []

pub record Deleted {schema : Schema} {text : List ℕ} (it : Deletion schema text) (params : Row) (old new : State) : Type 0 where
  pub rows : List Row
  pub found : IsPermutation (map (showing params (col 1 0 ∷ [])) (passing params it.terms (old.now.trees it.layout.tree))) rows
  pub changed : Changed schema old new (deletion_edit it rows old.now.trees)

pub deleted : (schema : Schema) (text : List ℕ) (it : Deletion schema text) (params : Row) (old new : State) (count : ℕ) → old.now.schema ≡ schema
    → Executes text params old new (Ok count) → Deleted it params old new
deleted schema text it params old new count has h =
    let db = old.now.trees in
    let q : Program = record { lets = []; body = scan it.layout.tree it.terms (col 1 0 ∷ []) [] } in
    let command = Delete it.at q in
    let w = runs_as text params old new schema has command it.command it.plain count h in
    let words = statement_of text (understood schema text) in
    let does = subst (λ s. Does old.step_limit (mode_of old) params (record old.now { schema = s }) words None command (Ok (w.tally, new.now))) has w.changed in
    let done =
    went (at_place
    (λ (t : Table). OnRows (record {
      limit = old.step_limit;
      keys = Enforced;
      schema = schema;
      table = t;
      params = params;
    }) (mode_of old) None command db)
    (slice_get schema.tables it.at) (table_of it.layout) (w.tally, new.now) it.place does) in
    let now : new.now ≡ record { schema = schema; trees = done.0.trees } = ap (λ (p : Tally × Database). p.1) (same_value (went (went done.2).2).2) in
    let read = went done.1 in
    let edit = deletion_edit it read.0 db in
    let next = went read.2 in
    let trees : done.0.trees ≡ next.0 = ap (λ (it : Written). it.trees) (same_value next.2) in
    record {
      rows = read.0;
      found = scanned it.layout.tree it.terms (col 1 0 ∷ []) [] db params read.0 read.1.answer;
      changed = record {
        shown = w.shown;
        marks = w.marks;
        schema_is = ap (λ (d : Database). d.schema) now;
        sound = obeyed schema new (ap (λ (d : Database). d.schema) now) w.sound;
        applies =
            subst (Applies schema Enforced db edit) (sym (ap (λ (d : Database). d.trees) now ∙ trees))
            (one_step schema Enforced db next.0 edit (it.inert (taken_by db edit) edit.news) next.1);
      };
    }
