-- The texts of reads: the store never refuses to answer one.
use Rattle.std.proofs.Common.{◌≡◌, inl, inr, ℕ, ◌≤◌, nat_le, List, [], ◌∷◌, ◌++◌, length, true, false, Option, Some, None, Result, Ok, Err, refl, sym, ap, subst, ◌∙◌, append-nil, arith}
use Rattle.std.proofs.lemmas.Bool.Decides.{nat_tests}
use Rattle.sqlite_value.specs.declared.value.Value.TheVariants.{Text}
use Rattle.sqlite_value.specs.Order.{Row}
use Rattle.sqlite_trees.specs.Tree.{Trees}
use Rattle.sqlite_sql.specs.Term.{Env}
use Rattle.sqlite_sql.specs.Group.{Grouping, Overflows}
use Rattle.sqlite_sql.specs.Program.{Let, overlay, ProgramOverflows}
use Rattle.sqlite_sql.specs.Query.{Query, has_no_fold}
use Rattle.sqlite_sql.proofs.QueryLemmas.{no_fold_overflows}
use Rattle.sqlite_typing.specs.Types.{accepts_program}
use Rattle.sqlite_schema.specs.Program.{lets_of}
use Rattle.sqlite_schema.specs.declared.schema.Schema.{Schema}
use Rattle.sqlite_schema.specs.declared.schema.Table.{Table}
use Rattle.sqlite_schema.specs.declared.command.Command.{Command}
use Rattle.sqlite_schema.specs.declared.command.Command.TheVariants.{Select, Rows}
use Rattle.sqlite_resolve.specs.declared.compiled.Compiled.{Compiled}
use Rattle.sqlite_resolve.specs.declared.error.CompileError.{CompileError}
use Rattle.sqlite_tied.specs.Compute.{everything}
use Rattle.sqlite.specs.Clock.{timed}
use Rattle.sqlite.specs.Effect.{Database}
use Rattle.sqlite.specs.Listing.{understood, reads_listing, IsSourceOf}
use Rattle.acd_sql_columns.specs.Schema.{book_schema, meta, tables_1, table_of, added_in_2, with_later}
use Rattle.acd_sql_columns.proofs.OneTable.Listings.{begun, book_begins, whole_begins}
use Rattle.acd_sql_columns.specs.Values.{id_value}
use Rattle.acd_sql_columns.specs.declared.texts.TheConstants.{SELECT_META, SELECT_GROUPS, SELECT_GROUP_PRIORITY, SELECT_STATIONS, SELECT_AGENTS, SELECT_AGENT_GROUPS, SELECT_CALLS, SELECT_CONNECTIONS, SELECT_MONITORS, SELECT_MONITOR, SELECT_KEPT_OF_REQUEST, SELECT_KEPT_AFTER, SELECT_EVENTS_AFTER, SELECT_EVENTS_AT_DEVICE, SELECT_LOW_EVENT, SELECT_LOW_KEPT, SELECT_STANDING_AGENT_GROUPS, SELECT_STANDING_CONNECTIONS, SELECT_VERSION}
use Rattle.acd_sql_statements.specs.StoreFailures.{IsUnreadText}
use Rattle.acd_sql_statements.specs.ReadFailures.{IsUnanswered, RefusesToShow, IsAnswered}
use Rattle.acd_sql_statements.specs.Looks.{IsAnsweredOver}

no_sum : (g : Option Grouping) (all : List Env) → g ≡ None → Overflows g all → ⊥
no_sum None all e h = h
no_sum (Some by) all e h = absurd (cc e)

pub within : (n m : ℕ) → nat_le n m ≡ true → n ≤ m
within n m h = grind (arith, nat_tests)

module _ (s : Schema) (text : List ℕ) (params : Row) where
  -- a query that takes these values, with no sum in it
  abbrev pub IsSimple : Command → Type 0
  IsSimple (Select q names) = (accepts_program s (lets_of q) q.body params ≡ true) × (lets_of q ≡ []) × (q.body.group ≡ None) × (has_no_fold q.body.from ≡ true)
  IsSimple _ = ⊥

  -- one text, with as many parameters as there are values
  abbrev pub IsWhole : Result Compiled CompileError → Type 0
  IsWhole (Ok c) = (nat_le (length text) c.tail ≡ true) × (length params ≡ length c.names) × (c.formats ≡ []) × (c.returning ≡ None) × IsSimple c.command
  IsWhole (Err e) = ⊥

  none_over : (db : Trees) (lets : List Let) (q : Query) → lets ≡ [] → q.group ≡ None → has_no_fold q.from ≡ true → ProgramOverflows db params [] lets q → ⊥
  none_over db lets q none ungrouped plain over =
      elim (subst (λ l. ProgramOverflows db params [] l q) none over) [
        | inl sum ↦ no_sum q.group _ ungrouped sum
        | inr fold ↦ no_fold_overflows (overlay db []) q.from (params ∷ []) plain fold
      ]

  never : (k : Command) (db : Database) → db.schema ≡ s → IsSimple k → IsUnanswered k db params → ⊥
  never (Select q names) db is simple (inl untyped) =
      absurd (let apart = sym simple.0 ∙ subst (λ x. accepts_program x (lets_of q) q.body params ≡ false) is untyped in cc)
  never (Select q names) db is simple (inr over) = none_over db.trees (lets_of q) q.body simple.1 simple.2 simple.3 over
  never (Rows values width names) db is simple h = h
  never _ db is simple h = simple

  module _ (unlisted : reads_listing s text ≡ false) (whole : IsWhole (understood s text)) where
    readable : IsUnreadText s text params → ⊥
    readable (inl h) = subst IsWhole h.1 whole
    readable (inr h) =
        let is_whole = subst IsWhole h.1 whole in
        elim h.2 [
          | inl short ↦ short (within (length text) h.0.tail is_whole.0)
          | inr other ↦ elim other [ inl given ↦ given is_whole.1 | inr dated ↦ dated is_whole.2 ]
        ]

    pub answered : (d : Database) → d.schema ≡ s → ¬ (RefusesToShow d text params)
    unfolding RefusesToShow
    answered d is (inl unread) = readable (subst (λ x. IsUnreadText x text params) is unread)
    answered d is (inr h) =
        let is_whole = subst IsWhole (sym (ap (λ x. understood x text) is) ∙ h.1) whole in
        elim h.2 [
          | inl returns ↦ absurd (let apart = sym is_whole.3 ∙ returns.1 in cc)
          | inr run ↦
              let same = subst (λ b. IsSourceOf b d run.1) (ap (λ x. reads_listing x text) is ∙ unlisted) run.2 in
              let bare = ap (λ f. timed params f run.0) is_whole.2 ∙ append-nil params in
              never h.0.command run.1 (ap (λ (x : Database). x.schema) same ∙ is) is_whole.4 (subst (IsUnanswered h.0.command run.1) bare run.3)
        ]

-- whatever tables come later
pub over : (base : List Table) (text : List ℕ) (params : Row)
    → ((rest : List Table) (s : Schema)
    → (reads_listing (with_later base rest s) text ≡ false) × IsWhole (with_later base rest s) text params (understood (with_later base rest s) text))
    → IsAnsweredOver base text params
over base text params whole d b = answered (with_later base b.0 d.schema) text params (whole b.0 d.schema).0 (whole b.0 d.schema).1 d (begun base d.schema b)

-- ---- the texts

pub counters_over : IsAnsweredOver tables_1 SELECT_META.now []
unfolding understood everything
counters_over = over tables_1 SELECT_META.now [] (λ rest s. (refl, (refl, refl, refl, refl, (refl, refl, refl, refl))))

pub counters_answered : IsAnswered SELECT_META.now []
counters_answered d is = counters_over d (book_begins d.schema is)

pub groups_over : IsAnsweredOver tables_1 SELECT_GROUPS.now []
unfolding understood everything
groups_over = over tables_1 SELECT_GROUPS.now [] (λ rest s. (refl, (refl, refl, refl, refl, (refl, refl, refl, refl))))

pub groups_answered : IsAnswered SELECT_GROUPS.now []
groups_answered d is = groups_over d (book_begins d.schema is)

pub priorities_over : IsAnsweredOver (tables_1 ++ added_in_2) SELECT_GROUP_PRIORITY.now []
unfolding understood everything
priorities_over = over (tables_1 ++ added_in_2) SELECT_GROUP_PRIORITY.now [] (λ rest s. (refl, (refl, refl, refl, refl, (refl, refl, refl, refl))))

pub priorities_answered : IsAnswered SELECT_GROUP_PRIORITY.now []
priorities_answered d is = priorities_over d (whole_begins d.schema is)

pub stations_over : IsAnsweredOver tables_1 SELECT_STATIONS.now []
unfolding understood everything
stations_over = over tables_1 SELECT_STATIONS.now [] (λ rest s. (refl, (refl, refl, refl, refl, (refl, refl, refl, refl))))

pub stations_answered : IsAnswered SELECT_STATIONS.now []
stations_answered d is = stations_over d (book_begins d.schema is)

pub agents_over : IsAnsweredOver tables_1 SELECT_AGENTS.now []
unfolding understood everything
agents_over = over tables_1 SELECT_AGENTS.now [] (λ rest s. (refl, (refl, refl, refl, refl, (refl, refl, refl, refl))))

pub agents_answered : IsAnswered SELECT_AGENTS.now []
agents_answered d is = agents_over d (book_begins d.schema is)

pub calls_over : IsAnsweredOver tables_1 SELECT_CALLS.now []
unfolding understood everything
calls_over = over tables_1 SELECT_CALLS.now [] (λ rest s. (refl, (refl, refl, refl, refl, (refl, refl, refl, refl))))

pub calls_answered : IsAnswered SELECT_CALLS.now []
calls_answered d is = calls_over d (book_begins d.schema is)

pub connections_over : IsAnsweredOver tables_1 SELECT_CONNECTIONS.now []
unfolding understood everything
connections_over = over tables_1 SELECT_CONNECTIONS.now [] (λ rest s. (refl, (refl, refl, refl, refl, (refl, refl, refl, refl))))

pub connections_answered : IsAnswered SELECT_CONNECTIONS.now []
connections_answered d is = connections_over d (book_begins d.schema is)

pub monitors_over : IsAnsweredOver tables_1 SELECT_MONITORS.now []
unfolding understood everything
monitors_over = over tables_1 SELECT_MONITORS.now [] (λ rest s. (refl, (refl, refl, refl, refl, (refl, refl, refl, refl))))

pub monitors_answered : IsAnswered SELECT_MONITORS.now []
monitors_answered d is = monitors_over d (book_begins d.schema is)

pub kept_after_over : (stamp limit : ℕ) → IsAnsweredOver tables_1 SELECT_KEPT_AFTER.now (id_value stamp ∷ id_value limit ∷ [])
unfolding understood everything
kept_after_over stamp limit =
    over tables_1 SELECT_KEPT_AFTER.now (id_value stamp ∷ id_value limit ∷ []) (λ rest s. (refl, (refl, refl, refl, refl, (refl, refl, refl, refl))))

pub kept_after_answered : (stamp limit : ℕ) → IsAnswered SELECT_KEPT_AFTER.now (id_value stamp ∷ id_value limit ∷ [])
kept_after_answered stamp limit d is = kept_after_over stamp limit d (book_begins d.schema is)

pub events_after_over : (number limit : ℕ) → IsAnsweredOver tables_1 SELECT_EVENTS_AFTER.now (id_value number ∷ id_value limit ∷ [])
unfolding understood everything
events_after_over number limit =
    over tables_1 SELECT_EVENTS_AFTER.now (id_value number ∷ id_value limit ∷ []) (λ rest s. (refl, (refl, refl, refl, refl, (refl, refl, refl, refl))))

pub events_after_answered : (number limit : ℕ) → IsAnswered SELECT_EVENTS_AFTER.now (id_value number ∷ id_value limit ∷ [])
events_after_answered number limit d is = events_after_over number limit d (book_begins d.schema is)

pub version_over : IsAnsweredOver (table_of meta ∷ []) SELECT_VERSION.now []
unfolding understood everything
version_over = over (table_of meta ∷ []) SELECT_VERSION.now [] (λ rest s. (refl, (refl, refl, refl, refl, (refl, refl, refl, refl))))

pub standing_connections_over : IsAnsweredOver tables_1 SELECT_STANDING_CONNECTIONS.now []
unfolding understood everything
standing_connections_over = over tables_1 SELECT_STANDING_CONNECTIONS.now [] (λ rest s. (refl, (refl, refl, refl, refl, (refl, refl, refl, refl))))

pub standing_further_over : IsAnsweredOver (tables_1 ++ added_in_2) SELECT_STANDING_AGENT_GROUPS.now []
unfolding understood everything
standing_further_over = over (tables_1 ++ added_in_2) SELECT_STANDING_AGENT_GROUPS.now [] (λ rest s. (refl, (refl, refl, refl, refl, (refl, refl, refl, refl))))

pub low_events_over : IsAnsweredOver tables_1 SELECT_LOW_EVENT.now []
unfolding understood everything
low_events_over = over tables_1 SELECT_LOW_EVENT.now [] (λ rest s. (refl, (refl, refl, refl, refl, (refl, refl, refl, refl))))

pub low_kept_over : IsAnsweredOver tables_1 SELECT_LOW_KEPT.now []
unfolding understood everything
low_kept_over = over tables_1 SELECT_LOW_KEPT.now [] (λ rest s. (refl, (refl, refl, refl, refl, (refl, refl, refl, refl))))

pub kept_of_answered : (requester : List ℕ) (invoke : ℕ) → IsAnswered SELECT_KEPT_OF_REQUEST.now (Text requester ∷ id_value invoke ∷ [])
unfolding understood everything
kept_of_answered requester invoke =
    answered book_schema SELECT_KEPT_OF_REQUEST.now (Text requester ∷ id_value invoke ∷ []) refl (refl, refl, refl, refl, (refl, refl, refl, refl))

pub further_answered : IsAnswered SELECT_AGENT_GROUPS.now []
unfolding understood everything
further_answered = answered book_schema SELECT_AGENT_GROUPS.now [] refl (refl, refl, refl, refl, (refl, refl, refl, refl))

pub monitor_answered : (monitor : ℕ) → IsAnswered SELECT_MONITOR.now (id_value monitor ∷ [])
unfolding understood everything
monitor_answered monitor = answered book_schema SELECT_MONITOR.now (id_value monitor ∷ []) refl (refl, refl, refl, refl, (refl, refl, refl, refl))

pub events_at_answered : (number device limit : ℕ) → IsAnswered SELECT_EVENTS_AT_DEVICE.now (id_value number ∷ id_value device ∷ id_value limit ∷ [])
unfolding understood everything
events_at_answered number device limit =
    answered book_schema SELECT_EVENTS_AT_DEVICE.now (id_value number ∷ id_value device ∷ id_value limit ∷ []) refl
    (refl, refl, refl, refl, (refl, refl, refl, refl))
