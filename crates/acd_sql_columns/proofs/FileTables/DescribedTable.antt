-- A table that is as it is described: what its statements and its query do, for any table.
use Rattle.std.proofs.Common.{◌≡◌, ◌≢◌, ℕ, ◌+◌, ◌/◌, List, [], ◌∷◌, ◌==◌, ◌&&◌, length, map, filter, take, nat_lt, zero, suc, drop, slice_get, Bool, true, false, Option, Some, Ok, IfSome, refl, sym, ap, subst, subst₂, ◌∙◌}
use Rattle.std.specs.List.{AllByRecursion, list_all}
use Rattle.std.proofs.lemmas.List.{take-map}
use Rattle.std.specs.Option.{is_some}
use Rattle.std.specs.Ordering.{is_eq}
use Rattle.sqlite_value.specs.declared.value.Value.TheVariants.{Null}
use Rattle.sqlite_value.specs.declared.keys.Collation.TheVariants.{Binary}
use Rattle.sqlite_value.specs.Order.{Row, column, value_cmp}
use Rattle.sqlite_trees.specs.Tree.{Trees, rowid}
use Rattle.sqlite_sql.specs.Ops.{binary, is_true, from_truth}
use Rattle.sqlite_sql.specs.Term.{Term, lit, col, op2, holds}
use Rattle.sqlite_sql.specs.declared.ops.BinaryOp.TheVariants.{Compare}
use Rattle.sqlite_sql.specs.declared.ops.CompareOp.TheVariants.{Eq}
use Rattle.sqlite_schema.specs.declared.schema.Table.{Table as MadeTable}
use Rattle.sqlite_schema.specs.declared.schema.Schema.{Schema}
use Rattle.sqlite_schema.specs.declared.command.Command.{Command}
use Rattle.sqlite_schema.specs.declared.command.Source.TheVariants.{Values}
use Rattle.sqlite_schema.specs.declared.command.Command.TheVariants.{Insert, Update, Delete, Select}
use Rattle.sqlite_rules.specs.Cast.{cast_row}
use Rattle.sqlite.specs.Effect.{Database, value_rows}
use Rattle.sqlite.specs.Listing.{understood, reads_listing}
use Rattle.sqlite.specs.State.{State, Executes, Shown}
use Rattle.sqlite.proofs.Callers.{IsPlain, command_of}
use Rattle.acd_terms.specs.Lists.{put_by, remove_by, Every}
use Rattle.acd_lemmas.proofs.Lists.{every-put, every-remove, filter_true}
use Rattle.std.specs.Ordering.{nat_cmp}
use Rattle.acd_book.specs.Content.{Content}
use Rattle.acd_sql_columns.specs.Rows.{keyed_row}
use Rattle.acd_sql_columns.specs.Values.{id_value}
use Rattle.acd_sql_columns.specs.AnyRows.{values_in, is_good}
use Rattle.acd_sql_columns.specs.Relations.{Relations, relations_of}
use Rattle.acd_sql_columns.specs.Content.{AreRows, AreTables, tree_of}
use Rattle.acd_sql_columns.specs.Transactions.{HoldsUncommitted, HoldsContent}
use Rattle.acd_sql_columns.specs.Schema.{BeginsSchema, table_of, book_schema, tables_1, with_later, names_of}
use Rattle.acd_sql_columns.proofs.Results.QueryAnswers.{columns, by_number, no_limit, above_parameter, above}
use Rattle.acd_sql_columns.proofs.OneTable.KeyedRows.{by_key, id_tied}
use Rattle.acd_sql_columns.proofs.OneTable.Listings.{schema_is, Listing, Lists, listed, held_begins}
use Rattle.acd_sql_columns.proofs.Results.WholeTableQueries.{AsksAll}
use Rattle.acd_sql_columns.proofs.OneTable.OrderedQueries.{asking}
use Rattle.acd_sql_columns.proofs.Writes.Puts.{Files, Inserts, RanOver, inserted_row, truth_back}
use Rattle.acd_sql_columns.proofs.Writes.Removals.{Removes, removed_row}
use Rattle.acd_sql_columns.proofs.OneTable.Scans.{scan, showing}
use Rattle.acd_sql_columns.proofs.Writes.Sets.{Sets, set_none, set_row, none_has_key}
use Rattle.acd_sql_columns.proofs.Writes.Statements.{Insertion, Replaces, inert_works}
use Rattle.acd_sql_columns.proofs.Writes.Updates.{Updating}
use Rattle.acd_sql_columns.proofs.Writes.Common.{run, inert}
use Rattle.acd_sql_columns.specs.Descriptions.{Description, after_key, row_of}

-- ---- what the texts of a table of so many columns after its key say

-- the parameters, and NULL in the column that is the number of the row
abbrev pub sources : ℕ → List Term
sources more = col 0 0 ∷ lit Null ∷ run 1 more

-- the row whose number is the first parameter
abbrev pub by_first : List Term
by_first = op2 (Compare Eq Binary) (col 1 0) (col 0 0) ∷ []

-- the number and key of the row that is there, and the parameters after the key
abbrev pub columns_given : ℕ → List Term
columns_given more = col 1 0 ∷ col 1 0 ∷ lit Null ∷ run 1 more

-- the columns of a row
abbrev pub shown_columns : ℕ → List Term
shown_columns more = col 1 0 ∷ columns 2 more

-- ---- what is owed of a table

module _ {R : Type 0} (d : Description R) where
  -- a text that shows all rows, in the order of their keys, whatever tables come later than these, with which the book's
  -- begin
  pub record Selects (base : List MadeTable) (text : List ℕ) : Type 0 where
    pub begins : BeginsSchema base book_schema
    pub selects : (rest : List MadeTable) (s : Schema)
        → command_of (understood (with_later base rest s) text) ≡ Select (record {
          lets = [];
          body = asking d.layout.tree [] (shown_columns (after_key d)) by_number no_limit;
        }) (names_of d.layout)
    pub plain : (rest : List MadeTable) (s : Schema) → IsPlain (understood (with_later base rest s) text)
    pub unlisted : (rest : List MadeTable) (s : Schema) → reads_listing (with_later base rest s) text ≡ false

  -- a text that changes the columns of the row that has a record's key
  pub record Updates (text : List ℕ) : Type 0 where
    pub updates : command_of (understood book_schema text) ≡ Update d.place (record {
      lets = [];
      body = scan d.layout.tree by_first (columns_given (after_key d)) [];
    })
    pub plain : IsPlain (understood book_schema text)
    pub changes : (new r : R)
        → showing (d.values new) (columns_given (after_key d)) (row_of d r) ≡ id_value (d.key r) ∷ id_value (d.key r) ∷ drop 1 (row_of d new)

  -- a text that removes the row that has a key
  pub record Deletes (text : List ℕ) : Type 0 where
    pub deletes : command_of (understood book_schema text) ≡ Delete d.place (record { lets = []; body = scan d.layout.tree by_first (col 1 0 ∷ []) [] })
    pub plain : IsPlain (understood book_schema text)

  -- the table, each but `casts`, `stored`, `exact`, `held` and `framed` by `refl`
  pub record Described : Type 0 where
    -- the table, and the text that puts a record
    pub computes : ◌≡◌ {A = Option MadeTable × ℕ × Command} (slice_get book_schema.tables d.place, d.layout.tree, command_of (understood book_schema d.insert))
        (Some (table_of d.layout), tree_of d.table, Insert d.place (Values (sources (after_key d)) (after_key d + 2)))
    pub plain : IsPlain (understood book_schema d.insert)
    -- its first column is its key
    pub keyed : ◌≡◌ {A = Option ℕ × ℕ} (d.layout.key, length d.layout.columns) (Some 0, suc (after_key d))
    -- its values begin with the key, the text puts its row, and its columns show its values
    pub of_record : (r : R) → ◌≡◌ {A = Row × List Row × Row} (
      d.values r,
      value_rows (d.values r) (after_key d + 2) (length (sources (after_key d)) / (after_key d + 2)) (sources (after_key d)),
      showing [] (shown_columns (after_key d)) (row_of d r),
    )
        (id_value (d.key r) ∷ drop 1 (d.values r), row_of d r ∷ [], d.values r)
    -- the values of any row that are looked at
    pub of_row : (row : Row)
        → ◌≡◌ {A = Row × Bool} (showing [] (shown_columns (after_key d)) row, is_good d.table row) (values_in d.table row, is_some (d.in_row row))
    pub casts : (r : R) → cast_row (table_of d.layout) (row_of d r) ≡ row_of d r
    -- a row whose values are in their ranges is that of the record
    pub stored : (row : Row) (x : R) → d.in_row row ≡ Some x → (row ≡ d.values x) × d.IsRead x
    pub exact : (row : Row) (x y : R) → d.IsRead y → d.in_row row ≡ Some x → row ≡ d.values y → x ≡ y
    -- the relations
    pub held : (c : Relations) (db : Trees) → AreTables db c → AreRows d.key (row_of d) (db d.layout.tree) (d.records c) × Every d.IsRead (d.records c)
    pub framed : (rs : List R) (rows : List Row) (old new : Trees) (c : Relations) → AreRows d.key (row_of d) rows rs → Every d.IsRead rs
        → new d.layout.tree ≡ rows
        → AllByRecursion (λ (u : MadeTable). u.tree ≢ d.layout.tree → new u.tree ≡ old u.tree) book_schema.tables → AreTables old c
        → AreTables new (d.with_records rs c)
    pub unchanged : (c : Relations) → d.with_records (d.records c) c ≡ c
    -- the other texts
    pub updates : IfSome d.update Updates
    pub deletes : IfSome d.delete Deletes
    pub selects : IfSome d.select (Selects d.base)

  -- a text that shows the first rows above a number, whatever tables come later than the nine
  pub record Pages (text : List ℕ) : Type 0 where
    pub pages : (rest : List MadeTable) (s : Schema)
        → command_of (understood (with_later tables_1 rest s) text) ≡ Select (record {
          lets = [];
          body = asking d.layout.tree above_parameter (shown_columns (after_key d)) by_number (col 0 1);
        }) (names_of d.layout)
    pub plain : (rest : List MadeTable) (s : Schema) → IsPlain (understood (with_later tables_1 rest s) text)
    pub unlisted : (rest : List MadeTable) (s : Schema) → reads_listing (with_later tables_1 rest s) text ≡ false

-- ---- rows

pub by_id : (m n : ℕ) → (is_true (from_truth (Some (is_eq (value_cmp (id_value m) (id_value n))))) && true) ≡ (m == n)
by_id m n = truth_back (is_eq (value_cmp (id_value m) (id_value n))) ∙ id_tied m n

numbers_tied : (m n : ℕ) (row given : Row) → list_all (holds ((id_value n ∷ given) ∷ (id_value m ∷ row) ∷ [])) by_first ≡ (m == n)
unfolding binary
numbers_tied m n row given = by_id m n

finds_at : (m n : ℕ) (row given : Row) → row ≡ id_value m ∷ drop 1 row → given ≡ id_value n ∷ drop 1 given
    → list_all (holds (given ∷ row ∷ [])) by_first ≡ (m == n)
finds_at m n row given r g = subst₂ (λ a b. list_all (holds (a ∷ b ∷ [])) by_first ≡ (m == n)) (sym g) (sym r) (numbers_tied m n (drop 1 row) (drop 1 given))

above_number : (n k limit : ℕ) (row : Row) → list_all (holds ((id_value n ∷ id_value limit ∷ []) ∷ (id_value k ∷ row) ∷ [])) above_parameter ≡ nat_lt n k
unfolding binary
above_number n k limit row = truth_back _ ∙ above n k

is_above : (n k : ℕ) (row : Row) (limit : ℕ) → row ≡ id_value k ∷ drop 1 row
    → list_all (holds ((id_value n ∷ id_value limit ∷ []) ∷ row ∷ [])) above_parameter ≡ nat_lt n k
is_above n k row limit h =
    subst (λ r. list_all (holds ((id_value n ∷ id_value limit ∷ []) ∷ r ∷ [])) above_parameter ≡ nat_lt n k) (sym h) (above_number n k limit (drop 1 row))

-- the columns shown of a row don't depend on the parameters
blind : (params row : Row) (start more : ℕ) → showing params (columns start more) row ≡ showing [] (columns start more) row
blind params row start zero = refl
blind params row start (suc more) = ap (λ l. column row start ∷ l) (blind params row (start + 1) more)

headed_row : (values : Row) (n : ℕ) → values ≡ id_value n ∷ drop 1 values → keyed_row values ≡ id_value n ∷ drop 1 (keyed_row values)
headed_row values n e = let whole = ap keyed_row e in whole ∙ ap (λ k. id_value n ∷ k) (sym (ap (drop 1) whole))

-- ---- what follows for the table

module _ {R : Type 0} (d : Description R) (f : Described d) where
  place_is : slice_get book_schema.tables d.place ≡ Some (table_of d.layout)
  place_is = ap (λ (t : Option MadeTable × ℕ × Command). t.0) f.computes

  pub tree_is : d.layout.tree ≡ tree_of d.table
  tree_is = ap (λ (t : Option MadeTable × ℕ × Command). t.1) f.computes

  first : (r : R) → d.values r ≡ id_value (d.key r) ∷ drop 1 (d.values r)
  first r = ap (λ (t : Row × List Row × Row). t.0) (f.of_record r)

  pub shows_values : (r : R) → showing [] (shown_columns (after_key d)) (row_of d r) ≡ d.values r
  shows_values r = ap (λ (t : Row × List Row × Row). t.2) (f.of_record r)

  pub headed : (r : R) → row_of d r ≡ id_value (d.key r) ∷ drop 1 (row_of d r)
  headed r = headed_row (d.values r) (d.key r) (first r)

  files : Files d.layout d.key (row_of d)
  files = record { headed = headed; casts = f.casts }

  holds_replaced : (rs : List R) (rows : List Row) (old new : State) (c : Relations) → AreRows d.key (row_of d) rows rs → Every d.IsRead rs
      → Replaces book_schema d.layout.tree rows old new → HoldsUncommitted old c
      → HoldsUncommitted new (d.with_records rs c)
  holds_replaced rs rows old new c are read made uncommitted = record {
    inside = made.mode ∙ uncommitted.inside;
    schema = made.schema_is;
    sound = made.sound;
    tables = f.framed rs rows old.now.trees new.now.trees c are read made.rows_are made.others uncommitted.tables;
  }

  abbrev insertion : Insertion book_schema d.insert
  insertion = record {
    at = d.place;
    layout = d.layout;
    terms = sources (after_key d);
    width = after_key d + 2;
    place = place_is;
    command = ap (λ (t : Option MadeTable × ℕ × Command). t.2) f.computes;
    plain = f.plain;
    inert = inert_works book_schema inert d.layout.tree;
  }

  abbrev puts : Inserts book_schema d.insert d.key (row_of d) d.values
  puts = record { it = insertion; files = files; source = λ r. ap (λ (t : Row × List Row × Row). t.1) (f.of_record r) }

  every_read : (r : R) (c : Relations) (db : Trees) → AreTables db c → d.IsRead r → Every d.IsRead (put_by (by_key d.key r) (d.records c) r)
  every_read r c db encodes reads = every-put (by_key d.key r) d.IsRead r reads (d.records c) (f.held c db encodes).1

  -- a statement that ran over the table
  abbrev ran_over : (text : List ℕ) (params : Row) (c : Relations) (old new : State) (count : ℕ) → HoldsUncommitted old c → Executes text params old new (Ok count)
      → RanOver book_schema text d.layout.tree d.key (row_of d) params
  ran_over text params c old new count uncommitted ran = record {
    old = old;
    new = new;
    records = d.records c;
    count = count;
    schema_is = uncommitted.schema;
    are_rows = (f.held c old.now.trees uncommitted.tables).0;
    ran = ran;
  }

  pub inserted_in : (r : R) → d.IsRead r → (c : Relations) (old new : State) (count : ℕ) → HoldsUncommitted old c
      → Executes d.insert (d.values r) old new (Ok count)
      → HoldsUncommitted new (d.with_records (put_by (by_key d.key r) (d.records c) r) c)
  inserted_in r reads c old new count uncommitted ran =
      let made = inserted_row book_schema d.insert d.key (row_of d) d.values puts r (ran_over d.insert (d.values r) c old new count uncommitted ran) in
      holds_replaced _ _ old new c made.are_rows (every_read r c old.now.trees uncommitted.tables reads) made.replaces uncommitted

  held_by : (old : State) (c : Content) → HoldsContent old c → AreRows d.key (row_of d) (old.now.trees d.layout.tree) (d.records (relations_of c))
  held_by old c held =
      subst (λ (b : Database). AreRows d.key (row_of d) (b.trees d.layout.tree) (d.records (relations_of c))) (sym held.idle)
      (f.held (relations_of c) old.committed.trees held.encodes).0

  pub good : (row : Row) → is_good d.table row ≡ is_some (d.in_row row)
  good row = ap (λ (t : Row × Bool). t.1) (f.of_row row)

  -- ---- the query of all rows

  module _ (base : List MadeTable) (text : List ℕ) (s : Selects d base text) where
    abbrev pub listing : Listing base text
    listing = record {
      tree = d.layout.tree;
      terms = [];
      project = shown_columns (after_key d);
      order = by_number;
      limit = no_limit;
      names = names_of d.layout;
      command = s.selects;
      plain = s.plain;
      unlisted = s.unlisted;
    }

    lists : Lists text listing d.key (row_of d) d.values [] (λ r. true)
    lists = record { keyed = λ r. ap rowid (headed r); ranks = λ a b. refl; tests = λ r. refl; shows = shows_values }

    pub shows_all : (old new : State) (rows : List Row) (c : Content) → HoldsContent old c → Shown text [] old new rows
        → rows ≡ map d.values (d.records (relations_of c))
    shows_all old new rows c held h =
        listed text listing d.key (row_of d) d.values [] (λ r. true) lists old new rows (d.records (relations_of c))
        (subst (BeginsSchema base) (sym (schema_is old c held)) s.begins) (held_by old c held) h
        ∙ ap (map d.values) (filter_true (d.records (relations_of c)))

    pub asks : AsksAll d.table base text listing
    asks = record { tree = tree_is; all = refl; unlimited = refl; shows = λ row. ap (λ (t : Row × Bool). t.0) (f.of_row row) }

  -- ---- the query of a page

  module _ (text : List ℕ) (p : Pages d text) (number limit : ℕ) where
    abbrev given_page : Row
    given_page = id_value number ∷ id_value limit ∷ []

    abbrev pub paging : Listing tables_1 text
    paging = record {
      tree = d.layout.tree;
      terms = above_parameter;
      project = shown_columns (after_key d);
      order = by_number;
      limit = col 0 1;
      names = names_of d.layout;
      command = p.pages;
      plain = p.plain;
      unlisted = p.unlisted;
    }

    pages_lists : Lists text paging d.key (row_of d) d.values given_page (λ x. nat_lt number (d.key x))
    pages_lists = record {
      keyed = λ r. ap rowid (headed r);
      ranks = λ a b. refl;
      tests = λ r. is_above number (d.key r) (row_of d r) limit (headed r);
      shows = λ r. ap (λ l. column (row_of d r) 0 ∷ l) (blind given_page (row_of d r) 2 (after_key d)) ∙ shows_values r;
    }

    pub shows_page : (old new : State) (rows : List Row) (c : Content) → HoldsContent old c → Shown text given_page old new rows
        → rows ≡ map d.values (take limit (filter (λ x. nat_lt number (d.key x)) (d.records (relations_of c))))
    shows_page old new rows c held h =
        listed text paging d.key (row_of d) d.values given_page (λ x. nat_lt number (d.key x)) pages_lists old new rows (d.records (relations_of c))
        (held_begins old c held) (held_by old c held) h
        ∙ take-map d.values limit (filter (λ x. nat_lt number (d.key x)) (d.records (relations_of c)))

  -- ---- the statement that changes a row

  module _ (text : List ℕ) (u : Updates d text) where
    abbrev updating : Updating book_schema text
    updating = record {
      at = d.place;
      layout = d.layout;
      terms = by_first;
      project = columns_given (after_key d);
      place = place_is;
      command = u.updates;
      plain = u.plain;
      inert = inert_works book_schema inert d.layout.tree;
    }

    sets : Sets book_schema text d.key (row_of d) d.values
    sets = record {
      it = updating;
      files = files;
      finds = λ new r. finds_at (d.key r) (d.key new) (row_of d r) (d.values new) (headed r) (first new);
      shows = u.changes;
    }

    -- of a record that has a row
    pub updated_in : (r : R) → d.IsRead r → (c : Relations) (old new : State) (count : ℕ) → HoldsUncommitted old c
        → Executes text (d.values r) old new (Ok count) → (count ≡ 0 → ⊥)
        → HoldsUncommitted new (d.with_records (put_by (by_key d.key r) (d.records c) r) c)
    unfolding sets
    updated_in r reads c old new count uncommitted ran some =
        let made = set_row book_schema text d.key (row_of d) d.values sets r (ran_over text (d.values r) c old new count uncommitted ran) some in
        holds_replaced _ _ old new c made.are_rows (every_read r c old.now.trees uncommitted.tables reads) made.replaces uncommitted

    -- where none was changed, no record has the key
    pub none_in : (r : R) (c : Relations) (old new : State) (count : ℕ) → HoldsUncommitted old c → Executes text (d.values r) old new (Ok count) → count ≡ 0
        → filter (λ y. d.key y == d.key r) (d.records c) ≡ []
    unfolding sets
    none_in r c old new count uncommitted ran missed =
        none_has_key book_schema text d.key (row_of d) d.values sets r (ran_over text (d.values r) c old new count uncommitted ran) missed

    -- of a record that has none
    pub put_in : (r : R) → d.IsRead r → (c : Relations) (old mid new : State) (none count : ℕ) → HoldsUncommitted old c
        → Executes text (d.values r) old mid (Ok none) → none ≡ 0 → Executes d.insert (d.values r) mid new (Ok count)
        → HoldsUncommitted new (d.with_records (put_by (by_key d.key r) (d.records c) r) c)
    put_in r reads c old mid new none count uncommitted tried missed ran =
        let still = set_none book_schema text updating (d.values r) old mid none uncommitted.schema tried missed in
        let old_rows = f.held c old.now.trees uncommitted.tables in
        let between =
        subst (HoldsUncommitted mid) (f.unchanged c)
        (holds_replaced (d.records c) (old.now.trees d.layout.tree) old mid c old_rows.0 old_rows.1 still uncommitted) in
        inserted_in r reads c mid new count between ran

  -- ---- the statement that takes a row out

  module _ (text : List ℕ) (t : Deletes d text) where
    removes : Removes book_schema text d.key (row_of d)
    removes = record {
      it = record {
        at = d.place;
        layout = d.layout;
        terms = by_first;
        place = place_is;
        command = t.deletes;
        plain = t.plain;
        inert = inert_works book_schema inert d.layout.tree;
      };
      files = files;
      finds = λ r n. finds_at (d.key r) n (row_of d r) (id_value n ∷ []) (headed r) refl;
    }

    pub removed_in : (n : ℕ) (c : Relations) (old new : State) (count : ℕ) → HoldsUncommitted old c → Executes text (id_value n ∷ []) old new (Ok count)
        → HoldsUncommitted new (d.with_records (remove_by (λ x. nat_cmp n (d.key x)) (d.records c)) c)
    unfolding removes
    removed_in n c old new count uncommitted ran =
        let old_rows = f.held c old.now.trees uncommitted.tables in
        let made = removed_row book_schema text d.key (row_of d) removes n (ran_over text (id_value n ∷ []) c old new count uncommitted ran) in
        holds_replaced _ _ old new c made.are_rows (every-remove (λ x. nat_cmp n (d.key x)) d.IsRead (d.records c) old_rows.1) made.replaces uncommitted
