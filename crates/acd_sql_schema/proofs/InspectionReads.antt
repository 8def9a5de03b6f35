-- Reads that are made one after the other, before a connection is adopted as a book.
use Rattle.std.proofs.lemmas.Grind.{common_steps}
use Rattle.std.proofs.lemmas.Bool.Decides.{nat_tests}
use Rattle.std.proofs.lemmas.List.Sorted.{length_permutation}
use Rattle.std.proofs.Common.{◌≡◌, ◌==◌, ℕ, ◌+◌, ◌<◌, ◌≤◌, zero, suc, length, map, not, cond, take, get_or, arith, List, [], ◌∷◌, ◌++◌, inl, inr, Result, Ok, Err, Option, Some, None, Bool, true, false, IsTrue, IfOk, refl, sym, ap, subst, subst₂, ◌∙◌}
use Rattle.std.specs.Prelude.{Vec, IsPermutation, ⊤}
use Rattle.std.specs.List.{AllByRecursion}
use Rattle.std.specs.declared.alloc.Global.{Global}
use Rattle.sqlite_value.specs.Order.{Row, column}
use Rattle.sqlite_trees.specs.Tree.{Trees}
use Rattle.sqlite_rules.specs.Lists.{Has}
use Rattle.sqlite_rules.proofs.ListLemmas.{all_from}
use Rattle.sqlite.specs.Effect.{Database, IsDatabase}
use Rattle.sqlite.specs.declared.error.Error.{Error}
use Rattle.sqlite_schema.specs.declared.schema.Schema.{Schema}
use Rattle.sqlite_schema.specs.declared.schema.Table.{Table as Made}
use Rattle.sqlite.specs.State.{State, HasCleanDisk}
use Rattle.acd_terms.specs.Lists.{Every}
use Rattle.acd_sql_columns.specs.declared.tables.Table.{Table}
use Rattle.acd_sql_columns.specs.declared.tables.Table.TheVariants as table
use Rattle.acd_sql_schema.specs.declared.fault.AdoptFault.{AdoptFault}
use Rattle.acd_sql_schema.specs.declared.fault.AdoptFault.TheVariants.{WrongVersion, BadRow, Store}
use Rattle.acd_sql_columns.specs.declared.tables.Log.{Log}
use Rattle.acd_sql_schema.specs.declared.fault.Found.{Found}
use Rattle.acd_sql_schema.specs.declared.fault.Found.TheVariants.{Book, Fault}
use Rattle.acd_sql_schema.specs.declared.verdict.VersionRead.{VersionRead}
use Rattle.acd_sql_schema.specs.declared.verdict.VersionRead.TheVariants.{Of, Faulty}
use Rattle.acd_sql_schema.specs.declared.verdict.Page.{Page}
use Rattle.acd_sql_schema.specs.declared.verdict.Page.TheVariants.{Bad, Last, More}
use Rattle.acd_sql_columns.specs.AnyRows.{is_good_in, table_of_log, Numbered, AreNumbered, AreSameFirst, BeginsAsBook, schema_of, Covers, is_beside, is_ranked, IsCanonicalAs, FindsGood, FindsLow, IsPageRows}
use Rattle.acd_sql_schema.specs.Inspection.{is_good_after, version_read_in, version_read_of, tables_of, FindsGoodAfter, IsBadOf, IsPageOfLog, IsLogPage, IsVersionRead, IsVersionIn, IsRowFound, IsPlaceFound, IsFound, IsUnlike}
use Rattle.acd_sql_columns.specs.Transactions.{NoStop}
use Rattle.acd_sql_columns.specs.Values.{whole_at}
use Rattle.acd_sql_columns.specs.declared.tables.Version.{Version}
use Rattle.acd_sql_columns.specs.declared.tables.Version.TheVariants as version
use Rattle.acd_sql_columns.specs.Content.{IsIn, version_number}
use Rattle.acd_sql_columns.specs.Schema.{old_schema, book_schema}
use Rattle.acd_sql_columns.specs.Schema as schema
use Rattle.acd_sql_columns.specs.DatabaseView.{HasDatabase, Sees, HasLooked}
use Rattle.acd_sql_columns.proofs.OneTable.KeyedRows.{apart}
use Rattle.acd_sql_columns.proofs.FileTables.QueryResults.{mapped_all, moved_all}
use Rattle.acd_sql_columns.proofs.OneTable.Listings.{version_begins}
use Rattle.acd_sql_schema.proofs.LogPages.{page_is, log_found}
use Rattle.acd_sql_columns.proofs.Results.SnapshotReads.{sees_on, sees_fail, sees_then}
use Rattle.acd_lemmas.proofs.Numbers.{same_number}

-- ---- rows

empty : (rows : List Row) → length rows ≡ 0 → rows ≡ []
empty [] h = refl
empty (row ∷ rows) h = absurd (omega (arith, h))

is_nothing : (n : ℕ) → (n == 0) ≡ true → n ≡ 0
is_nothing n h = grind (arith, nat_tests)

isnt_nothing : (n : ℕ) → (n == 0) ≡ false → n ≡ 0 → ⊥
isnt_nothing n h e = grind (arith, nat_tests)

pub nothing_in : (rows : Vec Row Global) → (rows.len == 0) ≡ true → rows.items ≡ []
nothing_in rows h = let none = is_nothing rows.len h in empty rows.items (omega (arith, rows.ok.0, none))

pub something_in : (rows : Vec Row Global) → (rows.len == 0) ≡ false → rows.items ≡ [] → ⊥
something_in rows h e = let none = ap length e in isnt_nothing rows.len h (omega (arith, rows.ok.0, none))

-- ---- versions

no_rows : (f : Row → Row) (rows : List Row) → length (map f rows) ≡ 0 → rows ≡ []
no_rows f [] h = refl
no_rows f (row ∷ rows) h = absurd (omega (arith, h))

is_version_read : (d : Database) (b : BeginsAsBook d.schema) (r : Row) → Has (d.trees schema.meta.tree) r → (o : Option ℕ) → whole_at r 2 ≡ o
    → IsVersionRead d (version_read_of o)
is_version_read d b row h None e = inr (inl (refl, b, (row, h, e)))
is_version_read d b row h (Some n) e = go (n == 1) (n == 2) refl refl
  where
    go : (one two : Bool) → (n == 1) ≡ one → (n == 2) ≡ two
        → IsVersionRead d (cond one (Of version.First) (cond two (Of version.Second) (Faulty (WrongVersion n))))
    go true two is other = (row, h, e ∙ ap Some (sym (same_number n 1 is)))
    go false true is other = (row, h, e ∙ ap Some (sym (same_number n 2 other)))
    go false false is other = (apart n 1 is, apart n 2 other, inr (b, inr (row, h, e)))

abbrev Shows : Trees → Row → Type 0
Shows db shown = (r : Row) × Has (db schema.meta.tree) r × (shown ≡ column r 2 ∷ [])

version_found : (d : Database) (b : BeginsAsBook d.schema) (rows : List Row) → IsPermutation (map (λ r. column r 2 ∷ []) (d.trees schema.meta.tree)) rows
    → AllByRecursion (Shows d.trees) rows → IsVersionRead d (version_read_in rows)
version_found d b [] same all =
    (apart 0 1 refl, apart 0 2 refl, inr (b, inl (no_rows (λ r. column r 2 ∷ []) (d.trees schema.meta.tree) (sym (length_permutation _ [] same)), refl)))
version_found d b (shown ∷ rows) same all =
    let from = all.0 in
    subst (λ r. IsVersionRead d (version_read_of (whole_at r 0))) (sym from.2) (is_version_read d b from.0 from.1 (whole_at from.0 2) refl)

pub version_read : (d : Database) (old new : State) (rows : Vec Row Global) (t : VersionRead) → BeginsAsBook d.schema → t ≡ version_read_in rows.items
    → Sees d old new (Ok rows) (λ rows. IsPermutation (map (λ r. column r 2 ∷ []) (d.trees schema.meta.tree)) rows.items)
    → Sees d old new (Ok t) (λ t. IsVersionRead d t)
version_read d old new rows t b is h =
    sees_on d old new rows (λ rows. IsPermutation (map (λ r. column r 2 ∷ []) (d.trees schema.meta.tree)) rows.items) (λ t. IsVersionRead d t) (Ok t) h
    (λ old_database same.
    let here =
    moved_all (Shows d.trees) _ rows.items same
    (mapped_all (Shows d.trees) (λ r. column r 2 ∷ []) (d.trees schema.meta.tree)
    (all_from (λ r. Shows d.trees (column r 2 ∷ [])) (d.trees schema.meta.tree) (λ r k. (r, k, refl)))) in
    subst (IsVersionRead d) (sym is) (version_found d b rows.items same here))

-- what was read of the version is a fault
pub fault_read : (d : Database) (old new : State) (f : AdoptFault) → Sees d old new (Ok (Faulty f)) (λ t. IsVersionRead d t)
    → Sees d old new (Ok (Fault f)) (λ f. IsFound d f)
fault_read d old new f h = sees_on d old new (Faulty f) (λ t. IsVersionRead d t) (λ f. IsFound d f) (Ok (Fault f)) h (λ old_database p. p)

-- the version is that of other tables
pub other_read : (d : Database) (old new : State) (v : Version) → (IsVersionIn d.trees (Some (version_number v)) → IsUnlike d)
    → Sees d old new (Ok (Of v)) (λ t. IsVersionRead d t) → Sees d old new (Ok (Fault Store)) (λ f. IsFound d f)
other_read d old new v unlike h = sees_on d old new (Of v) (λ t. IsVersionRead d t) (λ f. IsFound d f) (Ok (Fault Store)) h (λ old_database p. unlike p)

abbrev pub IsFoundIn : Version → Database → Found → Type 0
IsFoundIn v d f = IsVersionIn d.trees (Some (version_number v)) → IsFound d f

pub row_fault : (v : Version) (d : Database) (old new : State) (f : AdoptFault) → Sees d old new (Ok (Some f)) (λ f. IsRowFound v d f)
    → Sees d old new (Ok (Fault f)) (λ f. IsFoundIn v d f)
row_fault v d old new f h = sees_on d old new (Some f) (λ f. IsRowFound v d f) (λ f. IsFoundIn v d f) (Ok (Fault f)) h (λ old_database p read. p)

pub rows_good : (v : Version) (d : Database) (old new : State) → d.schema ≡ schema_of v → Sees d old new (Ok None) (λ f. IsRowFound v d f)
    → Sees d old new (Ok (Book v)) (λ f. IsFoundIn v d f)
rows_good v d old new is h =
    sees_on d old new None (λ f. IsRowFound v d f) (λ f. IsFoundIn v d f) (Ok (Book v)) h
    (λ old_database p read. record { schema_is = is; version = read; in_range = p.1; placed = p.0 })

pub rows_after : (v other : Version) (d : Database) (old mid new : State) (r : Result Found Error) → other ≡ v
    → Sees d old mid (Ok (Of other)) (λ t. IsVersionRead d t) → Sees d mid new r (λ f. IsFoundIn v d f)
    → Sees d old new r (λ f. IsFound d f)
rows_after v other d old mid new r same first next =
    sees_then d old mid new (Of other) (λ t. IsVersionRead d t) first (λ f. IsFoundIn v d f) (λ f. IsFound d f) r
    (λ p f q. q (subst (λ u. IsVersionIn d.trees (Some (version_number u))) same p)) next

-- ---- tables that are read in pages

pub page_found : (d : Database) (old new : State) (l : Log) (n : ℕ) (rows : Vec Row Global) (r : Result Page Error)
    → IfOk r (λ page. IsLogPage l n rows.items page)
    → Sees d old new (Ok rows) (λ rows. IsPageRows l n 1000 d.trees rows.items) → Sees d old new r (λ page. IsPageOfLog l n d.trees page)
page_found d old new l n rows (Ok page) is h =
    sees_on d old new rows (λ rows. IsPageRows l n 1000 d.trees rows.items) (λ page. IsPageOfLog l n d.trees page) (Ok page) h
    (λ old_database are. page_is l n d rows.items page are is)
page_found d old new l n rows (Err e) is h =
    sees_on d old new rows (λ rows. IsPageRows l n 1000 d.trees rows.items) (λ page. IsPageOfLog l n d.trees page) (Err e) h (λ old_database are. tt)

abbrev pub Left : Log → ℕ → Trees → Unit {0} → Type 0
Left l n db x = (xs : List Numbered) → AreNumbered l db xs → is_good_after l n xs ≡ is_good_after l 0 xs

module _ (d : Database) (old mid new : State) (l : Log) (n : ℕ) (first : Sees d old mid (Ok tt) (Left l n d.trees)) where
  pub pages_bad : Sees d mid new (Ok Bad) (λ page. IsPageOfLog l n d.trees page) → Sees d old new (Ok false) (λ good. FindsGoodAfter l d.trees good)
  pages_bad next =
      sees_on d old new Bad (λ page. IsPageOfLog l n d.trees page) (λ good. FindsGoodAfter l d.trees good) (Ok false)
      (sees_then d old mid new tt (Left l n d.trees) first (λ page. IsPageOfLog l n d.trees page) (λ page. IsPageOfLog l n d.trees page) (Ok Bad) (λ p b q. q)
      next)
      (λ old_database bad. record { bad = λ e. bad; canonical = λ e. absurd (cc e) })

  pub pages_last : Sees d mid new (Ok Last) (λ page. IsPageOfLog l n d.trees page) → Sees d old new (Ok true) (λ good. FindsGoodAfter l d.trees good)
  pages_last next =
      sees_on d old new Last (λ page. IsPageOfLog l n d.trees page × Left l n d.trees tt) (λ good. FindsGoodAfter l d.trees good) (Ok true)
      (sees_then d old mid new tt (Left l n d.trees) first (λ page. IsPageOfLog l n d.trees page) (λ page. IsPageOfLog l n d.trees page × Left l n d.trees tt)
      (Ok Last) (λ p b q. (q, p)) next)
      (λ old_database both. record { bad = λ e. absurd (cc e); canonical = λ e xs are. sym (both.1 xs are) ∙ both.0 xs are })

  pub pages_more : (m : ℕ) → Sees d mid new (Ok (More m)) (λ page. IsPageOfLog l n d.trees page) → Sees d old new (Ok tt) (Left l m d.trees)
  pages_more m next =
      sees_on d old new (More m) (λ page. IsPageOfLog l n d.trees page × Left l n d.trees tt) (Left l m d.trees) (Ok tt)
      (sees_then d old mid new tt (Left l n d.trees) first (λ page. IsPageOfLog l n d.trees page) (λ page. IsPageOfLog l n d.trees page × Left l n d.trees tt)
      (Ok (More m)) (λ p b q. (q, p)) next)
      (λ old_database both xs are. sym (both.0 xs are) ∙ both.1 xs are)

  pub pages_fail : (e : Error) → Sees d mid new (Err e) (λ page. IsPageOfLog l n d.trees page) → Sees d old new (Err e) (λ good. FindsGoodAfter l d.trees good)
  pages_fail e next =
      sees_then d old mid new tt (Left l n d.trees) first (λ good. FindsGoodAfter l d.trees good) (λ good. FindsGoodAfter l d.trees good) (Err e) (λ p b q. q)
      (sees_fail d mid new e (λ page. IsPageOfLog l n d.trees page) (λ good. FindsGoodAfter l d.trees good) next)

module _ (d : Database) (old mid : State) (l : Log) (low : Vec Row Global) (first : Sees d old mid (Ok low) (λ rows. FindsLow l d.trees rows.items)) where
  pub log_low : (low.items ≡ [] → ⊥) → Sees d old mid (Ok false) (λ good. FindsGood (table_of_log l) d.trees good)
  log_low some =
      sees_on d old mid low (λ rows. FindsLow l d.trees rows.items) (λ good. FindsGood (table_of_log l) d.trees good) (Ok false) first
      (λ old_database finds. record { bad = λ e. finds.some some; canonical = λ canonical. sym (finds.some some) })

  pub log_pages : (new : State) (r : Result Bool Error) → low.items ≡ [] → Sees d mid new r (λ good. FindsGoodAfter l d.trees good)
      → Sees d old new r (λ good. FindsGood (table_of_log l) d.trees good)
  log_pages new r none next =
      sees_then d old mid new low (λ rows. FindsLow l d.trees rows.items) first (λ good. FindsGoodAfter l d.trees good)
      (λ good. FindsGood (table_of_log l) d.trees good) r
      (λ finds good after. log_found l d.trees good (finds.none none) after) next

-- ---- the tables, one after the other

every_pushed : (P : Table → Type 0) (ts : List Table) (t : Table) → Every P ts → P t → Every P (ts ++ t ∷ [])
every_pushed P [] t all here = (here, tt)
every_pushed P (x ∷ ts) t all here = (all.0, every_pushed P ts t all.1 here)

one_more : (tables : List Table) (i : ℕ) (d : Table) → i < length tables → take (i + 1) tables ≡ take i tables ++ get_or tables i d ∷ []
one_more tables i d low = grind (arith, common_steps)

taken : (tables : List Table) (i : ℕ) → length tables ≤ i → take i tables ≡ tables
taken tables i h = grind (arith, common_steps)

pub every_at : (P : Table → Type 0) (ts : List Table) (i : ℕ) (d : Table) → Every P ts → i < length ts → P (get_or ts i d)
every_at P [] i d all low = absurd (omega (arith, low))
every_at P (t ∷ ts) zero d all low = all.0
every_at P (t ∷ ts) (suc i) d all low = every_at P ts i d all.1 (omega (arith, low))

abbrev pub Good : List Table → Trees → Unit {0} → Type 0
Good tables db x = IsCanonicalAs version.First db → Every (λ t. is_good_in t db ≡ true) tables

module _ (d : Database) (old mid new : State) (tables : List Table) (i : ℕ) (first : Sees d old mid (Ok tt) (Good (take i tables) d.trees)) where
  pub tables_next : (t x : Table) (good : Bool) → t ≡ get_or tables i x → i < length tables → good ≡ true
      → Sees d mid new (Ok good) (λ good. FindsGood t d.trees good)
      → Sees d old new (Ok tt) (Good (take (i + 1) tables) d.trees)
  tables_next t x good at low is next =
      sees_on d old new good (λ good. FindsGood t d.trees good × Good (take i tables) d.trees tt) (Good (take (i + 1) tables) d.trees) (Ok tt)
      (sees_then d old mid new tt (Good (take i tables) d.trees) first (λ good. FindsGood t d.trees good)
      (λ good. FindsGood t d.trees good × Good (take i tables) d.trees tt) (Ok good) (λ p b q. (q, p)) next)
      (λ old_database both canonical.
      subst (Every (λ t. is_good_in t d.trees ≡ true)) (sym (one_more tables i x low))
      (every_pushed (λ t. is_good_in t d.trees ≡ true) (take i tables) (get_or tables i x) (both.1 canonical)
      (subst (λ t. is_good_in t d.trees ≡ true) at (sym (both.0.canonical canonical) ∙ is))))

  pub tables_bad : (t : Table) (good : Bool) → Covers d.schema t → good ≡ false → Sees d mid new (Ok good) (λ good. FindsGood t d.trees good)
      → Sees d old new (Ok (Some t)) (λ bad. IsBadOf tables d bad)
  tables_bad t good covers is next =
      sees_on d old new good (λ good. FindsGood t d.trees good) (λ bad. IsBadOf tables d bad) (Ok (Some t))
      (sees_then d old mid new tt (Good (take i tables) d.trees) first (λ good. FindsGood t d.trees good) (λ good. FindsGood t d.trees good) (Ok good)
      (λ p b q. q) next)
      (λ old_database finds. (covers, finds.bad is))

  pub tables_fail : (t : Table) (e : Error) → Sees d mid new (Err e) (λ good. FindsGood t d.trees good) → Sees d old new (Err e) (λ bad. IsBadOf tables d bad)
  tables_fail t e next =
      sees_then d old mid new tt (Good (take i tables) d.trees) first (λ bad. IsBadOf tables d bad) (λ bad. IsBadOf tables d bad) (Err e) (λ p b q. q)
      (sees_fail d mid new e (λ good. FindsGood t d.trees good) (λ bad. IsBadOf tables d bad) next)

pub tables_end : (d : Database) (old new : State) (tables : List Table) (i : ℕ) → Sees d old new (Ok tt) (Good (take i tables) d.trees) → length tables ≤ i
    → Sees d old new (Ok None) (λ bad. IsBadOf tables d bad)
tables_end d old new tables i h all =
    sees_on d old new tt (Good (take i tables) d.trees) (λ bad. IsBadOf tables d bad) (Ok None) h
    (λ old_database p canonical. subst (Every (λ t. is_good_in t d.trees ≡ true)) (taken tables i all) (p canonical))

pub each_good : (v : Version) (db : Trees) → Every (λ t. is_good_in t db ≡ true) (tables_of v) → (t : Table) → IsIn v t → is_good_in t db ≡ true
each_good version.First db h table.Meta here = h.0
each_good version.First db h table.Groups here = h.1.0
each_good version.First db h table.Stations here = h.1.1.0
each_good version.First db h table.Agents here = h.1.1.1.0
each_good version.First db h table.Calls here = h.1.1.1.1.0
each_good version.First db h table.Connections here = h.1.1.1.1.1.0
each_good version.First db h table.Monitors here = h.1.1.1.1.1.1.0
each_good version.First db h table.Events here = h.1.1.1.1.1.1.1.0
each_good version.First db h table.Kept here = h.1.1.1.1.1.1.1.1.0
each_good version.First db h table.AgentGroups here = absurd here
each_good version.First db h table.GroupPriority here = absurd here
each_good version.Second db h table.Meta here = h.0
each_good version.Second db h table.Groups here = h.1.0
each_good version.Second db h table.Stations here = h.1.1.0
each_good version.Second db h table.Agents here = h.1.1.1.0
each_good version.Second db h table.Calls here = h.1.1.1.1.0
each_good version.Second db h table.Connections here = h.1.1.1.1.1.0
each_good version.Second db h table.Monitors here = h.1.1.1.1.1.1.0
each_good version.Second db h table.Events here = h.1.1.1.1.1.1.1.0
each_good version.Second db h table.Kept here = h.1.1.1.1.1.1.1.1.0
each_good version.Second db h table.AgentGroups here = h.1.1.1.1.1.1.1.1.1.0
each_good version.Second db h table.GroupPriority here = h.1.1.1.1.1.1.1.1.1.1.0

-- the tables of a version are those of a book
pub covered : (v : Version) (s : Schema) → s ≡ schema_of v → Every (Covers s) (tables_of v)
covered version.First s is = let b = version_begins version.First s is in (b, (b, (b, (b, (b, (b, (b, (b, (b, tt)))))))))
covered version.Second s is = let b = version_begins version.Second s is in (b, (b, (b, (b, (b, (b, (b, (b, (b, (is, (is, tt)))))))))))

pub bad_found : (v : Version) (d : Database) (old new : State) (t : Table) → Sees d old new (Ok (Some t)) (λ bad. IsBadOf (tables_of v) d bad)
    → Sees d old new (Ok (Some (BadRow t))) (λ f. IsRowFound v d f)
bad_found v d old new t h =
    sees_on d old new (Some t) (λ bad. IsBadOf (tables_of v) d bad) (λ f. IsRowFound v d f) (Ok (Some (BadRow t))) h (λ old_database bad. inl bad)

-- where each table is good by itself, the look finds the misplaced row
pub place_after : (v : Version) (d : Database) (old mid new : State) (r : Result (Option AdoptFault) Error)
    → Sees d old mid (Ok None) (λ bad. IsBadOf (tables_of v) d bad) → Sees d mid new r (λ f. IsPlaceFound v d f)
    → Sees d old new r (λ f. IsRowFound v d f)
place_after v d old mid new r first next =
    sees_then d old mid new None (λ bad. IsBadOf (tables_of v) d bad) first (λ f. IsPlaceFound v d f) (λ f. IsRowFound v d f) r both next
  where
    both : IsBadOf (tables_of v) d None → (f : Option AdoptFault) → IsPlaceFound v d f → IsRowFound v d f
    both all None placed = (placed, λ canonical. each_good v d.trees (all canonical))
    both all (Some f) fault = fault

-- ---- rows beside the rows that they belong to

abbrev pub IsRankFound : Database → Option AdoptFault → Type 0
IsRankFound d f = is_beside d.trees ≡ true → IsPlaceFound version.Second d f

module _ (d : Database) (old mid : State) (is : d.schema ≡ book_schema) where
  pub ranks_right : Sees d old mid (Ok true) (λ placed. placed ≡ is_ranked d.trees) → Sees d old mid (Ok None) (λ f. IsRankFound d f)
  ranks_right h = sees_on d old mid true (λ placed. placed ≡ is_ranked d.trees) (λ f. IsRankFound d f) (Ok None) h (λ old_database p beside. (beside, sym p))

  pub ranks_wrong : Sees d old mid (Ok false) (λ placed. placed ≡ is_ranked d.trees)
      → Sees d old mid (Ok (Some (BadRow table.GroupPriority))) (λ f. IsRankFound d f)
  ranks_wrong h =
      sees_on d old mid false (λ placed. placed ≡ is_ranked d.trees) (λ f. IsRankFound d f) (Ok (Some (BadRow table.GroupPriority))) h
      (λ old_database p beside. inr (inr (is, sym p)))

  pub further_wrong : Sees d old mid (Ok false) (λ placed. placed ≡ is_beside d.trees)
      → Sees d old mid (Ok (Some (BadRow table.AgentGroups))) (λ f. IsPlaceFound version.Second d f)
  further_wrong h =
      sees_on d old mid false (λ placed. placed ≡ is_beside d.trees) (λ f. IsPlaceFound version.Second d f) (Ok (Some (BadRow table.AgentGroups))) h
      (λ old_database p. inr (inr (is, sym p)))

  pub further_right : (new : State) (r : Result (Option AdoptFault) Error) → Sees d old mid (Ok true) (λ placed. placed ≡ is_beside d.trees)
      → Sees d mid new r (λ f. IsRankFound d f)
      → Sees d old new r (λ f. IsPlaceFound version.Second d f)
  further_right new r first next =
      sees_then d old mid new true (λ placed. placed ≡ is_beside d.trees) first (λ f. IsRankFound d f) (λ f. IsPlaceFound version.Second d f) r
      (λ p f q. q (sym p)) next

-- ---- the whole look

-- in no transaction
pub was_idle : (inside result : Bool) → inside ≡ false → result ≡ not inside → IsTrue result
was_idle inside result is e = rw (e, is) refl

-- the first of the tables is that of a book
begins_of_first : (tables : List Made) → AreSameFirst tables old_schema.tables → (rest : List Made) × (tables ≡ schema.table_of schema.meta ∷ rest)
begins_of_first [] h = absurd h
begins_of_first (t ∷ rest) h = (rest, ap (λ x. x ∷ rest) h)

begins_back : (tables : List Made) → (rest : List Made) × (tables ≡ schema.table_of schema.meta ∷ rest) → AreSameFirst tables old_schema.tables
begins_back [] h = absurd (cc h.1)
begins_back (t ∷ rest) h = cc h.1

-- and one whose first table isn't that of a book doesn't begin with it
pub begins_not : (a b : List Made) (s of_book : Schema) → a ≡ s.tables → b ≡ of_book.tables → of_book ≡ old_schema → BeginsAsBook s → AreSameFirst a b
begins_not a b s of_book first second is begins =
    subst₂ AreSameFirst (sym first) (sym (second ∙ ap (λ (x : Schema). x.tables) is)) (begins_back s.tables begins)

pub begins_of : (a b : List Made) (s of_book : Schema) → AreSameFirst a b → a ≡ s.tables → b ≡ of_book.tables → of_book ≡ old_schema → BeginsAsBook s
begins_of a b s of_book same first second is = begins_of_first s.tables (subst₂ AreSameFirst first (second ∙ ap (λ (x : Schema). x.tables) is) same)

-- the view of the database that is there
pub sees_at : {A : Type 0} (d : Database) (old new : State) (r : Result A Error) (P : Database → A → Type 0) → Sees old.now old new r (P old.now)
    → Sees d old new r (P d)
sees_at d old new r P h =
    let there : HasDatabase old d → Sees d old new r (P d) = λ old_database. subst (λ x. Sees x old new r (P x)) old_database.now h in
    record {
      clean = h.clean;
      was_open = h.was_open;
      up = λ k old_database. (there old_database).up k old_database;
      same = λ k old_database up. (there old_database).same k old_database up;
      stops = λ k old_database. (there old_database).stops k old_database;
      answer = λ k old_database. (there old_database).answer k old_database;
    }

module _ {A : Type 0} (old mid new : State) (r : Result A Error) (P : Database → A → Type 0) where
  pub looked : Sees {A = Unit {0}} old.now old mid (Ok tt) (λ _. ⊤) → (HasCleanDisk mid → IsTrue mid.is_open) → (HasCleanDisk mid → NoStop old mid)
      → (IsTrue old.is_open → old.now ≡ old.committed)
      → (IsTrue old.is_open → IsDatabase old.now) → Sees mid.now mid new r (P mid.now) → HasLooked old new r P
  looked first up still settled obeys next =
      let here = sees_at old.now mid new r P next in
      let old_database : HasCleanDisk mid → HasDatabase mid old.now = λ m.
      let was = first.was_open m (up m) in
      first.same m (record { is_open = was; now = refl; committed = sym (settled was) }) (up m) in
      record {
        seen = sees_then old.now old mid new tt (λ (x : Unit {0}). ⊤) first (P old.now) (P old.now) r (λ p b q. q) here;
        up = λ k. here.up k (old_database (here.clean k));
        settled = settled;
        obeys = obeys;
        stops = λ k db left. still (here.clean k) db (here.stops k (old_database (here.clean k)) db left);
      }

pub looked_not : {A : Type 0} (old new : State) (e : Error) (P : Database → A → Type 0) → Sees {A = Unit {0}} old.now old new (Err e) (λ _. ⊤)
    → (HasCleanDisk new → NoStop old new)
    → (IsTrue old.is_open → old.now ≡ old.committed) → (IsTrue old.is_open → IsDatabase old.now) → HasLooked old new (Err e) P
looked_not old new e P first still settled obeys = record {
  seen = sees_fail old.now old new e (λ _. ⊤) (P old.now) first;
  up = λ k. tt;
  settled = settled;
  obeys = obeys;
  stops = still;
}
