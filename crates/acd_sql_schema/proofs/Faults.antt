-- Why a look at a database fails that may be a book.
use Rattle.std.proofs.Common.{◌≡◌, ◌≢◌, ◌+◌, ◌-◌, ◌^◌, inl, inr, ℕ, ◌<◌, ◌≤◌, min, length, take, get_or, true, false, List, Result, Ok, refl, sym, ap, subst, subst₂, ◌∙◌, Bool, arith}
use Rattle.sqlite_schema.specs.declared.schema.Schema.{Schema}
use Rattle.sqlite_schema.specs.declared.schema.Table.{Table as Made}
use Rattle.sqlite.specs.Effect.{Database}
use Rattle.sqlite.specs.State.{State}
use Rattle.sqlite.specs.declared.error.Error.{Error}
use Rattle.acd_terms.specs.Lists.{Every}
use Rattle.acd_sql_columns.specs.declared.tables.Log.{Log}
use Rattle.acd_sql_columns.specs.declared.tables.Table.{Table}
use Rattle.acd_sql_columns.specs.declared.tables.Version.{Version}
use Rattle.acd_sql_columns.specs.declared.tables.Version.TheVariants as version
use Rattle.acd_sql_columns.specs.AnyRows.{AreSameFirst, BeginsAsBook, Covers, IsCanonical, schema_of, FindsGood}
use Rattle.acd_sql_columns.specs.Schema.{tables_1, old_schema, book_schema, BeginsSchema}
use Rattle.acd_sql_columns.specs.DatabaseView.{HasDatabase, Sees}
use Rattle.acd_sql_statements.specs.ComparedSchemas.{is_plain_schema, is_plain_first}
use Rattle.acd_sql_statements.specs.StoreFailures.{IsMemory}
use Rattle.acd_sql_statements.specs.Looks.{HasLookCause}
use Rattle.acd_sql_statements.proofs.LookCauses.{looks_then}
use Rattle.acd_sql_schema.specs.declared.verdict.Page.{Page}
use Rattle.acd_sql_schema.specs.Inspection.{HasCanonical, IsNoBook, IsPaged, IsPageOfLog}
use Rattle.acd_sql_schema.specs.Creation.{FailsToMake}
use Rattle.acd_sql_schema.proofs.Contents.{as_first}
use Rattle.acd_sql_schema.proofs.InspectionReads.{Good, Left, begins_not, every_at}

-- ---- one after another

module _ (l : Log) (n : ℕ) (old mid new : State) (seen : (d : Database) → BeginsSchema tables_1 d.schema → Sees {A = Unit {0}} d old mid (Ok tt) (Left l n d.trees))
    (first : HasLookCause {A = Unit {0}} (IsPaged l) old mid (Ok tt)) where
  pub pages_looked : (r : Result Page Error) → ((d : Database) → BeginsSchema tables_1 d.schema → Sees d mid new r (λ page. IsPageOfLog l n d.trees page))
      → HasLookCause (IsPaged l) mid new r → HasLookCause (IsPaged l) old new r
  pages_looked r last next =
      looks_then (IsPaged l) (IsPaged l) (IsPaged l) (λ (d : Database) (x : Unit {0}). Left l n d.trees x)
      (λ (d : Database) (page : Page). IsPageOfLog l n d.trees page) old mid new tt r (λ d h. h) first (λ d h. seen d h.0) (λ d h p. h) (λ d h. last d h.0)
      next

module _ (old mid new : State) (tables : List Table) (i : ℕ)
    (seen : (d : Database) → Every (Covers d.schema) tables → Sees {A = Unit {0}} d old mid (Ok tt) (Good (take i tables) d.trees))
    (first : HasLookCause {A = Unit {0}} (HasCanonical (λ s. Every (Covers s) tables)) old mid (Ok tt)) where
  pub tables_looked : (t x : Table) (r : Result Bool Error) → t ≡ get_or tables i x → i < length tables
      → ((d : Database) → Covers d.schema t → Sees d mid new r (λ good. FindsGood t d.trees good)) → HasLookCause (HasCanonical (λ s. Covers s t)) mid new r
      → HasLookCause (HasCanonical (λ s. Every (Covers s) tables)) old new r
  tables_looked t x r at low last next =
      let covers : (d : Database) → Every (Covers d.schema) tables → Covers d.schema t =
      λ d all. subst (Covers d.schema) (sym at) (every_at (Covers d.schema) tables i x all low) in
      looks_then (HasCanonical (λ s. Every (Covers s) tables)) (HasCanonical (λ s. Every (Covers s) tables)) (HasCanonical (λ s. Covers s t))
      (λ (d : Database) (u : Unit {0}). Good (take i tables) d.trees u) (λ (d : Database) (good : Bool). FindsGood t d.trees good)
      old mid new tt r (λ d h. h) first (λ d h. seen d h.0) (λ d h p. (covers d h.0, h.1)) (λ d h. last d (covers d h.0)) next

-- the rows of the database that is there are canonical
pub canonical_there : (v : Version) (s : State) (d : Database) → s.now.schema ≡ schema_of v → HasDatabase s d → IsCanonical d
    → HasCanonical (λ x. x ≡ schema_of v) d
canonical_there v s d is old_database canonical =
    let here = sym (ap (λ (x : Database). x.schema) old_database.now) ∙ is in (here, as_first v d.trees (canonical v here))

-- ---- comparisons

plain_new : is_plain_schema book_schema ≡ true
plain_new = refl

plain_old : is_plain_schema old_schema ≡ true
plain_old = refl

pub plain_first : is_plain_first old_schema.tables ≡ true
plain_first = refl

pub plain_as : (v : Version) → is_plain_schema (schema_of v) ≡ true
plain_as version.First = plain_old
plain_as version.Second = plain_new

-- another schema than that of a version, by the answer of a comparison
pub not_same : (v : Version) (s of_book : Schema) (same : Bool) → of_book ≡ schema_of v → (is_plain_schema of_book ≡ true → s ≡ of_book → same ≡ true)
    → same ≡ false → s ≢ schema_of v
not_same v s of_book same is back differs e = absurd (let apart = sym (back (ap is_plain_schema is ∙ plain_as v) (e ∙ sym is)) ∙ differs in cc)

pub no_book : (s : Schema) → s ≢ old_schema → s ≢ book_schema → IsNoBook s
no_book s old new version.First = old
no_book s old new version.Second = new

-- nor does it begin with the first table of a book
pub not_first : (a b : List Made) (s of_book : Schema) (same : Bool) → a ≡ s.tables → b ≡ of_book.tables → of_book ≡ old_schema
    → (is_plain_first b ≡ true → AreSameFirst a b → same ≡ true) → same ≡ false → ¬ (BeginsAsBook s)
not_first a b s of_book same first second is back differs begins =
    let plain : is_plain_first b ≡ true = ap is_plain_first (second ∙ ap (λ (x : Schema). x.tables) is) ∙ plain_first in
    absurd (let apart = sym (back plain (begins_not a b s of_book first second is begins)) ∙ differs in cc)

-- ---- tables in memory

-- a store in memory never fails
none_more : (m n : ℕ) → m ≡ 0 → n ≡ 0 → min (m + 1) (2 ^ 64 - 1) ≤ n → ⊥
none_more m n a b h = let low : 1 ≤ 0 = subst₂ (λ m n. min (m + 1) (2 ^ 64 - 1) ≤ n) a b h in omega (arith, low)

pub only_memory : (old new : State) (e : Error) → old.faults ≡ 0 → new.faults ≡ 0 → old.is_open ≡ true → FailsToMake old new e → IsMemory e
only_memory old new e none still up (inl memory) = memory
only_memory old new e none still up (inr (inl more)) = absurd (none_more old.faults new.faults none still more)
only_memory old new e none still up (inr (inr shut)) = absurd (let apart = sym up ∙ shut in cc)
