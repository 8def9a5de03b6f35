-- The store never refuses to make a table of a book after those before it.
use Rattle.std.proofs.Common.{◌≡◌, ◌⊎◌, inl, inr, ℕ, ◌+◌, ◌*◌, ◌^◌, ◌≤◌, nat_le, nat_lt, List, [], ◌∷◌, length, codes, Bool, true, false, ◌||◌, Option, None, Some, Result, Ok, Err, refl, sym, ap, subst, ◌∙◌, arith}
use Rattle.std.specs.List.{list_all, list_any}
use Rattle.std.specs.Str.{IsUtf8, bytes_eq}
use Rattle.std.proofs.lemmas.Bool.{and_parts}
use Rattle.std.proofs.lemmas.Bool.Decides.{nat_tests}
use Rattle.sqlite_value.specs.declared.value.Value.TheVariants.{Text}
use Rattle.sqlite_value.specs.Order.{Row}
use Rattle.sqlite_trees.specs.Sound.{begins, is_free_name, fits_kind}
use Rattle.sqlite_rules.specs.Lists.{Has}
use Rattle.sqlite_schema.specs.Rules.{table_reals, index_reals}
use Rattle.sqlite_schema.specs.declared.schema.Index.{Index}
use Rattle.sqlite_schema.specs.declared.schema.Table.{Table}
use Rattle.sqlite_schema.specs.declared.schema.Schema.{Schema}
use Rattle.sqlite_schema.specs.declared.command.Command.{Command}
use Rattle.sqlite_schema.specs.declared.command.Command.TheVariants.{CreateTable}
use Rattle.sqlite_schema.specs.declared.command.Returning.{Returning}
use Rattle.sqlite_resolve.specs.declared.compiled.Compiled.{Compiled}
use Rattle.sqlite_resolve.specs.declared.error.CompileError.{CompileError}
use Rattle.sqlite_resolve.specs.Compile.{table_defined_by}
use Rattle.sqlite_catalog.specs.declared.error.Refusal.{Refusal}
use Rattle.sqlite_catalog.specs.declared.error.Refusal.TheVariants as why
use Rattle.sqlite_catalog.specs.Calls.{RefusesTable}
use Rattle.sqlite_catalog.specs.Change.{is_used, is_reserved, next_tree, automatics, created}
use Rattle.sqlite_catalog.specs.Listing.{is_formed, is_fit}
use Rattle.sqlite.specs.declared.error.Error.{Error}
use Rattle.sqlite.specs.Clock.{timed}
use Rattle.sqlite.specs.Given.{IsPlain}
use Rattle.sqlite.specs.Does.{Does, MakesTable as MakesAsked, MakesSequence, lacks_sequence}
use Rattle.sqlite.specs.Effect.{Database}
use Rattle.sqlite.specs.Listing.{understood}
use Rattle.sqlite.specs.State.{shows_rows, text_of}
use Rattle.acd_sql_columns.specs.SchemaSteps.{MakesTable, create_command, statement_of}
use Rattle.acd_sql_statements.specs.StoreFailures.{IsUnreadText, IsEnding, Refuses, at_once}
use Rattle.acd_sql_statements.proofs.ReadTexts.{within}
use Rattle.acd_sql_columns.proofs.Results.QueryAnswers.{text_tied}
use Rattle.acd_terms.proofs.Texts.{utf8_ascii}

abbrev pub is_ascii : ℕ → Bool
is_ascii b = nat_lt b 128

-- one text, with no parameter
abbrev pub IsOne : List ℕ → Result Compiled CompileError → Type 0
IsOne text (Ok c) = (nat_le (length text) c.tail ≡ true) × (c.names ≡ [])
IsOne text (Err e) = ⊥

-- the name is free, the table is well formed, and the text isn't too long
pub record IsTaken (s : Schema) (text : List ℕ) (t : Table) : Type 0 where
  pub one : IsOne text (understood s text)
  pub ascii : (list_all is_ascii text ≡ true) × (list_all is_ascii t.name ≡ true)
  pub free : (is_used s t.name ≡ false) × (list_any (λ (i : Index). is_used s i.name) (automatics t 0 0 t.uniques) ≡ false)
  pub plain : is_reserved t.name ≡ false
  pub low : nat_lt (next_tree s + length t.uniques) 65536 ≡ true
  pub reals : (nat_lt (table_reals t) (2 ^ 64) ≡ true) × (list_all (λ (key : List ℕ). nat_lt (index_reals (table_reals t) key) (2 ^ 64)) t.uniques ≡ true)
  pub formed : is_formed t ≡ true
  pub fit : (bytes_eq t.name t.name ≡ true) × (is_free_name t.name ≡ true) × (begins (codes "create") (Text text) ≡ true)
      × (begins (codes "create virtual") (Text text) ≡ false)
  pub short : nat_lt (2 * length t.name + length text + 200) (10 ^ 9) ≡ true

no_more : (n m : ℕ) → nat_lt n m ≡ true → m ≤ n → ⊥
no_more n m low high = grind (arith, nat_tests)

fit_for : (name text : List ℕ) → bytes_eq name name ≡ true → is_free_name name ≡ true → begins (codes "create") (Text text) ≡ true
    → begins (codes "create virtual") (Text text) ≡ false
    → is_fit (Text (codes "table")) (Text name) (Text name) (Text text) ≡ true
unfolding fits_kind
fit_for name text same free creates virtual =
    rw (
      text_tied (codes "table") (codes "index"),
      text_tied (codes "table") (codes "table"),
      text_tied (codes "table") (codes "view"),
      text_tied (codes "table") (codes "trigger"),
      text_tied name name,
      same,
      free,
      creates,
      virtual,
    ) refl

any_has : {X : Type 0} (p : X → Bool) (xs : List X) (x : X) → list_any p xs ≡ false → Has xs x → p x ≡ true → ⊥
any_has p [] x none h is = h
any_has p (y ∷ xs) x none (inl same) is = absurd (let passes = sym (ap p same) ∙ is in let clash = rw passes at none in cc)
any_has p (y ∷ xs) x none (inr h) is = any_has p xs x (rest (p y) (list_any p xs) none) h is
  where
    rest : (a b : Bool) → (a || b) ≡ false → b ≡ false
    rest true b e = absurd (cc e)
    rest false b e = e

all_has : {X : Type 0} (p : X → Bool) (xs : List X) (x : X) → list_all p xs ≡ true → Has xs x → p x ≡ true
all_has p [] x all h = absurd h
all_has p (y ∷ xs) x all (inl same) = ap p same ∙ (and_parts (p y) (list_all p xs) all).0
all_has p (y ∷ xs) x all (inr h) = all_has p xs x (and_parts (p y) (list_all p xs) all).1 h

module _ (s : Schema) (text : List ℕ) (t : Table) (m : MakesTable s text t) (k : IsTaken s text t) where
  -- the text defines this table
  same_table : (u : Table) → table_defined_by text ≡ Ok u → u ≡ t
  same_table u is = cc (sym is ∙ m.defined)

  refuses : (reason : Refusal) → RefusesTable s text reason → ⊥
  refuses (why.Invalid e) h = absurd (let apart = sym h ∙ m.defined in cc)
  refuses why.NameTaken h =
      elim (subst (λ u. (is_used s u.name ≡ true) ⊎ ((index : Index) × Has (automatics u 0 0 u.uniques) index × (is_used s index.name ≡ true)))
      (same_table h.0 h.1) h.2) [
        | inl used ↦ absurd (let apart = sym used ∙ k.free.0 in cc)
        | inr some ↦ any_has (λ (i : Index). is_used s i.name) (automatics t 0 0 t.uniques) some.0 k.free.1 some.1 some.2
      ]
  refuses why.BadName h = elim h.2 [
    | inl unread ↦ unread (subst (λ u. IsUtf8 u.name) (sym (same_table h.0 h.1)) (utf8_ascii t.name k.ascii.1))
    | inr reserved ↦ absurd (let apart = sym (subst (λ u. is_reserved u.name ≡ true) (same_table h.0 h.1) reserved.0) ∙ k.plain in cc)
  ]
  refuses why.TooBig h =
      elim (subst
      (λ u. (65536 ≤ next_tree s + length u.uniques)
      ⊎ ((2 ^ 64 ≤ table_reals u) ⊎ ((key : List ℕ) × Has u.uniques key × (2 ^ 64 ≤ index_reals (table_reals u) key))))
      (same_table h.0 h.1) h.2) [
        | inl many ↦ no_more _ _ k.low many
        | inr wide ↦ elim wide [
          | inl reals ↦ no_more _ _ k.reals.0 reals
          | inr key ↦ no_more _ _ (all_has (λ (key : List ℕ). nat_lt (index_reals (table_reals t) key) (2 ^ 64)) t.uniques key.0 k.reals.1 key.1) key.2
        ]
      ]
  refuses why.BadKey h = absurd (let apart = sym (subst (λ u. is_formed u ≡ false) (same_table h.0 h.1) h.2) ∙ k.formed in cc)
  refuses why.BadText h =
      absurd (
      let apart =
      sym (subst (λ u. is_fit (Text (codes "table")) (Text u.name) (Text u.name) (Text text) ≡ false) (same_table h.0 h.1) h.2)
      ∙ fit_for t.name text k.fit.0 k.fit.1 k.fit.2 k.fit.3 in
      cc)
  refuses (why.Violates rule) h = h

  unmade : (d : Database) → d.schema ≡ s → (stop : Option Error) → MakesAsked text d (Err stop) → ⊥
  unmade d is None h = no_more _ _ k.short (subst (λ u. 10 ^ 9 ≤ 2 * length u.name + length text + 200) (same_table h.0 h.1) h.2)
  unmade d is (Some e) (inl h) = h.0 (utf8_ascii text k.ascii.0)
  unmade d is (Some e) (inr h) = refuses h.0 (subst (λ x. RefusesTable x text h.0) is h.1)

  unnumbered : (d after : Database) → d.schema ≡ s → MakesAsked text d (Ok after) → (stop : Option Error) → MakesSequence after (Err stop) → ⊥
  unnumbered d after is made stop h =
      let same : after.schema ≡ created s t = made.is ∙ ap (λ x. created x made.table) is ∙ ap (created s) (same_table made.table made.defined) in
      absurd (let none = rw (ap lacks_sequence same ∙ m.uncounted) at h in cc)

  undone : (limit : Option ℕ) (d : Database) → d.schema ≡ s → (stop : Option Error) → Does limit at_once [] d text None CreateTable (Err stop) → ⊥
  undone limit d is stop (inl h) = elim h.1 [
    | inl first ↦ unmade d is first.0 first.1
    | inr second ↦ unnumbered d second.0 is second.1 h.0 second.2
  ]
  undone limit d is stop (inr h) = absurd (cc h.2)

  against : (limit : Option ℕ) (d : Database) → d.schema ≡ s → (stop : Option Error) (params : Row) (x : List ℕ) (r : Option Returning) (k : Command)
      → params ≡ [] → x ≡ text → r ≡ None → k ≡ CreateTable
      → Does limit at_once params d x r k (Err stop) → ⊥
  against limit d is stop params x r k none same bare makes h =
      undone limit d is stop
      (subst (λ p. Does limit at_once p d text None CreateTable (Err stop)) none
      (subst (λ x. Does limit at_once params d x None CreateTable (Err stop)) same
      (subst (λ r. Does limit at_once params d x r CreateTable (Err stop)) bare
      (subst (λ k. Does limit at_once params d x r k (Err stop)) makes h))))

  no_ending : IsEnding CreateTable → ⊥
  no_ending (inl begin) = absurd (cc begin)
  no_ending (inr (inl commit)) = absurd (cc commit)
  no_ending (inr (inr (inl rollback))) = absurd (cc rollback)
  no_ending (inr (inr (inr name))) = elim name.1 [ inl release ↦ absurd (cc release) | inr back ↦ absurd (cc back) ]

  no_show : (c : Compiled) → c.command ≡ CreateTable → c.returning ≡ None → shows_rows false c ≡ true → ⊥
  no_show c makes bare shows = absurd (let none = rw (makes, bare) at shows in cc)

  readable : IsUnreadText s text [] → ⊥
  readable (inl h) = subst (IsOne text) h.1 k.one
  readable (inr h) =
      let one = subst (IsOne text) h.1 k.one in
      let plain = subst IsPlain h.1 m.plain in
      elim h.2 [
        | inl long ↦ long (within (length text) h.0.tail one.0)
        | inr other ↦ elim other [ inl given ↦ given (sym (ap length one.1)) | inr dated ↦ dated plain.1 ]
      ]

  pub never_refused : (limit : Option ℕ) (d : Database) → d.schema ≡ s → ¬ (Refuses limit d text [])
  unfolding Refuses
  never_refused limit d is (inl unread) = readable (subst (λ x. IsUnreadText x text []) is unread)
  never_refused limit d is (inr h) =
      let known : understood s text ≡ Ok h.0 = sym (ap (λ x. understood x text) is) ∙ h.1 in
      let makes : h.0.command ≡ CreateTable = ap create_command (sym known) ∙ m.command in
      let plain = subst IsPlain known m.plain in
      let same : text_of text h.0 ≡ text = ap (statement_of text) (sym known) ∙ m.statement in
      elim h.2 [
        | inl ending ↦ no_ending (subst IsEnding makes ending)
        | inr other ↦ elim other [
          | inl shows ↦ no_show h.0 makes plain.0 shows
          | inr run ↦
              let none : timed [] h.0.formats run.0 ≡ [] = ap (λ f. timed [] f run.0) plain.1 in
              elim run.1 [
                | inl read ↦ against limit d is (Some read.0) (timed [] h.0.formats run.0) (text_of text h.0) h.0.returning h.0.command none same plain.0 makes
                    read.1
                | inr large ↦ against limit d is None (timed [] h.0.formats run.0) (text_of text h.0) h.0.returning h.0.command none same plain.0 makes large
              ]
        ]
      ]
