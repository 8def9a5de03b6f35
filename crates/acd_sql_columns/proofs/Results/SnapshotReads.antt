-- Reads of a database, whatever it holds, one after the other.
use Rattle.std.proofs.Common.{◌⊎◌, inl, inr, ℕ, List, Result, Ok, Err, sym, subst, ◌∙◌, IsTrue, IfOk, IfErr, arith}
use Rattle.std.specs.Prelude.{Vec}
use Rattle.std.specs.declared.alloc.Global.{Global}
use Rattle.sqlite_trees.specs.Tree.{Trees}
use Rattle.sqlite_value.specs.Order.{Row}
use Rattle.sqlite.specs.declared.error.Error.{Error}
use Rattle.sqlite.specs.Effect.{Database}
use Rattle.sqlite.specs.Listing.{understood}
use Rattle.sqlite.specs.State.{State, HasCleanDisk, Survives, FailsToQuery, Shown, CommitsShowing, IsUnchanged, IsRolledBack}
use Rattle.sqlite.proofs.Callers.{IsPlain, never_commits}
use Rattle.acd_sql_columns.specs.Transactions.{NoStop}
use Rattle.acd_sql_columns.specs.DatabaseView.{HasDatabase, Sees}
use Rattle.acd_sql_columns.proofs.Results.Queries.{fails_query, shown_open, shown_same}

-- ---- one read

module _ (d : Database) (old new : State) where
  still : IsUnchanged old new → HasDatabase old d → HasDatabase new d
  still same old_database = record {
    is_open = same.0.is_open;
    now = same.0.now_is ∙ old_database.now;
    committed = same.0.committed_is ∙ old_database.committed;
  }

  rolled : IsRolledBack old new → HasDatabase old d → IsTrue new.is_open → HasDatabase new d
  rolled back old_database up = let was = back.undone up in
      record { is_open = up; now = was.0 ∙ old_database.committed; committed = was.1 ∙ old_database.committed }

  module _ {P : Trees → Type 0} (s : Survives old new P) (never : HasDatabase old d → (db : Trees) → ¬ P db) where
    no_stop : HasCleanDisk new → HasDatabase old d → NoStop old new
    no_stop k old_database db left = elim (s.crash k db left) [ inl was ↦ was | inr made ↦ absurd (never old_database db made) ]

    pub sees_failed : {A : Type 0} (e : Error) (IsAnswer : A → Type 0) → (HasCleanDisk new → IsUnchanged old new ⊎ IsRolledBack old new)
        → Sees d old new (Err e) IsAnswer
    sees_failed e IsAnswer ends = record {
      clean = λ k. omega (arith, s.clean);
      up = λ k old_database. tt;
      was_open = λ k up. elim (ends k) [ inl same ↦ same.0.was_open | inr back ↦ back.was_open up ];
      same = λ k old_database up. elim (ends k) [ inl same ↦ still same old_database | inr back ↦ rolled back old_database up ];
      stops = no_stop;
      answer = λ k old_database. tt;
    }

    pub sees_shown : {A : Type 0} (a : A) (IsAnswer : A → Type 0) → (HasCleanDisk new → IsTrue old.is_open × IsTrue new.is_open)
        → (HasCleanDisk new → HasDatabase old d → IsUnchanged old new)
        → (HasCleanDisk new → HasDatabase old d → IsAnswer a) → Sees d old new (Ok a) IsAnswer
    sees_shown a IsAnswer both same answer = record {
      clean = λ k. omega (arith, s.clean);
      up = λ k old_database. (both k).1;
      was_open = λ k up. (both k).0;
      same = λ k old_database up. still (same k old_database) old_database;
      stops = no_stop;
      answer = answer;
    }

plain_in : (sql : List ℕ) (d : Database) (s : State) → HasDatabase s d → IsPlain (understood d.schema sql) → IsPlain (understood s.now.schema sql)
plain_in sql d s old_database plain = subst (λ (x : Database). IsPlain (understood x.schema sql)) (sym old_database.now) plain

-- all rows of an answer
pub sees_query : (sql : List ℕ) (params : Row) (d : Database) (old new : State) (r : Result (Vec Row Global) Error) → IsPlain (understood d.schema sql)
    → Survives old new (CommitsShowing sql params old)
    → (HasCleanDisk new → IfOk r (λ rows. Shown sql params old new rows.items)) → (HasCleanDisk new → IfErr r (FailsToQuery sql params old new))
    → Sees d old new r (λ rows. Shown sql params old new rows.items)
sees_query sql params d old new (Err e) plain s ok err =
    sees_failed d old new s (λ old_database db. never_commits sql params old db (plain_in sql d old old_database plain)) e
    (λ (rows : Vec Row Global). Shown sql params old new rows.items) (λ k. fails_query sql params old new e (err k))
sees_query sql params d old new (Ok rows) plain s ok err =
    sees_shown d old new s (λ old_database db. never_commits sql params old db (plain_in sql d old old_database plain)) rows
    (λ (rows : Vec Row Global). Shown sql params old new rows.items)
    (λ k. shown_open sql params old new rows.items (ok k))
    (λ k old_database. shown_same sql params old new rows.items (plain_in sql d old old_database plain) (ok k)) (λ k old_database. ok k)

-- ---- one read after another

pub still_here : {A : Type 0} (d : Database) (old mid : State) (a : A) (P : A → Type 0) → Sees d old mid (Ok a) P → HasCleanDisk mid → HasDatabase old d
    → HasDatabase mid d
still_here d old mid a P first m old_database = first.same m old_database (first.up m old_database)

module _ {A B : Type 0} (d : Database) where
  -- the answer of a read is used for the next result
  pub sees_on : (old new : State) (a : A) (P : A → Type 0) (Q : B → Type 0) (r : Result B Error) → Sees d old new (Ok a) P
      → (HasDatabase old d → P a → IfOk r Q) → Sees d old new r Q
  sees_on old new a P Q (Ok b) h on = record {
    clean = h.clean;
    up = h.up;
    was_open = h.was_open;
    same = h.same;
    stops = h.stops;
    answer = λ k old_database. on old_database (h.answer k old_database);
  }
  sees_on old new a P Q (Err e) h on = record {
    clean = h.clean;
    up = λ k old_database. tt;
    was_open = h.was_open;
    same = h.same;
    stops = h.stops;
    answer = λ k old_database. tt;
  }

  pub sees_fail : (old new : State) (e : Error) (P : A → Type 0) (Q : B → Type 0) → Sees d old new (Err e) P → Sees d old new (Err e) Q
  sees_fail old new e P Q h = record {
    clean = h.clean;
    up = λ k old_database. tt;
    was_open = h.was_open;
    same = h.same;
    stops = h.stops;
    answer = λ k old_database. tt;
  }

  module _ (old mid new : State) (a : A) (P : A → Type 0) (first : Sees d old mid (Ok a) P) where
    ok_both : (Q W : B → Type 0) (r : Result B Error) → (P a → (b : B) → Q b → W b) → P a → IfOk r Q → IfOk r W
    ok_both Q W (Ok b) both p q = both p b q
    ok_both Q W (Err e) both p q = tt

    pub sees_then : (Q W : B → Type 0) (r : Result B Error) → (P a → (b : B) → Q b → W b) → Sees d mid new r Q → Sees d old new r W
    sees_then Q W r both next = record {
      clean = λ k. first.clean (next.clean k);
      up = λ k old_database. next.up k (still_here d old mid a P first (next.clean k) old_database);
      was_open = λ k up. first.was_open (next.clean k) (next.was_open k up);
      same = λ k old_database up. next.same k (still_here d old mid a P first (next.clean k) old_database) up;
      stops =
          λ k old_database db left. first.stops (next.clean k) old_database db
          (next.stops k (still_here d old mid a P first (next.clean k) old_database) db left);
      answer =
          λ k old_database. ok_both Q W r both (first.answer (next.clean k) old_database)
          (next.answer k (still_here d old mid a P first (next.clean k) old_database));
    }

-- a connection that is open, before the first read
pub sees_here : {A : Type 0} (d : Database) (s : State) (a : A) (P : A → Type 0) → (HasDatabase s d → P a) → Sees d s s (Ok a) P
sees_here d s a P here = record {
  clean = λ k. k;
  up = λ k old_database. old_database.is_open;
  was_open = λ k up. up;
  same = λ k old_database up. old_database;
  stops = λ k old_database db left. left;
  answer = λ k old_database. here old_database;
}

-- a consequence of the answer of a read is seen too
pub sees_so : {A : Type 0} (d : Database) (old new : State) (r : Result A Error) (P Q : A → Type 0) → (HasDatabase old d → (a : A) → P a → Q a)
    → Sees d old new r P → Sees d old new r Q
sees_so d old new (Ok a) P Q so h = sees_on d old new a P Q (Ok a) h (λ old_database p. so old_database a p)
sees_so d old new (Err e) P Q so h = sees_fail d old new e P Q h
