-- The transaction that makes the tables and the row of the limits leaves a new book.
use Rattle.std.proofs.Common.{◌≡◌, [], inl, inr, false, Result, Ok, Err, IsTrue, OnOk, sym, subst}
use Rattle.sqlite_trees.specs.Tree.{Trees}
use Rattle.sqlite.specs.declared.error.Error.{Error}
use Rattle.sqlite.specs.State.{State, HasCleanDisk, KeepsCounts, Shows, Survives}
use Rattle.acd_terms.specs.declared.rows.Limits.{Limits}
use Rattle.acd_book.specs.Content.{empty_content}
use Rattle.acd_sql_columns.specs.declared.tables.Table.TheVariants as table
use Rattle.acd_sql_columns.specs.Content.{with_part}
use Rattle.acd_sql_columns.specs.InRange.{IsGoodMeta}
use Rattle.acd_sql_columns.specs.Relations.{relations_of}
use Rattle.acd_sql_columns.specs.Transactions.{HoldsContent, HoldsGood, HoldsUncommitted, IsBook}
use Rattle.acd_sql_columns.proofs.Writes.TransactionEnds.{holds_committed}
use Rattle.acd_sql_columns.proofs.Rows.KeptInRange.{empty_in_range}
use Rattle.acd_sql_schema.specs.Creation.{MayMake, start_of}

module _ (limits : Limits) where
  pub holds_new : (mid : State) → HoldsUncommitted mid (with_part table.Meta (start_of limits) (relations_of (empty_content limits)))
      → IsGoodMeta (start_of limits) → HoldsGood mid (empty_content limits)
  holds_new mid holds good = record { relations = holds; range = empty_in_range limits good }

  module _ (old begun mid new : State) (good : HoldsGood mid (empty_content limits)) where
    pub makes_new : (r : Result (Unit {0}) Error)
        → OnOk r (IsTrue mid.in_transaction × Shows mid new mid.now mid.now false × KeepsCounts mid new × (new.marks ≡ []))
        → OnOk r (HoldsContent new (empty_content limits))
    makes_new (Err e) ended = tt
    makes_new (Ok x) ended = holds_committed mid new (empty_content limits) good ended.1

    pub may_make : ((db : Trees) → begun.may_leave db → old.may_leave db) → Survives begun mid (λ _. ⊥) → Survives mid new (λ db. db ≡ mid.now.trees)
        → HasCleanDisk mid → HasCleanDisk new → MayMake old new limits
    may_make back first second middle late db left = elim (second.crash late db left) [
      | inl was ↦ elim (first.crash middle db was) [ inl older ↦ inl (back db older) | inr none ↦ absurd none ]
      | inr made ↦
          inr (subst (λ d. IsBook d (empty_content limits)) (sym made) (record {
            sound = good.relations.sound;
            encodes = good.relations.tables;
            range = good.range;
          }))
    ]
