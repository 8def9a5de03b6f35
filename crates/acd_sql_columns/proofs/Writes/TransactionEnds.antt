-- The end of a transaction: what it leaves.
use Rattle.std.proofs.Common.{◌≡◌, [], inl, inr, true, false, Result, Ok, Err, IsTrue, IfErr, OnOk, OnErr, arith, sym, ap, subst, ◌∙◌}
use Rattle.sqlite_trees.specs.Tree.{Trees}
use Rattle.sqlite.specs.declared.error.Error.{Error}
use Rattle.sqlite_catalog.specs.Listing.{IsSound}
use Rattle.sqlite.specs.Effect.{Database}
use Rattle.sqlite.specs.State.{State, HasCleanDisk, KeepsCommit, KeepsCounts, IsRolledBack, Shows, Survives}
use Rattle.sqlite.specs.Steps.{FailsToCommit}
use Rattle.acd_book.specs.Content.{Content}
use Rattle.acd_sql_columns.specs.Schema.{book_schema}
use Rattle.acd_sql_columns.specs.Content.{Encodes}
use Rattle.sqlite.proofs.StateLemmas.{survives_then}
use Rattle.acd_sql_columns.specs.Transactions.{HoldsGood, HoldsContent, IsBook, Works, AddsStop, NoStop}

-- a database that is as it was still has its content
pub holds_still : (old new : State) (c : Content) → HoldsContent old c → IsTrue new.is_open → new.now ≡ old.committed → new.committed ≡ old.committed
    → HoldsContent new c
holds_still old new c h up now committed = record {
  is_open = up;
  idle = now ∙ sym committed;
  schema = ap (λ (d : Database). d.schema) committed ∙ h.schema;
  sound = subst (λ (d : Database). IsSound book_schema d.trees) (sym committed) h.sound;
  encodes = subst (λ (d : Database). Encodes d.trees c) (sym committed) h.encodes;
  range = h.range;
}

-- and whatever has the same trees opens as a book of it
pub is_book : (s : State) (c : Content) (db : Trees) → HoldsContent s c → db ≡ s.committed.trees → IsBook db c
is_book s c db h is = subst (λ t. IsBook t c) (sym is) (record { sound = h.sound; encodes = h.encodes; range = h.range })

pub rolled_back : (old mid new : State) (c : Content) → HoldsContent old c → KeepsCommit old mid → IsRolledBack mid new → IsTrue new.is_open
    → HoldsContent new c
rolled_back old mid new c h kept back up =
    let same = kept.committed (back.was_open up) in
    holds_still old new c h up ((back.undone up).0 ∙ same) ((back.undone up).1 ∙ same)

pub not_committed : {X : Type 0} (old mid new : State) (r : Result X Error) → KeepsCommit old mid
    → ((c : Content) → HoldsContent old c → mid.in_transaction ≡ true) → IfErr r (FailsToCommit mid new)
    → OnErr r ((c : Content) → HoldsContent old c → IsTrue new.is_open → HoldsContent new c)
not_committed old mid new (Ok x) kept inside fails = tt
not_committed old mid new (Err e) kept inside fails = λ (c : Content) (h : HoldsContent old c) (up : IsTrue new.is_open). elim fails [
  | inl failed ↦ rolled_back old mid new c h kept failed.3 up
  | inr late ↦ absurd (let e = sym (inside c h) ∙ late.1 in cc)
]

pub begins : (old begun : State) (c : Content) → begun.in_transaction ≡ true → begun.now ≡ old.now → HoldsContent old c → HoldsGood begun c
begins old begun c inside same h =
    let now = same ∙ h.idle in
    record {
      relations = record {
        inside = inside;
        schema = ap (λ (d : Database). d.schema) now ∙ h.schema;
        sound = subst (λ (d : Database). IsSound book_schema d.trees) (sym now) h.sound;
        tables = subst (λ (d : Database). Encodes d.trees c) (sym now) h.encodes;
      };
      range = h.range;
    }

pub works_on : (a b c : State) → Works a b → Works b c → Works a c
works_on a b c p q = record {
  survives = survives_then a b c _ _ (λ _. ⊥) (λ _ db none. none) (λ _ db none. none) p.survives q.survives;
  kept = λ clean.
      let k = p.kept (omega (arith, q.survives.clean)) in
      let l = q.kept clean in
      record { was_open = λ up. k.was_open (l.was_open up); committed = λ up. l.committed up ∙ k.committed (l.was_open up) };
}

-- the connection holds the result of the transaction
pub holds_committed : (mid new : State) (c : Content) → HoldsGood mid c → Shows mid new mid.now mid.now false → HoldsContent new c
holds_committed mid new c d s = record {
  is_open = s.is_open;
  idle = s.now_is ∙ sym s.committed_is;
  schema = ap (λ (d : Database). d.schema) s.committed_is ∙ d.relations.schema;
  sound = subst (λ (d : Database). IsSound book_schema d.trees) (sym s.committed_is) d.relations.sound;
  encodes = subst (λ (d : Database). Encodes d.trees c) (sym s.committed_is) d.relations.tables;
  range = d.range;
}

-- the end of a transaction commits what was uncommitted
pub made_whole : (old mid new : State) (r : Result (Unit {0}) Error) (change : Content → Content)
    → ((c : Content) → HoldsContent old c → HoldsGood mid (change c))
    → OnOk r (IsTrue mid.in_transaction × Shows mid new mid.now mid.now false × KeepsCounts mid new × (new.marks ≡ []))
    → OnOk r ((c : Content) → HoldsContent old c → HoldsContent new (change c))
made_whole old mid new (Err e) change put ended = tt
made_whole old mid new (Ok x) change put ended = λ (c : Content) (h : HoldsContent old c). holds_committed mid new (change c) (put c h) ended.1

-- and nothing else is added to the stops
pub adds_stop : (old begun mid new : State) (change : Content → Content) → NoStop old begun → Survives begun mid (λ _. ⊥)
    → Survives mid new (λ db. db ≡ mid.now.trees)
    → ((c : Content) → HoldsContent old c → HoldsGood mid (change c)) → HasCleanDisk mid → HasCleanDisk new → AddsStop old new change
adds_stop old begun mid new change back first second put middle late db left = elim (second.crash late db left) [
  | inl was ↦ elim (first.crash middle db was) [ inl older ↦ inl (back db older) | inr none ↦ absurd none ]
  | inr made ↦ inr (λ c h. let p = put c h in
      subst (λ d. IsBook d (change c)) (sym made) (record { sound = p.relations.sound; encodes = p.relations.tables; range = p.range }))
]
