-- A connection that the very next change removes needs no statement.
use Rattle.std.proofs.Common.{◌≡◌, ℕ, not, true, false, cond, List, [], ◌∷◌, refl, sym, subst, ap, ap₂, ◌∙◌}
use Rattle.std.specs.Prelude.{filter}
use Rattle.std.specs.Ordering.{match_ordering}
use Rattle.std.specs.declared.cmp.Ordering.TheVariants.{Less, Equal, Greater}
use Rattle.sqlite.specs.State.{State}
use Rattle.acd_terms.specs.Lists.{put_by, remove_by, IsAscending}
use Rattle.acd_terms.specs.declared.record.ConnectionRecord.{ConnectionRecord}
use Rattle.acd_model.specs.Rules.Plan.{connection_order}
use Rattle.acd_model.specs.Writes.{with_connection, without_connection}
use Rattle.acd_model.specs.declared.moves.Change.{Change}
use Rattle.acd_model.specs.declared.moves.Change.TheVariants.{PutConnection, RemoveConnection}
use Rattle.acd_lemmas.proofs.Lists.{ascending-put}
use Rattle.acd_lemmas.proofs.KeyedLists.{Keyed, others_left}
use Rattle.acd_lemmas.proofs.State.{by_connection}
use Rattle.acd_book.specs.Content.{Content}
use Rattle.acd_sql_columns.specs.declared.tables.Table.TheVariants as table
use Rattle.acd_sql_columns.specs.Transactions.{HoldsGood}
use Rattle.acd_sqlbook.specs.WriteChoice.{is_taken_away, written_changes, IsWrittenNext}
use Rattle.acd_sqlbook.specs.Commit.{applied, all_applied, MakesOfEach}

module _ {T K : Type 0} (r : Keyed T K) (x : T) where
  others_stay : (xs : List T) → filter (λ y. not (r.has (r.key x) y)) (put_by (r.order x) xs x) ≡ filter (λ y. not (r.has (r.key x) y)) xs
  others_stay [] = ap (λ b. cond (not b) (x ∷ []) []) (r.itself x)
  others_stay (y ∷ ys) =
      let p = λ (z : T). not (r.has (r.key x) z) in
      (elim (r.order x y) as (λ o. r.order x y ≡ o → filter p (match_ordering o (x ∷ y ∷ ys) (x ∷ ys) (y ∷ put_by (r.order x) ys x)) ≡ filter p (y ∷ ys)) [
        | Less ↦ λ e. ap (λ b. cond (not b) (x ∷ filter p (y ∷ ys)) (filter p (y ∷ ys))) (r.itself x)
        | Equal ↦ λ e. ap (λ b. cond (not b) (x ∷ filter p ys) (filter p ys)) (r.itself x)
            ∙ sym (ap (λ b. cond (not b) (y ∷ filter p ys) (filter p ys)) (r.same (r.key x) x y e ∙ r.itself x))
        | Greater ↦ λ e. ap (λ l. cond (p y) (y ∷ l) l) (others_stay ys)
      ]) refl

  removed_put : (xs : List T) → IsAscending r.order xs → remove_by (r.at (r.key x)) (put_by (r.order x) xs x) ≡ remove_by (r.at (r.key x)) xs
  removed_put xs h =
      others_left r (put_by (r.order x) xs x) (ascending-put r.order r.total x xs h) (r.key x) ∙ others_stay xs ∙ sym (others_left r xs h (r.key x))

pub put_in_vain : (x : ConnectionRecord) (c : Content) → IsAscending connection_order c.rows.connections
    → applied (applied c (PutConnection x)) (RemoveConnection x.call x.device) ≡ applied c (RemoveConnection x.call x.device)
unfolding with_connection without_connection
put_in_vain x c h = ap (λ l. record c { rows = record c.rows { connections = l } }) (removed_put by_connection x c.rows.connections h)

pub in_vain : (first second : Change) (x : ConnectionRecord) (call device : ℕ) → first ≡ PutConnection x → second ≡ RemoveConnection call device → x.call ≡ call
    → x.device ≡ device
    → (c : Content) → IsAscending connection_order c.rows.connections → applied (applied c first) second ≡ applied c second
in_vain first second x call device is_put is_gone same_call same_device c up =
    let gone : second ≡ RemoveConnection x.call x.device = is_gone ∙ sym (ap₂ RemoveConnection same_call same_device) in
    subst (λ s. applied (applied c first) s ≡ applied c s) (sym gone)
    (subst (λ f. applied (applied c f) (RemoveConnection x.call x.device) ≡ applied c (RemoveConnection x.call x.device)) (sym is_put) (put_in_vain x c up))

-- the transaction sees a content from which the rest of the changes leads where all of them lead from this one
abbrev pub HoldsBefore : State → List Change → List Change → Content → Type 0
HoldsBefore s rest changes c = (x : Content) × HoldsGood s x × (all_applied x rest ≡ all_applied c changes)

-- the one that is written next, and the last of them
pub next_applied : (old new : State) (first : Change) (rest remaining changes : List Change) (c : Content)
    → ((x : Content) → IsAscending connection_order x.rows.connections → all_applied x rest ≡ all_applied (applied x first) remaining)
    → MakesOfEach (λ x. applied x first) old new
    → HoldsBefore old rest changes c → HoldsBefore new remaining changes c
next_applied old new first rest remaining changes c step put held =
    (applied held.0 first, put held.0 held.1, sym (step held.0 (held.1.relations.tables table.Connections).ascending) ∙ held.2)

pub none_left : (s : State) (rest changes : List Change) (c : Content) → rest ≡ [] → HoldsBefore s rest changes c → HoldsGood s (all_applied c changes)
none_left s rest changes c none held = subst (λ x. HoldsGood s x) (ap (all_applied held.0) (sym none) ∙ held.2) held.1

-- ---- the one that is written next

-- a change that removes another one is written
takes_stays : (first second : Change) (rest : List Change) → is_taken_away first second ≡ true → written_changes (second ∷ rest) ≡ second ∷ written_changes rest
takes_stays (PutConnection x) (RemoveConnection call device) [] is = refl
takes_stays (PutConnection x) (RemoveConnection call device) (next ∷ rest) is = refl
takes_stays first second rest is = absurd (cc is)

module _ (changes : List Change) (first : Change) (remaining : List Change) (all : changes ≡ first ∷ remaining) where
  pub written_alone : remaining ≡ [] → IsWrittenNext changes first remaining
  written_alone none = record {
    skipped = [];
    all = all;
    first = subst (λ l. written_changes changes ≡ first ∷ written_changes l) (sym none) (ap written_changes (all ∙ ap (λ l. first ∷ l) none));
    applying = λ c up. ap (all_applied c) all;
  }

  module _ (second : Change) (rest : List Change) (two : remaining ≡ second ∷ rest) where
    both : changes ≡ first ∷ second ∷ rest
    both = all ∙ ap (λ l. first ∷ l) two

    pub written_first : is_taken_away first second ≡ false → IsWrittenNext changes first remaining
    written_first kept = record {
      skipped = [];
      all = all;
      first = ap written_changes both ∙ ap (λ b. cond b (written_changes (second ∷ rest)) (first ∷ written_changes (second ∷ rest))) kept ∙ ap (λ l. first ∷ written_changes l) (sym two);
      applying = λ c up. ap (all_applied c) all;
    }

    pub written_second : is_taken_away first second ≡ true
        → ((c : Content) → IsAscending connection_order c.rows.connections → applied (applied c first) second ≡ applied c second)
        → IsWrittenNext changes second rest
    written_second taken vain = record {
      skipped = first ∷ [];
      all = both;
      first = ap written_changes both ∙ ap (λ b. cond b (written_changes (second ∷ rest)) (first ∷ written_changes (second ∷ rest))) taken ∙ takes_stays first second rest taken;
      applying = λ c up. ap (all_applied c) both ∙ ap (λ x. all_applied x rest) (vain c up);
    }
