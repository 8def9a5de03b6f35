-- Groups and agents, joined of what the tables hold.
use Rattle.std.proofs.Common.{◌≡◌, ℕ, ◌+◌, ◌<◌, true, List, [], ◌∷◌, ◌++◌, length, map, take, get_or, Result, Ok, Err, IfOk, OnOk, refl, sym, ap, ap₂, ◌∙◌, subst, nat_eq}
use Rattle.std.specs.Prelude.{Vec}
use Rattle.std.specs.Cmp.Lexicographic.{pointwise}
use Rattle.std.proofs.lemmas.Bool.{and_parts, eqb-true}
use Rattle.std.specs.declared.alloc.Global.{Global}
use Rattle.sqlite.specs.declared.error.Error.{Error}
use Rattle.sqlite.specs.State.{State}
use Rattle.acd_terms.specs.declared.record.GroupRecord.{GroupRecord}
use Rattle.acd_terms.specs.declared.record.AgentRecord.{AgentRecord}
use Rattle.acd_terms.specs.Lists.{put_by}
use Rattle.acd_sql_columns.specs.declared.relations.AgentRow.{AgentRow}
use Rattle.acd_sql_columns.specs.declared.relations.GroupPriority.{GroupPriority}
use Rattle.acd_sql_columns.specs.declared.tables.Table.TheVariants as table
use Rattle.acd_sql_columns.specs.Transactions.{HoldsUncommitted}
use Rattle.acd_sql_columns.specs.ReadResults.{Finds}
use Rattle.acd_sql_columns.specs.Relations.{Relations, pair_order, group_part, agent_part, further_in, priorities_in, joined_group, joined_agent, all_put}
use Rattle.acd_sql_columns.proofs.Writes.Common.{ChangesEach}
use Rattle.acd_sql_columns.proofs.Rows.RowsOfRecords.{groups_rise, agents_rise}
use Rattle.acd_sql_columns.proofs.Rows.JoinedRecords.{groups_joined, agents_joined}
use Rattle.acd_sql_columns.proofs.OneTable.Listings.{stored}
use Rattle.acd_lemmas.proofs.Lists.{take-push, map-push}

-- ---- the result

pub ranked_so : (old new : State) (ps : Vec GroupPriority Global) (parts qs : List _) (r : Result (Vec GroupRecord Global) Error) → qs ≡ ps.items
    → Finds {E = Error} old new (Ok ps) (λ c ps. ps.items ≡ priorities_in c.rows.groups)
    → IfOk r (λ gs. gs.items ≡ map (joined_group qs) parts) → Finds old new r (λ c gs. parts ≡ map group_part c.rows.groups → gs.items ≡ c.rows.groups)
ranked_so old new ps parts qs (Ok gs) same h is = record {
  up = h.up;
  quiet = h.quiet;
  stops = h.stops;
  answer =
      λ k c held e. is ∙ ap₂ (λ qs xs. map (joined_group qs) xs) (same ∙ h.answer k c held) e
      ∙ groups_joined c.rows.groups (groups_rise c.rows.groups (stored table.Groups old c held).ascending);
}
ranked_so old new ps parts qs (Err e) same h is = record { up = λ k. tt; quiet = h.quiet; stops = h.stops; answer = λ k. tt }

pub grouped_so : (old new : State) (ps : Vec (ℕ × ℕ) Global) (parts : List AgentRow) (qs : List (ℕ × ℕ)) (r : Result (Vec AgentRecord Global) Error)
    → qs ≡ ps.items → Finds {E = Error} old new (Ok ps) (λ c ps. ps.items ≡ further_in c.rows.agents)
    → IfOk r (λ agents. agents.items ≡ map (joined_agent qs) parts)
    → Finds old new r (λ c agents. parts ≡ map agent_part c.rows.agents → agents.items ≡ c.rows.agents)
grouped_so old new ps parts qs (Ok agents) same h is = record {
  up = h.up;
  quiet = h.quiet;
  stops = h.stops;
  answer =
      λ k c held e. is ∙ ap₂ (λ qs xs. map (joined_agent qs) xs) (same ∙ h.answer k c held) e
      ∙ agents_joined c.rows.agents (agents_rise c.rows.agents (stored table.Agents old c held).ascending);
}
grouped_so old new ps parts qs (Err e) same h is = record { up = λ k. tt; quiet = h.quiet; stops = h.stops; answer = λ k. tt }

-- ---- loops

all_put_more : (ps : List (ℕ × ℕ)) (p : ℕ × ℕ) (pairs : List (ℕ × ℕ)) → all_put (ps ++ p ∷ []) pairs ≡ put_by (pair_order p) (all_put ps pairs) p
all_put_more [] p pairs = refl
all_put_more (q ∷ ps) p pairs = all_put_more ps p (put_by (pair_order q) pairs q)

-- one further group more
pub pairs_more : (agent i : ℕ) (groups : List ℕ) (g d : ℕ) (pairs : List (ℕ × ℕ)) → g ≡ get_or groups i d → i < length groups
    → all_put (map (λ (k : ℕ). (agent, k)) (take (i + 1) groups)) pairs
    ≡ put_by (pair_order (agent, g)) (all_put (map (λ (k : ℕ). (agent, k)) (take i groups)) pairs) (agent, g)
pairs_more agent i groups g d pairs at low =
    ap (λ (ks : List ℕ). all_put (map (λ (k : ℕ). (agent, k)) ks) pairs) (take-push i groups d low ∙ ap (λ k. take i groups ++ k ∷ []) (sym at))
    ∙ ap (λ ps. all_put ps pairs) (map-push (λ (k : ℕ). (agent, k)) (take i groups) g)
    ∙ all_put_more (map (λ (k : ℕ). (agent, k)) (take i groups)) (agent, g) pairs

-- numbers that compare equal are the same
pub same_numbers : (xs ys : List ℕ) → pointwise nat_eq xs ys ≡ true → xs ≡ ys
same_numbers [] [] h = refl
same_numbers [] (y ∷ ys) h = absurd (cc h)
same_numbers (x ∷ xs) [] h = absurd (cc h)
same_numbers (x ∷ xs) (y ∷ ys) h =
    let both = and_parts (nat_eq x y) (pointwise nat_eq xs ys) h in ap₂ (λ z zs. z ∷ zs) (eqb-true x y both.0) (same_numbers xs ys both.1)

-- ---- statements, one after the other

pub leaves_on : (old mid new : State) (r : Result (Unit {0}) Error) (f g h : Relations → Relations) → ChangesEach f old mid → OnOk r (ChangesEach g mid new)
    → ((x : Relations) → g (f x) ≡ h x) → OnOk r (ChangesEach h old new)
leaves_on old mid new (Err e) f g h first next same = tt
leaves_on old mid new (Ok y) f g h first next same =
    λ (x : Relations) (d : HoldsUncommitted old x). subst (HoldsUncommitted new) (same x) (next (f x) (first x d))

pub leaves_as : (old new : State) (r : Result (Unit {0}) Error) (f g : Relations → Relations) → OnOk r (ChangesEach f old new) → ((x : Relations) → f x ≡ g x)
    → OnOk r (ChangesEach g old new)
leaves_as old new (Err e) f g put same = tt
leaves_as old new (Ok y) f g put same = λ (x : Relations) (d : HoldsUncommitted old x). subst (HoldsUncommitted new) (same x) (put x d)
