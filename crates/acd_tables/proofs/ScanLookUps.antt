-- The view of a scan of the connections or agents, by look-ups.
use Rattle.std.proofs.Common.{◌≡◌, ℕ, Bool, true, ◌&&◌, not, List, Option, Some, None, is_some, refl, ap, sym, ◌∙◌, subst}
use Rattle.std.specs.Prelude.{◌==◌, find}
use Rattle.std.specs.List.{list_any}
use Rattle.std.specs.Cmp.{both_ways}
use Rattle.std.proofs.lemmas.Bool.{and_parts, and_from, eqb-true, eq-eqb}
use Rattle.acd_terms.specs.Lists.{Among, IsAscending}
use Rattle.acd_terms.specs.declared.rows.Rows.{Rows}
use Rattle.acd_terms.specs.declared.record.AgentRecord.{AgentRecord}
use Rattle.acd_terms.specs.declared.record.ConnectionRecord.{ConnectionRecord}
use Rattle.acd_model.specs.Rules.Plan.{agent_order, connection_order}
use Rattle.acd_model.specs.Scans.{agent_of, agent_at, connection_of, has}
use Rattle.acd_lemmas.proofs.Lists.{any_found, any_some, find_passes, find_among, some_from, some_found, none_from, some_is}
use Rattle.acd_lemmas.proofs.State.{connection_among, connection_found, found_key, agent_among, agent_at_find, agent_seat, agent_there, has_is}
use Rattle.acd_tables.specs.IndexedRows.{Seats, SeatMap, agent_seated, agent_station}
use Rattle.acd_tables.specs.Uses.{is_there_and}

-- a connection at the device that passes
abbrev pub Standing : Rows → (ConnectionRecord → Bool) → ℕ → Type 0
Standing s u d = (c : ConnectionRecord) × (connection_of s c.call d ≡ Some c) × (u c ≡ true)

pub there-any : (s : Rows) (u : ConnectionRecord → Bool) (k d : ℕ) (c : ConnectionRecord) → connection_of s k d ≡ Some c → u c ≡ true
    → list_any (λ (z : ConnectionRecord). z.device == d && u z) s.connections ≡ true
there-any s u k d c e h =
    any_some (λ (z : ConnectionRecord). z.device == d && u z) s.connections c (connection_among s k d c e)
    (and_from (c.device == d) (u c) (eq-eqb c.device d (found_key s k d c e).1) h)

pub any-there : (s : Rows) (u : ConnectionRecord → Bool) (d : ℕ) → IsAscending connection_order s.connections
    → list_any (λ (z : ConnectionRecord). z.device == d && u z) s.connections ≡ true → Standing s u d
any-there s u d ascending e =
    let p : ConnectionRecord → Bool = λ z. z.device == d && u z in
    let f = some_from (find p s.connections) (any_found p s.connections e) in
    let passes = and_parts (f.0.device == d) (u f.0) (find_passes p s.connections f.0 f.1) in
    let found = connection_found s ascending f.0 (find_among p s.connections f.0 f.1) in
    (f.0, subst (λ z. connection_of s f.0.call z ≡ Some f.0) (eqb-true f.0.device d passes.0) found, passes.1)

pub used_some : (u : ConnectionRecord → Bool) (o : Option ConnectionRecord) → is_there_and u o ≡ true → (c : ConnectionRecord) × (o ≡ Some c) × (u c ≡ true)
used_some u None e = absurd cc
used_some u (Some c) e = (c, refl, e)

-- among the keys that are listed are all calls that have a connection at the device
pub any-listed : (s : Rows) (u : ConnectionRecord → Bool) (d : ℕ) (but : Option ℕ) (ks : List (ℕ × ℕ)) → IsAscending connection_order s.connections
    → ((c : ℕ) → is_some (connection_of s c d) ≡ true → Among (d, c) ks)
    → list_any (λ k. not (has but k.1) && is_there_and u (connection_of s k.1 d)) ks
    ≡ list_any (λ (z : ConnectionRecord). z.device == d && (not (has but z.call) && u z)) s.connections
any-listed s u d but ks ascending listed = both_ways _ _ forth back
  where
    forth : list_any (λ k. not (has but k.1) && is_there_and u (connection_of s k.1 d)) ks ≡ true
        → list_any (λ (z : ConnectionRecord). z.device == d && (not (has but z.call) && u z)) s.connections ≡ true
    forth e =
        let p : ℕ × ℕ → Bool = λ k. not (has but k.1) && is_there_and u (connection_of s k.1 d) in
        let w : ConnectionRecord → Bool = λ z. not (has but z.call) && u z in
        let k = some_from (find p ks) (any_found p ks e) in
        let parts = and_parts (not (has but k.0.1)) (is_there_and u (connection_of s k.0.1 d)) (find_passes p ks k.0 k.1) in
        let c = used_some u (connection_of s k.0.1 d) parts.1 in
        let call : c.0.call ≡ k.0.1 = (found_key s k.0.1 d c.0 c.1).0 in
        there-any s w k.0.1 d c.0 c.1 (and_from (not (has but c.0.call)) (u c.0) (ap (λ n. not (has but n)) call ∙ parts.0) c.2)

    back : list_any (λ (z : ConnectionRecord). z.device == d && (not (has but z.call) && u z)) s.connections ≡ true
        → list_any (λ k. not (has but k.1) && is_there_and u (connection_of s k.1 d)) ks ≡ true
    back e =
        let p : ℕ × ℕ → Bool = λ k. not (has but k.1) && is_there_and u (connection_of s k.1 d) in
        let w : ConnectionRecord → Bool = λ z. not (has but z.call) && u z in
        let c = any-there s w d ascending e in
        let parts = and_parts (not (has but c.0.call)) (u c.0) c.2 in
        any_some p ks (d, c.0.call) (listed c.0.call (ap is_some c.1))
        (and_from (not (has but c.0.call)) (is_there_and u (connection_of s c.0.call d)) parts.0 (ap (is_there_and u) c.1 ∙ parts.1))

module _ (s : Rows) (seats : SeatMap) (ascending : IsAscending agent_order s.agents) (listed : Seats s seats) where
  -- the agent that is at the station
  seat : (n d : ℕ) (a : AgentRecord) → agent_of s n ≡ Some a → a.station ≡ Some d → agent_seated seats d ≡ Some n
  seat n d a e f = has_is (agent_seated seats d) n (listed n d ∙ ap (λ o. has (agent_station o) d) e ∙ ap (λ o. has o d) f ∙ eq-eqb d d refl)

  -- an agent with the station is the one that a scan finds
  pub seated : (n d : ℕ) (a : AgentRecord) → agent_of s n ≡ Some a → a.station ≡ Some d → agent_at s d ≡ Some a
  seated n d a e f =
      let p : AgentRecord → Bool = λ z. has z.station d in
      let there = some_found p s.agents a (agent_among s n a e) (ap (λ o. has o d) f ∙ eq-eqb d d refl) in
      let b = some_from (find p s.agents) there in
      let found : agent_at s d ≡ Some b.0 = agent_at_find s d ∙ b.1 in
      let other = seat b.0.agent d b.0 (agent_there s ascending d b.0 found) (agent_seat s d b.0 found).1 in
      let number : b.0.agent ≡ n = some_is _ _ (sym other ∙ seat n d a e f) in
      let same : b.0 ≡ a = some_is _ _ (sym (agent_there s ascending d b.0 found) ∙ ap (agent_of s) number ∙ e) in
      found ∙ ap Some same

  -- nobody has a station at which nobody is
  pub seat-none : (d : ℕ) → agent_seated seats d ≡ None → agent_at s d ≡ None
  seat-none d none = none_from (agent_at s d) (λ b e. let there = seat b.agent d b (agent_there s ascending d b e) (agent_seat s d b e).1 in cc (there, none))

  pub seat-some : (d n : ℕ) → agent_seated seats d ≡ Some n → agent_at s d ≡ agent_of s n
  seat-some d n there = by (agent_of s n) refl
    where
      stands : (o : Option AgentRecord) → agent_of s n ≡ o → has (agent_station o) d ≡ true
      stands o e = sym (listed n d ∙ ap (λ v. has (agent_station v) d) e) ∙ ap (λ v. has v n) there ∙ eq-eqb n n refl

      by : (o : Option AgentRecord) → agent_of s n ≡ o → agent_at s d ≡ o
      by None e = absurd (let no = stands None e in cc (no))
      by (Some a) e = seated n d a e (has_is a.station d (stands (Some a) e))
