-- Scans over rows without their names.
use Rattle.std.proofs.Common.{◌≡◌, true, false, ◌||◌, cond, List, [], ◌∷◌, Option, Some, None, refl, ◌∙◌, ap, map}
use Rattle.std.specs.Prelude.{is_some, option_map, option_and_then, filter}
use Rattle.std.proofs.lemmas.Simd.{map-map}
use Rattle.acd_terms.specs.Numbers.{Device, Agent}
use Rattle.acd_lemmas.proofs.Words.{Rows, GroupRecord, AgentRecord, group_of, agent_of, agent_at, is_group, is_planned, is_occupied, is_idle, is_eligible, eligible_in, waiting_in, station_of, is_calling, at_group, at_agent, has}
use Rattle.acd_model.specs.Scans.{is_used}
use Rattle.acd_model.specs.Choice.{least_from, ready_pair, first_waiting, first_eligible, offer_in, precedes, sooner, foremost, has_both, offer_of}
use Rattle.acd_lemmas.proofs.State.{is_some_mapped}
use Rattle.acd_laws.specs.NameLaws.{unnamed_group, unnamed_agent, unnamed}
use Rattle.acd_lemmas.proofs.MappedLists.{find_by-map, find-map, filter-map, of-option_map}

module _ (s : Rows) where
  pub unnamed_group_of : (d : Device) → group_of (unnamed s) d ≡ option_map unnamed_group (group_of s d)
  unfolding unnamed group_of
  unnamed_group_of d = find_by-map unnamed_group (at_group d) (at_group d) (λ x. refl) s.groups

  pub unnamed_agent_of : (n : Agent) → agent_of (unnamed s) n ≡ option_map unnamed_agent (agent_of s n)
  unfolding unnamed agent_of
  unnamed_agent_of n = find_by-map unnamed_agent (at_agent n) (at_agent n) (λ x. refl) s.agents

  pub unnamed_agent_at : (d : Device) → agent_at (unnamed s) d ≡ option_map unnamed_agent (agent_at s d)
  unfolding unnamed agent_at
  unnamed_agent_at d = find-map unnamed_agent (λ (a : AgentRecord). has a.station d) (λ (a : AgentRecord). has a.station d) (λ x. refl) s.agents

  pub unnamed_is_group : (d : Device) → is_group (unnamed s) d ≡ is_group s d
  unnamed_is_group d = ap is_some (unnamed_group_of d) ∙ is_some_mapped unnamed_group (group_of s d)

  pub unnamed_is_planned : (d : Device) → is_planned (unnamed s) d ≡ is_planned s d
  unfolding unnamed station_of
  unnamed_is_planned d = ap (λ b. b || is_some (station_of s d)) (unnamed_is_group d)

  pub unnamed_is_used : (d : Device) → is_used (unnamed s) d ≡ is_used s d
  unfolding unnamed is_calling
  unnamed_is_used d = ap (λ b. b || is_calling s d) (unnamed_is_planned d)

  pub unnamed_agent_is_there : (n : Agent) → is_some (agent_of (unnamed s) n) ≡ is_some (agent_of s n)
  unnamed_agent_is_there n = ap is_some (unnamed_agent_of n) ∙ is_some_mapped unnamed_agent (agent_of s n)

  pub unnamed_is_taken : (d : Device) → is_some (agent_at (unnamed s) d) ≡ is_some (agent_at s d)
  unnamed_is_taken d = ap is_some (unnamed_agent_at d) ∙ is_some_mapped unnamed_agent (agent_at s d)

  unnamed_first_eligible : (g : Device) → first_eligible (unnamed s) g ≡ first_eligible s g
  unfolding unnamed first_eligible eligible_in is_eligible is_occupied is_idle
  unnamed_first_eligible g =
      ap (λ l. least_from None (map ready_pair l)) (filter-map unnamed_agent (is_eligible (unnamed s) g) (is_eligible s g) (λ x. refl) s.agents)
      ∙ ap (least_from None) (map-map ready_pair unnamed_agent (eligible_in s g))

  unnamed_has_both : (g : GroupRecord) → has_both (unnamed s) (unnamed_group g) ≡ has_both s g
  unfolding unnamed first_waiting waiting_in
  unnamed_has_both g = rw (unnamed_first_eligible g.device) refl

  unnamed_offer_in : (g : GroupRecord) → offer_in (unnamed s) (unnamed_group g) ≡ offer_in s g
  unfolding unnamed first_waiting waiting_in
  unnamed_offer_in g = rw (unnamed_first_eligible g.device) refl

unnamed_sooner : (o : Option GroupRecord) (g : GroupRecord) → sooner (option_map unnamed_group o) (unnamed_group g) ≡ unnamed_group (sooner o g)
unnamed_sooner None g = refl
unnamed_sooner (Some h) g = elim (precedes g h) as (λ b. cond b (unnamed_group g) (unnamed_group h) ≡ unnamed_group (cond b g h)) [ true ↦ refl | false ↦ refl ]

unnamed_foremost : (o : Option GroupRecord) (gs : List GroupRecord)
    → foremost (option_map unnamed_group o) (map unnamed_group gs) ≡ option_map unnamed_group (foremost o gs)
unnamed_foremost o [] = refl
unnamed_foremost o (g ∷ gs) = ap (λ h. foremost (Some h) (map unnamed_group gs)) (unnamed_sooner o g) ∙ unnamed_foremost (Some (sooner o g)) gs

pub unnamed_offer_of : (s : Rows) → offer_of (unnamed s) ≡ offer_of s
unfolding unnamed offer_of
unnamed_offer_of s =
    ap (λ l. option_and_then (offer_in (unnamed s)) (foremost None l))
    (filter-map unnamed_group (has_both (unnamed s)) (has_both s) (unnamed_has_both s) s.groups)
    ∙ ap (option_and_then (offer_in (unnamed s))) (unnamed_foremost None (filter (has_both s) s.groups))
    ∙ of-option_map unnamed_group (option_and_then (offer_in (unnamed s))) (option_and_then (offer_in s)) refl (unnamed_offer_in s)
    (foremost None (filter (has_both s) s.groups))
