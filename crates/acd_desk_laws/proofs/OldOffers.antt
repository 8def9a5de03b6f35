-- Where each agent is in one group at most and no group has a priority, distribution is the same as before.
use Rattle.std.proofs.Common.{◌≡◌, ℕ, zero, suc, Bool, true, false, ◌&&◌, not, cond, List, [], ◌∷◌, ◌++◌, length, map, Option, Some, None, refl, sym, ◌∙◌, ap, ap₂, arith}
use Rattle.std.specs.Prelude.{◌==◌, is_some, filter, option_and_then}
use Rattle.std.proofs.Math.Bool.{or-false}
use Rattle.std.proofs.lemmas.Bool.{cond-false}
use Rattle.std.proofs.lemmas.Bool.Decides.{nat_tests}
use Rattle.std.specs.Ordering.{nat_cmp}
use Rattle.std.specs.declared.cmp.Ordering.TheVariants.{Less}
use Rattle.acd_terms.specs.Groups.{is_one_of, least_group}
use Rattle.acd_model.specs.Choice.{least_from, ready_pair, first_waiting, first_eligible, offer_by, offer_in, offer_of, precedes, sooner, foremost, has_both}
use Rattle.acd_model.specs.Distribution.{offer_moves, with_offer, offers, distribution}
use Rattle.acd_lemmas.proofs.Words.{Rows, GroupRecord, AgentRecord, Move, Offer, Every, AllAfter, IsAscending, has, is_ready, is_occupied, is_idle_there, is_eligible, eligible_in, queued_in_all, moved, group_order}
use Rattle.acd_desk_laws.specs.OldChoice.{old_is_eligible, old_eligible_in, old_first_eligible, old_offer_or, old_offer_in, old_offer_of, old_offers, old_distribution}
use Rattle.acd_desk_laws.proofs.OldStates.{IsOneAtMost, HasOneGroup, HasNoPriority, IsOldState, moved_is_old, offer_old}

one_of_one : (gs : List ℕ) (group : ℕ) → IsOneAtMost gs → has (least_group gs) group ≡ is_one_of gs group
one_of_one [] group h = refl
one_of_one (g ∷ []) group h = sym (or-false (g == group))
one_of_one (g ∷ f ∷ gs) group h = absurd h

same_eligible : (s : Rows) (group : ℕ) (a : AgentRecord) → HasOneGroup a → old_is_eligible s group a ≡ is_eligible s group a
unfolding old_is_eligible is_eligible
same_eligible s group a h = ap (λ (b : Bool). b && is_ready a.state && not (is_occupied s a) && is_idle_there s a.station) (one_of_one a.groups group h)

same_agents : (s : Rows) (group : ℕ) (xs : List AgentRecord) → Every HasOneGroup xs → filter (old_is_eligible s group) xs ≡ filter (is_eligible s group) xs
same_agents s group [] h = refl
same_agents s group (a ∷ xs) h = ap₂ (λ (b : Bool) (rest : List AgentRecord). cond b (a ∷ rest) rest) (same_eligible s group a h.0) (same_agents s group xs h.1)

same_first_eligible : (s : Rows) (group : ℕ) → IsOldState s → old_first_eligible s group ≡ first_eligible s group
unfolding old_first_eligible first_eligible old_eligible_in eligible_in
same_first_eligible s group o = ap (λ (xs : List AgentRecord). least_from None (map ready_pair xs)) (same_agents s group s.agents o.agents)

-- of groups without a priority the one of least number precedes

not_before : (b g : GroupRecord) → HasNoPriority b → HasNoPriority g → nat_cmp b.device g.device ≡ Less → precedes g b ≡ false
not_before b g p q e = grind (arith, nat_tests)

stays_first : (p : GroupRecord → Bool) (b : GroupRecord) (gs : List GroupRecord) → HasNoPriority b → Every HasNoPriority gs → AllAfter group_order b gs
    → foremost (Some b) (filter p gs) ≡ Some b
stays_first p b [] h k after = refl
stays_first p b (g ∷ gs) h k after =
    let rest = stays_first p b gs h k.1 after.1 in
    let stays : sooner (Some b) g ≡ b = cond-false (precedes g b) g b (not_before b g h k.0 after.0) in
    elim (p g) as (λ v. foremost (Some b) (cond v (g ∷ filter p gs) (filter p gs)) ≡ Some b) [
      | true ↦ ap (λ (f : GroupRecord). foremost (Some f) (filter p gs)) stays ∙ rest
      | false ↦ rest
    ]

same_offer_in : (s : Rows) (gs : List GroupRecord) → IsOldState s → Every HasNoPriority gs → IsAscending group_order gs
    → old_offer_in s gs ≡ option_and_then (offer_in s) (foremost None (filter (has_both s) gs))
same_offer_in s [] o h asc = refl
same_offer_in s (g ∷ gs) o h asc =
    ap (λ (r : Option (ℕ × ℕ)). old_offer_or g.device (first_waiting s g.device) r (old_offer_in s gs)) (same_first_eligible s g.device o)
    ∙ by (first_waiting s g.device) (first_eligible s g.device) refl refl (same_offer_in s gs o h.1 asc.1)
  where
    others : List GroupRecord
    others = filter (has_both s) gs

    by : (w r : Option (ℕ × ℕ)) → first_waiting s g.device ≡ w → first_eligible s g.device ≡ r
        → old_offer_in s gs ≡ option_and_then (offer_in s) (foremost None others)
        → old_offer_or g.device w r (old_offer_in s gs) ≡ option_and_then (offer_in s) (foremost None (cond (is_some w && is_some r) (g ∷ others) others))
    by None r p q rest = rest
    by (Some w) None p q rest = rest
    by (Some w) (Some r) p q rest = sym (ap (option_and_then (offer_in s)) (stays_first (has_both s) g gs h.0 h.1 asc.0) ∙ ap₂ (offer_by g.device) p q)

same_offer : (s : Rows) → IsOldState s → old_offer_of s ≡ offer_of s
unfolding old_offer_of offer_of
same_offer s o = same_offer_in s s.groups o o.groups o.ascend

same_offers : (n : ℕ) (s : Rows) (m : ℕ) → IsOldState s → old_offers n s m ≡ offers n s m
same_offers zero s m o = refl
same_offers (suc n) s m o =
    ap (λ (found : Option Offer). with_offer found [] (λ f. offer_moves s m f ++ old_offers n (moved s (offer_moves s m f)) m)) (same_offer s o)
    ∙ by (offer_of s) (λ f. same_offers n (moved s (offer_moves s m f)) m (moved_is_old s (offer_moves s m f) (offer_old s m f) o))
  where
    by : (found : Option Offer) → ((f : Offer) → old_offers n (moved s (offer_moves s m f)) m ≡ offers n (moved s (offer_moves s m f)) m)
        → with_offer found [] (λ f. offer_moves s m f ++ old_offers n (moved s (offer_moves s m f)) m) ≡ with_offer found [] (λ f. offer_moves s m f ++ offers n (moved s (offer_moves s m f)) m)
    by None more = refl
    by (Some f) more = ap (λ (ms : List Move). offer_moves s m f ++ ms) (more f)

pub same_distribution : (s : Rows) (m : ℕ) → IsOldState s → old_distribution s m ≡ distribution s m
unfolding old_distribution distribution
same_distribution s m o = same_offers (length (queued_in_all s)) s m o
