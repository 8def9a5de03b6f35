-- The rules are kept by every effect, by distribution, and so by the moves of a step; and what effects and rounds keep, a step keeps.
use Rattle.std.proofs.Common.{◌≡◌, ℕ, None, inl, inr, List, [], sym, ap, subst, refl, arith, ◌++◌}
use Rattle.acd_lemmas.proofs.Words.{Rows, Command, Event, Move, state_wanted, is_initiated, other_of, moved, events_of, is_open}
use Rattle.acd_model.specs.CallMoves.{destination_of, arriving, arrive}
use Rattle.acd_model.specs.ServiceAnswers.{moves_of}
use Rattle.acd_model.specs.Services.{new_group, next_call, next_monitor}
use Rattle.acd_model.specs.Services.Serve.{serve}
use Rattle.acd_model.specs.Step.{step_moves}
use Rattle.acd_model.specs.Distribution.{distribution}
use Rattle.acd_lemmas.proofs.RuleFacts.{Rules}
use Rattle.acd_lemmas.proofs.Lists.{one}
use Rattle.acd_lemmas.proofs.State.{connection_among, connection_rule}
use Rattle.acd_model.specs.Release.{ending_of}
use Rattle.acd_model.proofs.MoveLemmas.{moved_append}
use Rattle.acd_laws.proofs.Offers.DistributionSteps.{tick_keeps, Kept, kept-append, rules_distribution, offering, offer_moves_are, distribution_keeps}
use Rattle.acd_laws.proofs.Effects.{new_call, Effect, nothing, adds_group, adds_station, adds_agent, watches, unwatches, arrives, makes, goes_out, answers, holds, retrieves, clears, deflects, transfers, logs_on, rejects, renames, waits, goes, ChangesGroup, refuses, puts, given_planned, effect_of_serve, Round, offers, returns, rests}
use Rattle.acd_laws.specs.FigureLaws.{regroups, group_given}
use Rattle.acd_laws.proofs.DestinationLemmas.{arrived}
use Rattle.acd_laws.proofs.ReleaseLemmas.{wanted_not_busy, ends_by}
use Rattle.acd_laws.proofs.Rules.RulesOfCalls.{begun, made, outgoing, gone_out, kept_answer, kept_hold, kept_retrieve}
use Rattle.acd_laws.proofs.Rules.RulesOfEnds.{kept_clear, kept_return_to, moved_on, open_cases, closed_call}
use Rattle.acd_laws.proofs.Rules.RulesOfPlanning.{kept_log_on, kept_wait, kept_rename, kept_go_from, kept_group, kept_put_group, kept_station, kept_new_agent, started, stopped}
use Rattle.acd_lemmas.proofs.States.{connected_is}
use Rattle.acd_model.specs.Tick.{tick}
use Rattle.acd_terms.specs.declared.command.Turn.{Turn}

kept_effect : (s : Rows) (turn : Turn) (ms : List Move) → Effect s turn ms → Rules s → Rules (moved s ms)
unfolding arrive
kept_effect s turn _ nothing r = r
kept_effect s turn _ (adds_group device name ring wrap free _) r = kept_group s (new_group device name ring wrap) r free
kept_effect s turn _ (adds_station device free _) r = kept_station s (record { device = device }) r free
kept_effect s turn _ (adds_agent agent name new _) r = kept_new_agent s turn agent name r new
kept_effect s turn _ (watches device _ _) r = started s (record { monitor = next_monitor s; device = device; after_event = s.last_event }) r
kept_effect s turn _ (unwatches monitor) r = stopped s monitor r
kept_effect s turn _ (arrives caller called outside inside _) r =
    begun s (new_call s turn.moment caller called) (arriving (destination_of s called) turn (next_call s) called) r refl outside inside
    (arrived s turn (next_call s) called inside)
kept_effect s turn _ (makes device called _ station inside differ free _) r = made s turn.moment device called r station inside differ free
kept_effect s turn _ (goes_out p state) r =
    let to : ℕ = p.about.called in
    let go = outgoing s p.x p.about r p.found state p.live in
    gone_out s p.x (arriving (destination_of s to) turn p.x.call to) p.about to r p.found state p.live go.apart (arrived s turn p.x.call to go.planned) go.new
kept_effect s turn _ (answers p state) r = kept_answer s turn p.x r p.found state
kept_effect s turn _ (holds p station state) r = kept_hold s p.x r p.found station state
kept_effect s turn _ (retrieves p state free) r = kept_retrieve s p.x r p.found state free
kept_effect s turn _ (clears p) r = kept_clear s turn p.x (other_of s p.x) refl r p.found
kept_effect s turn _ (deflects p to state free) r =
    let was = open_cases p.x.state state in
    let o = r.one_open p.x.call in let f : one (is_open p.x.state) ≡ 1 = ap one was.1 in
    moved_on s turn p.x (arriving (destination_of s to) turn p.x.call to) to (ending_of p.x) r p.found (arrived s turn p.x.call to free.planned) free.apart
    was.0 (omega (arith, o, f))
    (ends_by s p.x (connection_rule s r p.x.call p.x.device p.x p.found))
kept_effect s turn _ (transfers p to state other free) r =
    moved_on s turn p.x (arriving (destination_of s to) turn p.x.call to) to (ending_of p.x) r p.found (arrived s turn p.x.call to free.planned) free.apart
    (ap is_initiated (connected_is p.x.state state))
    (closed_call s p.x r (connection_among s p.x.call p.x.device p.x p.found) state other) (ends_by s p.x (connection_rule s r p.x.call p.x.device p.x p.found))
kept_effect s turn _ (logs_on a device groups found null station free planned) r = kept_log_on s a device groups turn r found null station planned free
kept_effect s turn _ (rejects p g alerting group) r = kept_return_to s turn g p.x r p.found alerting group
kept_effect s turn _ (renames a name found) r = kept_rename s a name r found
kept_effect s turn _ (waits a wanted found seated occupied) r = kept_wait s a wanted r found seated occupied
kept_effect s turn _ (goes a wanted found _ free) r = kept_go_from s turn a (state_wanted wanted) r found free (wanted_not_busy wanted)

kept_regroups : (s : Rows) (c : Command) (ms : List Move) → ChangesGroup s c ms → Rules s → Rules (moved s ms)
kept_regroups s c _ (refuses device it none) r = r
kept_regroups s c _ (puts device g it found) r = kept_put_group s (group_given c g) r (given_planned s c device g found)

pub rules_serve : (s : Rows) (turn : Turn) (c : Command) → Rules s → Rules (moved s (moves_of (serve s turn c)))
rules_serve s turn c r = elim (effect_of_serve s turn c) [
  | inl w ↦ elim w.1 [
    | inl d ↦ kept_effect s turn _ d r
    | inr e ↦ subst (λ ms. Rules (moved s ms)) (sym e) (tick_keeps (λ t es. Unit {0}) turn (λ t es x g r h e f q. tt) (λ t es a r h e f. tt) s [] r tt).0
  ]
  | inr d ↦ kept_regroups s c _ d r
]

pub rules_moves : (s : Rows) (turn : Turn) (c : Command) → Rules s → Rules (moved s (step_moves s turn.moment (serve s turn c)))
rules_moves s turn c r =
    let ms : List Move = moves_of (serve s turn c) in
    subst Rules (sym (moved_append s ms (distribution (moved s ms) turn.moment))) (rules_distribution (moved s ms) turn.moment (rules_serve s turn c r))

-- an effect leads from P to Q, where the command changes no planned group's record
abbrev pub EffectLeads : (Rows → List Event → Type 0) → (Rows → List Event → Type 0) → Turn → Command → Type 0
EffectLeads P Q turn c = regroups c ≡ None → (s : Rows) (es : List Event) (ms : List Move) → Effect s turn ms → Rules s → P s es → Kept Q turn.moment s es ms

-- and so does what a command does that changes one
abbrev pub RegroupLeads : (Rows → List Event → Type 0) → (Rows → List Event → Type 0) → ℕ → Command → Type 0
RegroupLeads P Q m c = (s : Rows) (es : List Event) (ms : List Move) → ChangesGroup s c ms → Rules s → P s es → Kept Q m s es ms

-- a command that changes no planned group's record leads from what P says to what Q says
abbrev pub PlanLeads : (Rows → List Event → Type 0) → (Rows → List Event → Type 0) → Command → Type 0
PlanLeads P Q c = regroups c ≡ None → (s : Rows) (es : List Event) → P s es → Q s es

abbrev pub RoundKeeps : (Rows → List Event → Type 0) → Turn → Type 0
RoundKeeps P turn = (s : Rows) (es : List Event) (ms : List Move) → Round s turn ms → Rules s → P s es → Kept P turn.moment s es ms

pub by_rounds : (P : Rows → List Event → Type 0) (turn : Turn) → RoundKeeps P turn → (s : Rows) (es : List Event) → Rules s → P s es
    → Kept P turn.moment s es (distribution s turn.moment)
by_rounds P turn f s es r h =
    distribution_keeps P turn.moment (λ t fs o rt p e. let w = offering t rt o e in let d = w.1.1 in
    subst (Kept P turn.moment t fs) (sym (offer_moves_are t turn.moment o w.0 w.1.0 d.0 d.1)) (f t fs _ (offers o w.0 w.1.0 d.0 d.1) rt p)) s es r h

pub by_tick : (P : Rows → List Event → Type 0) (turn : Turn) → RoundKeeps P turn → (s : Rows) (es : List Event) → Rules s → P s es
    → Kept P turn.moment s es (tick s turn)
by_tick P turn f s es r h =
    (tick_keeps P turn (λ t fs x g rt p found alerting group. f t fs _ (returns x g found alerting group) rt p)
    (λ t fs a rt p found works. f t fs _ (rests a found works) rt p) s es r h).1

-- the service leads from P to Q, and rounds keep Q
pub by_parts : (P Q : Rows → List Event → Type 0) (turn : Turn) (c : Command) → EffectLeads P Q turn c → RegroupLeads P Q turn.moment c
    → PlanLeads P Q c → RoundKeeps Q turn → (s : Rows) (es : List Event) → Rules s → P s es → Kept Q turn.moment s es (step_moves s turn.moment (serve s turn c))
by_parts P Q turn c f regroup g rounds s es r h =
    let ms : List Move = moves_of (serve s turn c) in
    let t : Rows = moved s ms in
    kept-append Q turn.moment s es ms (distribution t turn.moment) (by_rounds Q turn rounds t (es ++ events_of turn.moment ms) (rules_serve s turn c r) served)
  where
    served : Kept Q turn.moment s es (moves_of (serve s turn c))
    served = elim (effect_of_serve s turn c) [
      | inl w ↦ elim w.1 [
        | inl d ↦ f w.0 s es _ d r h
        | inr e ↦ subst (Kept Q turn.moment s es) (sym e) (by_tick Q turn rounds s es r (g w.0 s es h))
      ]
      | inr d ↦ regroup s es _ d r h
    ]

-- both keep P
pub by_effects : (P : Rows → List Event → Type 0) (turn : Turn) (c : Command) → EffectLeads P P turn c → RegroupLeads P P turn.moment c → RoundKeeps P turn
    → (s : Rows) (es : List Event) → Rules s → P s es → Kept P turn.moment s es (step_moves s turn.moment (serve s turn c))
by_effects P turn c f regroup rounds = by_parts P P turn c f regroup (λ _ s es h. h) rounds
