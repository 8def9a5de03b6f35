-- A distribution and tick: each offer, return and rest, one after another, with what it keeps; and a distribution's offers are those that are to be
-- made.
use Rattle.std.proofs.Common.{◌≡◌, ℕ, zero, suc, ◌+◌, ◌≤◌, Bool, true, false, ◌&&◌, List, [], ◌++◌, Option, Some, None, refl, sym, ◌∙◌, ap, subst, arith, length, append_assoc, append-nil, inl, inr, ◌∷◌, eq-eqb}
use Rattle.std.specs.Prelude.{◌==◌, filter, ◌↔◌, is_some}
use Rattle.acd_terms.specs.Groups.{is_one_of, least_group}
use Rattle.acd_lemmas.proofs.Words.{Rows, GroupRecord, AgentRecord, ConnectionRecord, ConnectionState, Event, Move, Offer, remove_by, count, Among, IsAscending, is_ready, is_working_after_call, is_alerting, is_queued, at_connection, agent_of, connection_of, is_idle, is_occupied, waiting_in, is_idle_there, is_eligible, eligible_in, queued_in_all, with_connection, without_connection, moved, events_of, agent_order, connection_order, is_open, open_of}
use Rattle.acd_model.specs.CallMoves.{ringing, queueing}
use Rattle.acd_lemmas.proofs.RuleFacts.{Rules}
use Rattle.acd_lemmas.proofs.Lists.{one, filter_among, counted, count_length, none_from, mapped_among, after_among, ascending-filter, among-put_other, among-remove_other, two_counted, some_from}
use Rattle.acd_lemmas.proofs.State.{connection_found, agent_found, still_none, count_new, count_less, connection_there, is_of, is_of_true, order_equal, order_same, connection_key}
use Rattle.acd_model.specs.Choice.{waiting_pair, ready_pair, offer_of}
use Rattle.acd_model.specs.Offers.{IsOffer, HasNoOffer}
use Rattle.acd_model.specs.Distribution.{offer_at, offer_moves, with_offer, offers, distribution}
use Rattle.acd_model.proofs.MoveLemmas.{events_of_append, moved_append}
use Rattle.acd_laws.proofs.Offers.FoundOffer.{finds_the_offer, nothing_found, no_offer, no_offers}
use Rattle.acd_laws.proofs.Rules.RulesOfOffers.{offer_station, offer_new, kept_offer}
use Rattle.acd_lemmas.proofs.RuleTests.{◌and◌, holds, fails}
use Rattle.std.proofs.lemmas.Bool.Decides.{Decides-eqb as equals}
use Rattle.acd_laws.specs.OfferLaws.{IsDistribution}
use Rattle.acd_laws.specs.OfferLaws.IsDistribution.{ends, goes_on}
use Rattle.std.specs.declared.cmp.Ordering.TheVariants.{Less}
use Rattle.std.proofs.lemmas.Bool.{and_parts, and_from, eqb-true, false_from_ne_true}
use Rattle.acd_terms.specs.declared.state.AgentState.TheVariants as A
use Rattle.acd_terms.specs.declared.state.ConnectionState.TheVariants as S
use Rattle.acd_model.specs.declared.moves.Ending.TheVariants.{NoAnswer}
use Rattle.acd_lemmas.proofs.KeyedLists.{eqb_self, cmp_self}
use Rattle.acd_model.specs.Tick.{is_overdue_offer, is_overdue, overdue_in, return_to, return_moves, is_wrapped_up, wrapped_up_in, wrap_up_moves, each, returns, wraps, tick, is_over_in}
use Rattle.acd_laws.proofs.MoveKinds.{goes_from, released_by, agent_connections, agent_others}
use Rattle.acd_laws.proofs.Rules.RulesOfEnds.{kept_return_to}
use Rattle.acd_laws.proofs.Rules.RulesOfPlanning.{kept_rest_moves}
use Rattle.acd_terms.specs.declared.command.Turn.{Turn}

-- an offer is of a connection that waits in the group, and of an agent who may take it
pub record Offering (s : Rows) (o : Offer) (x : ConnectionRecord) (a : AgentRecord) (d : ℕ) : Type 0 where
  pub call : x.call ≡ o.call
  pub group : x.device ≡ o.group
  pub there : Among x s.connections
  pub queued : is_queued x.state ≡ true
  pub agent : a.agent ≡ o.agent
  pub known : Among a s.agents
  pub member : is_one_of a.groups o.group ≡ true
  pub ready : is_ready a.state ≡ true
  pub station : a.station ≡ Some d
  pub free : is_occupied s a ≡ false
  pub idle : is_idle s d ≡ true
  pub found : connection_of s o.call o.group ≡ Some x
  pub agent_found : agent_of s o.agent ≡ Some a

idle_station : (s : Rows) (o : Option ℕ) → is_idle_there s o ≡ true → (d : ℕ) × ((o ≡ Some d) × (is_idle s d ≡ true))
idle_station s None e = absurd (cc (e))
idle_station s (Some d) e = (d, (refl, e))

pub offering : (s : Rows) → Rules s → (o : Offer) → offer_of s ≡ Some o → (x : ConnectionRecord) × ((a : AgentRecord) × ((d : ℕ) × Offering s o x a d))
unfolding waiting_in eligible_in is_eligible
offering s r o e =
    let h : IsOffer s o = (finds_the_offer s o r.orders.groups).0 e in
    let w = mapped_among waiting_pair (waiting_in s o.group) (h.place, o.call) h.call.there in
    let v = mapped_among ready_pair (eligible_in s o.group) (h.stamp, o.agent) h.agent.there in
    let x : ConnectionRecord = w.0 in
    let a : AgentRecord = v.0 in
    let wx = filter_among (λ (c : ConnectionRecord). c.device == o.group && is_queued c.state) s.connections x w.1.0 in
    let ea = filter_among (is_eligible s o.group) s.agents a v.1.0 in
    let both = (equals x.device o.group and holds (is_queued x.state)).0 wx.1 in
    let may = (holds (is_one_of a.groups o.group) and holds (is_ready a.state) and fails (is_occupied s a) and holds (is_idle_there s a.station)).0 ea.1 in
    let d = idle_station s a.station may.1 in
    let call : x.call ≡ o.call = sym (ap (λ (p : ℕ × ℕ). p.1) w.1.1) in
    let agent : a.agent ≡ o.agent = sym (ap (λ (p : ℕ × ℕ). p.1) v.1.1) in (
      x,
      (
        a,
        (
          d.0,
          record {
            call = call;
            group = both.0;
            there = wx.0;
            queued = both.1;
            agent = agent;
            known = ea.0;
            member = may.0.0.0;
            ready = may.0.0.1;
            station = d.1.0;
            free = may.0.1;
            idle = d.1.1;
            found =
                subst (λ c. connection_of s c o.group ≡ Some x) call
                (subst (λ g. connection_of s x.call g ≡ Some x) both.0 (connection_found s r.orders.connections x wx.0));
            agent_found = subst (λ n. agent_of s n ≡ Some a) agent (agent_found s r.orders.agents a ea.0);
          },
        ),
      ),
    )

pub offer_moves_are : (s : Rows) (m : ℕ) (o : Offer) (x : ConnectionRecord) (a : AgentRecord) (d : ℕ) → Offering s o x a d
    → offer_moves s m o ≡ offer_at m (Some x) (Some d)
unfolding offer_moves
offer_moves_are s m o x a d h = rw (h.found, h.agent_found) (ap (λ v. offer_at m (Some x) v) h.station)

pub rules_offer : (s : Rows) (m : ℕ) (o : Offer) → Rules s → offer_of s ≡ Some o → Rules (moved s (offer_moves s m o))
rules_offer s m o r e =
    let f = offering s r o e in
    let x : ConnectionRecord = f.0 in
    let a : AgentRecord = f.1.0 in
    let d : ℕ = f.1.1.0 in
    let h : Offering s o x a d = f.1.1.1 in
    subst (λ ms. Rules (moved s ms)) (sym (offer_moves_are s m o x a d h))
    (kept_offer s x a d m r (connection_there s r x h.there) h.queued h.known h.ready h.station h.free h.idle)

abbrev pub Kept : (Rows → List Event → Type 0) → ℕ → Rows → List Event → List Move → Type 0
Kept P m s es ms = P (moved s ms) (es ++ events_of m ms)

abbrev pub OfferKeeps : (Rows → List Event → Type 0) → ℕ → Type 0
OfferKeeps P m = (s : Rows) (es : List Event) (o : Offer) → Rules s → P s es → offer_of s ≡ Some o → Kept P m s es (offer_moves s m o)

-- the moves of a distribution keep what each offer keeps
pub offers_keep : (P : Rows → List Event → Type 0) (m : ℕ) → OfferKeeps P m → (n : ℕ) (s : Rows) (es : List Event) → Rules s → P s es
    → Kept P m s es (offers n s m)
offers_keep P m f zero s es r h = subst (P s) (sym (append-nil es)) h
offers_keep P m f (suc n) s es r h =
    (elim (offer_of s) as (λ p. offer_of s ≡ p → P (moved s (with_offer p [] (λ o. offer_moves s m o ++ offers n (moved s (offer_moves s m o)) m)))
    (es ++ events_of m (with_offer p [] (λ o. offer_moves s m o ++ offers n (moved s (offer_moves s m o)) m)))) [
      | None ↦ λ _. subst (P s) (sym (append-nil es)) h
      | Some o ↦ λ e.
          let one : List Move = offer_moves s m o in
          let rest : List Move = offers n (moved s one) m in
          subst (λ t. P t (es ++ events_of m (one ++ rest))) (sym (moved_append s one rest))
          (subst (P (moved (moved s one) rest)) (append_assoc es (events_of m one) (events_of m rest) ∙ ap (λ qs. es ++ qs) (sym (events_of_append m one rest)))
          (offers_keep P m f n (moved s one) (es ++ events_of m one) (rules_offer s m o r e) (f s es o r h e)))
    ]) refl

pub distribution_keeps : (P : Rows → List Event → Type 0) (m : ℕ) → OfferKeeps P m → (s : Rows) (es : List Event) → Rules s → P s es
    → Kept P m s es (distribution s m)
unfolding distribution
distribution_keeps P m f s es r h = offers_keep P m f (length (queued_in_all s)) s es r h

pub rules_distribution : (s : Rows) (m : ℕ) → Rules s → Rules (moved s (distribution s m))
rules_distribution s m r = distribution_keeps (λ t es. Rules t) m (λ t es o q h e. rules_offer t m o q e) s [] r r

-- an offer takes one from the queues

abbrev pub in_queue : ConnectionRecord → Bool
in_queue x = is_queued x.state

taken : (s : Rows) (x : ConnectionRecord) (a : AgentRecord) (d m : ℕ) → Rules s → Among x s.connections → is_queued x.state ≡ true → Among a s.agents
    → is_ready a.state ≡ true → a.station ≡ Some d → is_idle s d ≡ true
    → count in_queue (moved s (offer_at m (Some x) (Some d))).connections + 1 ≡ count in_queue s.connections
unfolding with_connection without_connection
taken s x a d m r there queued known ready station idle =
    let y : ConnectionRecord = ringing m x d in
    let ex : connection_of s x.call x.device ≡ Some x = connection_there s r x there in
    let none = offer_new s x d r ex queued (offer_station s a d r known ready station) idle in
    let u : Rows = without_connection s x.call x.device in
    let e1 = count_new in_queue u y (still_none s x.call x.device x.call d r.orders.connections none) in
    let e2 = count_less in_queue s x.call x.device x ex in
    let f : one (is_queued x.state) ≡ 1 = ap one queued in
    omega (arith, e1, e2, f)

pub fewer_queued : (s : Rows) (m : ℕ) (o : Offer) → Rules s → offer_of s ≡ Some o
    → count in_queue (moved s (offer_moves s m o)).connections + 1 ≡ count in_queue s.connections
fewer_queued s m o r e =
    let f = offering s r o e in
    let x : ConnectionRecord = f.0 in
    let a : AgentRecord = f.1.0 in
    let d : ℕ = f.1.1.0 in
    let h : Offering s o x a d = f.1.1.1 in
    subst (λ ms. count in_queue (moved s ms).connections + 1 ≡ count in_queue s.connections) (sym (offer_moves_are s m o x a d h))
    (taken s x a d m r h.there h.queued h.known h.ready h.station h.idle)

none_left : (n : ℕ) (s : Rows) (m : ℕ) → Rules s → count in_queue s.connections ≤ n → offer_of (moved s (offers n s m)) ≡ None
none_left zero s m r l =
    none_from (offer_of s) (λ o e. let f = offering s r o e in let c = counted in_queue s.connections f.0 f.1.1.1.there f.1.1.1.queued in omega (arith, l, c))
none_left (suc n) s m r l =
    (elim (offer_of s) as (λ p. offer_of s ≡ p
    → offer_of (moved s (with_offer p [] (λ o. offer_moves s m o ++ offers n (moved s (offer_moves s m o)) m))) ≡ None) [
      | None ↦ λ e. e
      | Some o ↦ λ e. let f = fewer_queued s m o r e in
          ap offer_of (moved_append s (offer_moves s m o) (offers n (moved s (offer_moves s m o)) m))
          ∙ none_left n (moved s (offer_moves s m o)) m (rules_offer s m o r e) (omega (arith, f, l))
    ]) refl

pub no_offer_after : (s : Rows) (m : ℕ) → Rules s → offer_of (moved s (distribution s m)) ≡ None
unfolding distribution queued_in_all
no_offer_after s m r = none_left (length (filter in_queue s.connections)) s m r (let n = count_length in_queue s.connections in omega (arith, n))

-- after a distribution no group has both a waiting call and an eligible agent
pub nothing_left : (s : Rows) (m : ℕ) (g : GroupRecord) → Rules s → Among g (moved s (distribution s m)).groups
    → HasNoOffer (moved s (distribution s m)) g.device
nothing_left s m g r a = nothing_found (moved s (distribution s m)) g (no_offer_after s m r) a

-- a distribution is the offers that are to be made, and no others

-- with as many offers as calls are queued, or more
made_is : (m n : ℕ) (s : Rows) → Rules s → count in_queue s.connections ≤ n → IsDistribution m s (offers n s m)
made_is m zero s r l =
    ends s (λ g a. nothing_found s g
    (none_from (offer_of s)
    (λ o e. let f = offering s r o e in let c = counted in_queue s.connections f.0 f.1.1.1.there f.1.1.1.queued in omega (arith, l, c)))
    a)
made_is m (suc n) s r l =
    (elim (offer_of s) as (λ p. offer_of s ≡ p → IsDistribution m s (with_offer p [] (λ o. offer_moves s m o ++ offers n (moved s (offer_moves s m o)) m))) [
      | None ↦ λ e. ends s (λ g a. nothing_found s g e a)
      | Some o ↦ λ e. let f = fewer_queued s m o r e in
          goes_on s o _ ((finds_the_offer s o r.orders.groups).0 e) (made_is m n (moved s (offer_moves s m o)) (rules_offer s m o r e) (omega (arith, f, l)))
    ]) refl

-- one offer and the rest, where one is to be made
an_offer : (n : ℕ) (s : Rows) (m : ℕ) (o : Offer) → offer_of s ≡ Some o → offers (suc n) s m ≡ offer_moves s m o ++ offers n (moved s (offer_moves s m o)) m
an_offer n s m o e = ap (λ p. with_offer p [] (λ o. offer_moves s m o ++ offers n (moved s (offer_moves s m o)) m)) e

is_made : (m n : ℕ) (s : Rows) (ms : List Move) → IsDistribution m s ms → Rules s → count in_queue s.connections ≤ n → ms ≡ offers n s m
is_made m n _ _ (ends s h) r l = sym (no_offers n s m (no_offer s h))
is_made m zero _ _ (goes_on s o more i rest) r l = let f = fewer_queued s m o r ((finds_the_offer s o r.orders.groups).1 i) in absurd (omega (arith, f, l))
is_made m (suc n) _ _ (goes_on s o more i rest) r l =
    let e : offer_of s ≡ Some o = (finds_the_offer s o r.orders.groups).1 i in
    let f = fewer_queued s m o r e in
    ap (λ (v : List Move). offer_moves s m o ++ v) (is_made m n (moved s (offer_moves s m o)) more rest (rules_offer s m o r e) (omega (arith, f, l)))
    ∙ sym (an_offer n s m o e)

pub finds_the_distribution : (s : Rows) (m : ℕ) (moves : List Move) → Rules s → (moves ≡ distribution s m) ↔ IsDistribution m s moves
unfolding distribution queued_in_all
finds_the_distribution s m ms r =
    let n = count_length in_queue s.connections in
    let l : count in_queue s.connections ≤ length (queued_in_all s) = omega (arith, n) in
    (λ e. subst (IsDistribution m s) (sym e) (made_is m (length (queued_in_all s)) s r l), λ d. is_made m (length (queued_in_all s)) s ms d r l)

-- moves in a row

pub kept_nothing : (P : Rows → List Event → Type 0) (m : ℕ) (s : Rows) (es : List Event) → P s es → Kept P m s es []
kept_nothing P m s es h = subst (P s) (sym (append-nil es)) h

pub kept-append : (P : Rows → List Event → Type 0) (m : ℕ) (s : Rows) (es : List Event) (ms ns : List Move) → Kept P m (moved s ms) (es ++ events_of m ms) ns
    → Kept P m s es (ms ++ ns)
kept-append P m s es ms ns h =
    subst (λ t. P t (es ++ events_of m (ms ++ ns))) (sym (moved_append s ms ns))
    (subst (P (moved (moved s ms) ns)) (append_assoc es (events_of m ms) (events_of m ns) ∙ ap (λ qs. es ++ qs) (sym (events_of_append m ms ns))) h)

-- offers that go back, one after the other

pub return_stays : (t : Rows) (turn : Turn) (g : ℕ) (x z : ConnectionRecord) → Among z t.connections → (z.call ≡ x.call → ⊥)
    → Among z (moved t (return_to t turn x (Some g))).connections
unfolding with_connection without_connection
return_stays t turn g x z a ne =
    subst (Among z) (sym (agent_connections turn _ _ (released_by t turn x NoAnswer)))
    (among-put_other (at_connection x.call g) (queueing x.call g x.place x.queued) (remove_by (at_connection x.call x.device) t.connections) z
    (among-remove_other (at_connection x.call x.device) t.connections z a
    (connection_key x.call x.device z ∙ false_from_ne_true (is_of x.call x.device z) (λ e. ne (is_of_true x.call x.device z e).0)))
    (λ e. ne (sym (order_equal (queueing x.call g x.place x.queued) z e).0)))

opens : (st : ConnectionState) → is_alerting st ≡ true → is_open st ≡ true
opens S.Alerting e = refl
opens _ e = absurd (cc (e))

-- two alerting connections are of two calls
pub other_call : (t : Rows) (x z : ConnectionRecord) → Rules t → Among x t.connections → Among z t.connections → is_alerting x.state ≡ true
    → is_alerting z.state ≡ true → connection_order x z ≡ Less → z.call ≡ x.call → ⊥
other_call t x z r a b ax az l e =
    let two =
    two_counted (open_of x.call) t.connections x z a b (and_from (is_open x.state) (x.call == x.call) (opens x.state ax) (eqb_self x.call))
    (and_from (is_open z.state) (z.call == x.call) (opens z.state az) (eq-eqb z.call x.call e))
    (λ q. cc (l, order_same x z (ap (λ (w : ConnectionRecord). w.call) q) (ap (λ (w : ConnectionRecord). w.device) q))) in
    let o = r.one_open x.call in absurd (omega (arith, two, o))

-- a return of a call keeps this
abbrev pub ReturnKeeps : (Rows → List Event → Type 0) → Turn → Type 0
ReturnKeeps P turn =
    (t : Rows) (es : List Event) (x : ConnectionRecord) (g : ℕ) → Rules t → P t es → connection_of t x.call x.device ≡ Some x → is_alerting x.state ≡ true
    → x.group ≡ Some g
    → Kept P turn.moment t es (return_to t turn x (Some g))

-- an end of after-call work keeps this
abbrev pub RestKeeps : (Rows → List Event → Type 0) → Turn → Type 0
RestKeeps P turn =
    (t : Rows) (es : List Event) (a : AgentRecord) → Rules t → P t es → agent_of t a.agent ≡ Some a → is_working_after_call a.state ≡ true
    → Kept P turn.moment t es (wrap_up_moves turn a)

-- a connection that is to go back
pub record Back (t : Rows) (z : ConnectionRecord) : Type 0 where
  pub there : Among z t.connections
  pub alerting : is_alerting z.state ≡ true
  pub grouped : is_some z.group ≡ true

grouped_offer : (s : Rows) (m : ℕ) (g o : Option ℕ) → is_overdue_offer s m g o ≡ true → is_some g ≡ true
grouped_offer s m None o e = absurd (cc (e))
grouped_offer s m (Some g) o e = refl

returns_keep : (P : Rows → List Event → Type 0) (turn : Turn) → ReturnKeeps P turn → (t : Rows) (es : List Event) (xs : List ConnectionRecord)
    → IsAscending connection_order xs → ((z : ConnectionRecord) → Among z xs → Back t z) → Rules t → P t es
    → Rules (moved t (each (λ t x. return_moves t turn x) t xs)) × Kept P turn.moment t es (each (λ t x. return_moves t turn x) t xs)
returns_keep P turn f t es [] so b r h = (r, kept_nothing P turn.moment t es h)
returns_keep P turn f t es (x ∷ xs) so b r h =
    let bx = b x (inl refl) in
    let g = some_from x.group bx.grouped in
    let found : connection_of t x.call x.device ≡ Some x = connection_there t r x bx.there in
    let one : List Move = return_moves t turn x in
    let same : return_to t turn x (Some g.0) ≡ one = ap (return_to t turn x) (sym g.1) in
    let rest : List Move = each (λ t x. return_moves t turn x) (moved t one) xs in
    let r1 : Rules (moved t one) = subst (λ ms. Rules (moved t ms)) same (kept_return_to t turn g.0 x r found bx.alerting g.1) in
    let h1 : Kept P turn.moment t es one = subst (Kept P turn.moment t es) same (f t es x g.0 r h found bx.alerting g.1) in
    let ih = returns_keep P turn f (moved t one) (es ++ events_of turn.moment one) xs so.1
    (λ z a. let bz = b z (inr a) in record {
      there =
          subst (λ ms. Among z (moved t ms).connections) same
          (return_stays t turn g.0 x z bz.there
          (other_call t x z r bx.there bz.there bx.alerting bz.alerting (after_among connection_order x xs z so.0 a)));
      alerting = bz.alerting;
      grouped = bz.grouped;
    }) r1 h1 in
    (subst Rules (sym (moved_append t one rest)) ih.0, kept-append P turn.moment t es one rest ih.1)

-- ends of after-call work, one after the other

rests_keep : (P : Rows → List Event → Type 0) (turn : Turn) → RestKeeps P turn → (t : Rows) (es : List Event) (xs : List AgentRecord)
    → IsAscending agent_order xs → ((a : AgentRecord) → Among a xs → (agent_of t a.agent ≡ Some a) × (is_working_after_call a.state ≡ true)) → Rules t → P t es
    → Rules (moved t (each (λ t a. wrap_up_moves turn a) t xs)) × Kept P turn.moment t es (each (λ t a. wrap_up_moves turn a) t xs)
rests_keep P turn f t es [] so b r h = (r, kept_nothing P turn.moment t es h)
rests_keep P turn f t es (a ∷ xs) so b r h =
    let ba = b a (inl refl) in
    let one : List Move = wrap_up_moves turn a in
    let rest : List Move = each (λ t a. wrap_up_moves turn a) (moved t one) xs in
    let r1 : Rules (moved t one) = kept_rest_moves t turn a r ba.0 ba.1 in
    let h1 : Kept P turn.moment t es one = f t es a r h ba.0 ba.1 in
    let ih = rests_keep P turn f (moved t one) (es ++ events_of turn.moment one) xs so.1
    (λ c i. let bc = b c (inr i) in (
      agent_others turn c.agent t _ (goes_from (λ d. (d.agent == c.agent) ≡ false) turn a a.station A.Ready
          (false_from_ne_true (a.agent == c.agent) (λ q. cc (after_among agent_order a xs c so.0 i, cmp_self a.agent c.agent (eqb-true a.agent c.agent q)))))
          ∙ bc.0,
      bc.1,
    ))
    r1 h1 in
    (subst Rules (sym (moved_append t one rest)) ih.0, kept-append P turn.moment t es one rest ih.1)

pub overdue_back : (s : Rows) (m : ℕ) (z : ConnectionRecord) → Among z (overdue_in s m) → Back s z
unfolding overdue_in is_overdue
overdue_back s m z a =
    let w = filter_among (is_overdue s m) s.connections z a in
    let q = and_parts (is_alerting z.state) (is_overdue_offer s m z.group z.offered) w.1 in
    record { there = w.0; alerting = q.0; grouped = grouped_offer s m z.group z.offered q.1 }

overdue_ascend : (s : Rows) (m : ℕ) → Rules s → IsAscending connection_order (overdue_in s m)
unfolding overdue_in
overdue_ascend s m r = ascending-filter connection_order (is_overdue s m) s.connections r.orders.connections

rested_works : (s : Rows) (m : ℕ) (a : AgentRecord) → Rules s → Among a (wrapped_up_in s m) → (agent_of s a.agent ≡ Some a) × (is_working_after_call a.state ≡ true)
unfolding wrapped_up_in is_wrapped_up
rested_works s m a r i =
    let w = filter_among (is_wrapped_up s m) s.agents a i in
    (agent_found s r.orders.agents a w.0, (and_parts (is_working_after_call a.state) (is_over_in s m a (least_group a.groups)) w.1).0)

rested_ascend : (s : Rows) (m : ℕ) → Rules s → IsAscending agent_order (wrapped_up_in s m)
unfolding wrapped_up_in
rested_ascend s m r = ascending-filter agent_order (is_wrapped_up s m) s.agents r.orders.agents

pub returned : (P : Rows → List Event → Type 0) (turn : Turn) → ReturnKeeps P turn → (s : Rows) (es : List Event) → Rules s → P s es
    → Rules (moved s (returns s turn)) × Kept P turn.moment s es (returns s turn)
unfolding returns
returned P turn f s es r h = returns_keep P turn f s es (overdue_in s turn.moment) (overdue_ascend s turn.moment r) (overdue_back s turn.moment) r h

rested : (P : Rows → List Event → Type 0) (turn : Turn) → RestKeeps P turn → (s : Rows) (es : List Event) → Rules s → P s es
    → Rules (moved s (wraps s turn)) × Kept P turn.moment s es (wraps s turn)
unfolding wraps
rested P turn f s es r h = rests_keep P turn f s es (wrapped_up_in s turn.moment) (rested_ascend s turn.moment r) (λ a i. rested_works s turn.moment a r i) r h

pub tick_keeps : (P : Rows → List Event → Type 0) (turn : Turn) → ReturnKeeps P turn → RestKeeps P turn → (s : Rows) (es : List Event) → Rules s → P s es
    → Rules (moved s (tick s turn)) × Kept P turn.moment s es (tick s turn)
unfolding tick
tick_keeps P turn f g s es r h =
    let t : Rows = moved s (returns s turn) in
    let a = returned P turn f s es r h in
    let b = rested P turn g t (es ++ events_of turn.moment (returns s turn)) a.0 a.1 in
    (subst Rules (sym (moved_append s (returns s turn) (wraps t turn))) b.0, kept-append P turn.moment s es (returns s turn) (wraps t turn) b.1)
