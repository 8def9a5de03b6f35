-- Moves that clear just the calls that they end, and name none above the last; so does each effect.
use Rattle.std.proofs.Common.{◌≡◌, ℕ, ◌+◌, ◌<◌, ◌≤◌, ◌&&◌, List, [], ◌∷◌, ◌++◌, Option, Some, None, refl, sym, ◌∙◌, ap, subst, arith, Bool, true, false, cond, eq-eqb}
use Rattle.std.specs.Prelude.{nat_le, is_none, ◌==◌, max}
use Rattle.acd_lemmas.proofs.Words.{Rows, AgentRecord, CallRecord, ConnectionRecord, AgentState, Cause, Change, Event, Move, Report, find_by, Among, Every, IsAscending, state_wanted, at_call, call_of, other_of, with_group, with_station, with_agent, with_call, with_connection, with_monitor, without_call, without_connection, without_monitor, no_move, silent, reported, changed, moved, with_event, events_of, call_order, parties_of, Command}
use Rattle.acd_terms.specs.Columns.{columns_of}
use Rattle.acd_model.specs.CallPlaces.{clears, cleared_by}
use Rattle.acd_model.specs.Step.{numbered}
use Rattle.acd_model.specs.declared.moves.Change.TheVariants.{PutCall, RemoveCall, PutAgent}
use Rattle.acd_laws.specs.PlacedLaws.{IsCallUpTo, NamesNoLaterCall, clearings, KeepsClearings}
use Rattle.acd_lemmas.proofs.Lists.{one, count-append, every-append, counted}
use Rattle.acd_laws.proofs.Figures.EventCounts.{count_numbered}
use Rattle.std.proofs.lemmas.Bool.{eqb-true, le-leb, leb-true, leb-false, lt-leb}
use Rattle.acd_terms.specs.declared.state.AgentState.TheVariants as A
use Rattle.acd_model.specs.CallMoves.{arrive, begin, end_call, connect_caller, initiate, clear}
use Rattle.acd_model.specs.AgentMoves.{state_report}
use Rattle.acd_lemmas.proofs.RuleFacts.{Rules}
use Rattle.acd_lemmas.proofs.KeyedLists.{eqb_self}
use Rattle.acd_lemmas.proofs.State.{call_put, call_remove, connection_among, call_known, none_of_call, other_device}
use Rattle.acd_laws.proofs.MoveKinds.{AgentMove, stays, remains, reports, Anyone, goes_from, released_by, occupied_by, Arrival, queues, alerts, fails, arrival_of}
use Rattle.acd_terms.specs.declared.state.AgentState.TheVariants.{Ready}
use Rattle.acd_terms.specs.declared.event.Cause.TheVariants.{NewCall}
use Rattle.acd_model.specs.Release.{release, ending_of}
use Rattle.acd_model.specs.Services.{next_call, cleared_group, clear_other, release_other, clearing}
use Rattle.acd_model.specs.declared.moves.Ending.TheVariants.{NoAnswer}
use Rattle.acd_laws.proofs.Effects.{new_call, Party, Round, offers, returns, rests, Effect, nothing, adds_group, adds_station, adds_agent, watches, unwatches, arrives, makes, goes_out, answers, holds, retrieves, clears as clears_call, deflects, transfers, logs_on, rejects, renames, waits, goes, ChangesGroup, refuses, puts}
use Rattle.acd_terms.specs.declared.command.Turn.{Turn}

-- the calls that an optional report clears and names

abbrev pub cleared_in : ℕ → Option Report → ℕ
cleared_in n None = 0
cleared_in n (Some r) = one (clears n r)

abbrev pub NamedIn : ℕ → Option Report → Type 0
NamedIn last None = Unit {0}
NamedIn last (Some r) = IsCallUpTo last (columns_of r).call

abbrev pub Named : ℕ → Event → Type 0
Named last e = IsCallUpTo last (columns_of e.report).call

-- a move clears just the call that it ends, and names none above the last
pub record Counted (s : Rows) (x : Move) : Type 0 where
  pub cleared : (n : ℕ) → 0 < n → clearings (changed s x.change) n ≡ clearings s n + cleared_in n x.report
  pub named : NamedIn (changed s x.change).last_call x.report
  pub grows : s.last_call ≤ (changed s x.change).last_call

abbrev pub AllCounted : Rows → List Move → Type 0
AllCounted s [] = Unit {0}
AllCounted s (x ∷ ms) = Counted s x × AllCounted (changed s x.change) ms

pub counted-append : (s : Rows) (ms ns : List Move) → AllCounted s ms → AllCounted (moved s ms) ns → AllCounted s (ms ++ ns)
counted-append s [] ns h g = g
counted-append s (x ∷ ms) ns h g = (h.0, counted-append (changed s x.change) ms ns h.1 g)

-- clearings

cleared_event : (n m : ℕ) (o : Option Report) (es : List Event) → cleared_by n (with_event m o es) ≡ cleared_in n o + cleared_by n es
unfolding cleared_by
cleared_event n m None es = omega arith
cleared_event n m (Some r) es = refl

cleared_after : (s : Rows) (m : ℕ) (ms : List Move) → AllCounted s ms → (n : ℕ) → 0 < n
    → clearings (moved s ms) n ≡ clearings s n + cleared_by n (events_of m ms)
unfolding cleared_by
cleared_after s m [] h n p = omega arith
cleared_after s m (x ∷ ms) h n p =
    let a = h.0.cleared n p in
    let b = cleared_after (changed s x.change) m ms h.1 n p in
    let c = cleared_event n m x.report (events_of m ms) in
    omega (arith, a, b, c)

pub clearings_moved : (m : ℕ) (s : Rows) (events : List Event) (ms : List Move) → AllCounted s ms → KeepsClearings s events
    → KeepsClearings (moved s ms) (events ++ events_of m ms)
unfolding cleared_by
clearings_moved m s events ms h k n p =
    let a = k n p in
    let b = cleared_after s m ms h n p in
    let c = count-append (λ (e : Event). clears n e.report) events (events_of m ms) in
    omega (arith, a, b, c)

-- numbers don't count
pub clearings_numbered : (s : Rows) (events es : List Event) (k : ℕ) → KeepsClearings s (events ++ es) → KeepsClearings s (events ++ numbered k es)
unfolding cleared_by
clearings_numbered s events es k h n p =
    let a = h n p in
    let b = count-append (λ (e : Event). clears n e.report) events es in
    let c = count-append (λ (e : Event). clears n e.report) events (numbered k es) in
    let d = count_numbered (clears n) k es in
    omega (arith, a, b, c, d)

-- names

later : (last more : ℕ) (o : Option ℕ) → last ≤ more → IsCallUpTo last o → IsCallUpTo more o
later last more None l h = tt
later last more (Some c) l h = omega (arith, l, h)

later_in : (last more : ℕ) (o : Option Report) → last ≤ more → NamedIn last o → NamedIn more o
later_in last more None l h = tt
later_in last more (Some r) l h = later last more (columns_of r).call l h

grown : (s : Rows) (ms : List Move) → AllCounted s ms → s.last_call ≤ (moved s ms).last_call
grown s [] h = omega arith
grown s (x ∷ ms) h = let a = h.0.grows in let b = grown (changed s x.change) ms h.1 in omega (arith, a, b)

every_later : (last more : ℕ) → last ≤ more → (es : List Event) → Every (Named last) es → Every (Named more) es
every_later last more l [] h = tt
every_later last more l (e ∷ es) h = (later last more (columns_of e.report).call l h.0, every_later last more l es h.1)

named_event : (last m : ℕ) (o : Option Report) (es : List Event) → NamedIn last o → Every (Named last) es → Every (Named last) (with_event m o es)
named_event last m None es h g = g
named_event last m (Some r) es h g = (h, g)

named_after : (s : Rows) (m : ℕ) (ms : List Move) → AllCounted s ms → Every (Named (moved s ms).last_call) (events_of m ms)
named_after s m [] h = tt
named_after s m (x ∷ ms) h =
    named_event _ m x.report (events_of m ms) (later_in _ _ x.report (grown (changed s x.change) ms h.1) h.0.named) (named_after (changed s x.change) m ms h.1)

pub names_moved : (m : ℕ) (s : Rows) (events : List Event) (ms : List Move) → AllCounted s ms → NamesNoLaterCall s events
    → NamesNoLaterCall (moved s ms) (events ++ events_of m ms)
names_moved m s events ms h k =
    every-append (Named (moved s ms).last_call) events (events_of m ms) (every_later s.last_call (moved s ms).last_call (grown s ms h) events k)
    (named_after s m ms h)

named_numbered : (last k : ℕ) (es : List Event) → Every (Named last) es → Every (Named last) (numbered k es)
named_numbered last k [] h = tt
named_numbered last k (e ∷ es) h = (h.0, named_numbered last (k + 1) es h.1)

pub names_numbered : (last : ℕ) (events es : List Event) (k : ℕ) → Every (Named last) (events ++ es) → Every (Named last) (events ++ numbered k es)
names_numbered last [] es k h = named_numbered last k es h
names_numbered last (e ∷ events) es k h = (h.0, names_numbered last events es k h.1)

-- a move that neither begins nor ends a call

abbrev pub LeavesCalls : Change → Type 0
LeavesCalls (PutCall c) = ⊥
LeavesCalls (RemoveCall c) = ⊥
LeavesCalls _ = Unit {0}

-- the live calls and the last one are the same
abbrev pub SameCalls : Rows → Rows → Type 0
SameCalls s t = (t.calls ≡ s.calls) × (t.last_call ≡ s.last_call)

pub left_calls : (s : Rows) (c : Change) → LeavesCalls c → SameCalls s (changed s c)
unfolding with_group with_station with_agent with_connection with_monitor without_connection without_monitor
left_calls s (PutCall c) h = absurd h
left_calls s (RemoveCall c) h = absurd h
left_calls s _ h = (refl, refl)

pub same_call : (s t : Rows) → SameCalls s t → (n : ℕ) → call_of t n ≡ call_of s n
unfolding call_of
same_call s t h n = ap (λ (cs : List CallRecord). find_by (at_call n) cs) h.0

pub same_clearings : (s t : Rows) → SameCalls s t → (n : ℕ) → clearings t n ≡ clearings s n
same_clearings s t h n =
    ap (λ (l : ℕ). one (nat_le n l && is_none (call_of t n))) h.1 ∙ ap (λ (o : Option CallRecord). one (nat_le n s.last_call && is_none o)) (same_call s t h n)

pub record Plain (last : ℕ) (x : Move) : Type 0 where
  pub leaves : LeavesCalls x.change
  pub cleared : (n : ℕ) → cleared_in n x.report ≡ 0
  pub named : NamedIn last x.report

counted_one : (s : Rows) (x : Move) → Plain s.last_call x → Counted s x
counted_one s x h =
    let same = left_calls s x.change h.leaves in
    record {
      cleared = λ n p. let a = same_clearings s (changed s x.change) same n in let z = h.cleared n in omega (arith, a, z);
      named = subst (λ l. NamedIn l x.report) (sym same.1) h.named;
      grows = let e = same.1 in omega (arith, e);
    }

pub counted_plain : (s : Rows) (ms : List Move) → Every (Plain s.last_call) ms → AllCounted s ms
counted_plain s [] h = tt
counted_plain s (x ∷ ms) h =
    (counted_one s x h.0, counted_plain (changed s x.change) ms (subst (λ l. Every (Plain l) ms) (sym (left_calls s x.change h.0.leaves).1) h.1))

pub plain_calls : (last : ℕ) (s : Rows) (ms : List Move) → Every (Plain last) ms → SameCalls s (moved s ms)
plain_calls last s [] h = (refl, refl)
plain_calls last s (x ∷ ms) h =
    let a = left_calls s x.change h.0.leaves in
    let b = plain_calls last (changed s x.change) ms h.1 in
    (b.0 ∙ a.0, b.1 ∙ a.1)

-- each move that leaves the calls

pub plain_silent : {last : ℕ} {c : Change} → LeavesCalls c → Plain last (silent c)
plain_silent h = record { leaves = h; cleared = λ n. refl; named = tt }

pub plain_nothing : {last : ℕ} → Plain last no_move
plain_nothing = record { leaves = tt; cleared = λ n. refl; named = tt }

-- a report that isn't of a clearing
pub plain_reported : {last : ℕ} {c : Change} {r : Report} → LeavesCalls c → ((n : ℕ) → clears n r ≡ false) → IsCallUpTo last (columns_of r).call
    → Plain last (reported c r)
plain_reported h f l = record { leaves = h; cleared = λ n. ap one (f n); named = l }

plain_arrival : {s : Rows} {last : ℕ} {turn : Turn} {call to : ℕ} {why : Cause} {x : Move} → Arrival s turn call to why x → call ≤ last → Plain last x
plain_arrival (queues _) l = plain_reported tt (λ n. refl) l
plain_arrival alerts l = plain_reported tt (λ n. refl) l
plain_arrival fails l = plain_reported tt (λ n. refl) l

pub plain_arrive : {last : ℕ} (s : Rows) (turn : Turn) (call to : ℕ) (why : Cause) → call ≤ last → Plain last (arrive s turn call to why)
plain_arrive s turn call to why l = plain_arrival (arrival_of s turn call to why) l

plain_state : {last : ℕ} (a : AgentRecord) (st : AgentState) (n d : ℕ) → Plain last (reported (PutAgent a) (state_report st n d))
plain_state a A.Null n d = plain_reported tt (λ n. refl) tt
plain_state a st n d = plain_reported tt (λ n. refl) tt

pub plain_agent : {K : AgentRecord → Type 0} {last : ℕ} {turn : Turn} {x : Move} → AgentMove K turn x → Plain last x
plain_agent stays = plain_nothing
plain_agent (remains _ _ _ _) = plain_silent tt
plain_agent (reports a b d _ _) = plain_state b b.state b.agent d

-- a new call is one above the last

next_up_to : (n last : ℕ) → ((last + 1 == n) ≡ false) → nat_le n (max last (last + 1)) ≡ nat_le n last
next_up_to n last e =
    let ne : last + 1 ≡ n → ⊥ = λ q. cc (e, eq-eqb (last + 1) n q) in
    (elim (nat_le n last) as (λ b. nat_le n last ≡ b → nat_le n (max last (last + 1)) ≡ b) [
      | true ↦ λ q. let l = leb-true n last q in le-leb n (max last (last + 1)) (omega (arith, l))
      | false ↦ λ q. let l = leb-false n last q in lt-leb n (max last (last + 1)) (omega (arith, l, ne))
    ]) refl

none_if : (b : Bool) → one (b && false) ≡ 0
none_if true = refl
none_if false = refl

begun : (s : Rows) (c : CallRecord) → Rules s → c.call ≡ s.last_call + 1 → (n : ℕ) (l : ℕ) → l ≡ max s.last_call (s.last_call + 1)
    → one (nat_le n l && is_none (call_of (with_call s c) n)) ≡ clearings s n
begun s c r e n l w =
    ap (λ v. one (nat_le n v && is_none (call_of (with_call s c) n))) w
    ∙ ap (λ (o : Option CallRecord). one (nat_le n (max s.last_call (s.last_call + 1)) && is_none o)) (call_put s c n) ∙
    (elim (c.call == n) as (λ b. (c.call == n) ≡ b
    → one (nat_le n (max s.last_call (s.last_call + 1)) && is_none (cond b (Some c) (call_of s n))) ≡ clearings s n) [
      | true ↦ λ q.
          let same : n ≡ s.last_call + 1 = sym (eqb-true c.call n q) ∙ e in
          let above : nat_le n s.last_call ≡ false = lt-leb n s.last_call (omega (arith, same)) in
          none_if (nat_le n (max s.last_call (s.last_call + 1))) ∙ sym (ap (λ b. one (b && is_none (call_of s n))) above)
      | false ↦ λ q. ap (λ b. one (b && is_none (call_of s n))) (next_up_to n s.last_call (ap (λ v. v == n) (sym e) ∙ q))
    ]) refl

pub last_begun : (s : Rows) (c : CallRecord) → (with_call s c).last_call ≡ max s.last_call c.call
unfolding with_call
last_begun s c = refl

pub counted_begin : (s : Rows) (c : CallRecord) → Rules s → c.call ≡ s.last_call + 1 → Counted s (begin c)
counted_begin s c r e =
    let l : (with_call s c).last_call ≡ max s.last_call (s.last_call + 1) = last_begun s c ∙ ap (max s.last_call) e in
    record {
      cleared = λ n p. let a = begun s c r e n (with_call s c).last_call l in omega (arith, a);
      named = tt;
      grows = omega (arith, l);
    }

-- a live call ends

ended : (s : Rows) (c : ℕ) (k : CallRecord) → IsAscending call_order s.calls → call_of s c ≡ Some k → c ≤ s.last_call → (n : ℕ)
    → one (nat_le n s.last_call && is_none (call_of (without_call s c) n)) ≡ clearings s n + one (c == n)
ended s c k asc live le n =
    ap (λ (o : Option CallRecord). one (nat_le n s.last_call && is_none o)) (call_remove s c n asc) ∙
    (elim (c == n) as (λ b. (c == n) ≡ b → one (nat_le n s.last_call && is_none (cond b None (call_of s n))) ≡ clearings s n + one b) [
      | true ↦ λ q.
          let same : c ≡ n = eqb-true c n q in
          let there : call_of s n ≡ Some k = subst (λ v. call_of s v ≡ Some k) same live in
          let up : nat_le n s.last_call ≡ true = le-leb n s.last_call (omega (arith, same, le)) in
          rw (there, up) refl
      | false ↦ λ q. omega arith
    ]) refl

pub counted_end : (s : Rows) (c : ℕ) (g : Option ℕ) (k : CallRecord) → IsAscending call_order s.calls → call_of s c ≡ Some k → c ≤ s.last_call
    → Counted s (end_call c g)
unfolding without_call
counted_end s c g k asc live le =
    record { cleared = λ n p. ended s c k asc live le n; named = le; grows = omega arith }

-- a connection is of a live call, whose number isn't above the last

pub live_call : (s : Rows) → Rules s → (x : ConnectionRecord) → Among x s.connections → (k : CallRecord) × (call_of s x.call ≡ Some k)
live_call s r x a =
    (elim (call_of s x.call) as (λ o. call_of s x.call ≡ o → (k : CallRecord) × (call_of s x.call ≡ Some k)) [
      | None ↦ λ e. let z = none_of_call s r x.call e in let c = counted (parties_of x.call) s.connections x a (eqb_self x.call) in absurd (omega (arith, z, c))
      | Some k ↦ λ e. (k, e)
    ]) refl

pub up_to : (s : Rows) → Rules s → (x : ConnectionRecord) → Among x s.connections → x.call ≤ s.last_call
up_to s r x a = let k = live_call s r x a in (call_known s r x.call k.0 k.1).0

party_up_to : (s : Rows) (p : Party s) → Rules s → p.x.call ≤ s.last_call
party_up_to s p r = up_to s r p.x (connection_among s p.x.call p.x.device p.x p.found)

-- a clearing

plain_clear : {last : ℕ} (x : ConnectionRecord) → x.call ≤ last → Plain last (clear x)
plain_clear x l = plain_reported tt (λ _. refl) l

plain_clear_other : {last : ℕ} (o : Option ConnectionRecord) → ((y : ConnectionRecord) → o ≡ Some y → y.call ≤ last) → Plain last (clear_other o)
plain_clear_other None h = plain_nothing
plain_clear_other (Some y) h = plain_clear y (h y refl)

plain_release_other : {last : ℕ} (s : Rows) (turn : Turn) (o : Option ConnectionRecord) → Plain last (release_other s turn o)
plain_release_other s turn None = plain_nothing
plain_release_other s turn (Some y) = plain_agent (released_by s turn y (ending_of y))

counted_clearing : (s : Rows) (turn : Turn) (p : Party s) → Rules s → AllCounted s (clearing s turn p.x (other_of s p.x))
counted_clearing s turn p r =
    let x : ConnectionRecord = p.x in
    let o : Option ConnectionRecord = other_of s x in
    let le = party_up_to s p r in
    let two : List Move = clear x ∷ clear_other o ∷ [] in
    let last : List Move = release s turn x (ending_of x) ∷ release_other s turn o ∷ [] in
    let plain_two : Every (Plain s.last_call) two =
    (plain_clear x le, (plain_clear_other o (λ y e. let same = (other_device s x y e).0 in omega (arith, same, le)), tt)) in
    let t : Rows = moved s two in
    let same : SameCalls s t = plain_calls s.last_call s two plain_two in
    counted-append s two (end_call x.call (cleared_group x o) ∷ last) (counted_plain s two plain_two) (
      counted_end t x.call (cleared_group x o) p.about (subst (IsAscending call_order) (sym same.0) r.orders.calls) (same_call s t same x.call ∙ p.live)
          (let e = same.1 in omega (arith, e, le)),
      counted_plain (changed t (RemoveCall x.call)) last (plain_agent (released_by s turn x (ending_of x)), (plain_release_other s turn o, tt)),
    )

-- each effect and each round

-- a new call, whose number the state before allows, and moves that speak of it
counted_new : (s : Rows) (c : CallRecord) (ms : List Move) → Rules s → c.call ≡ s.last_call + 1 → ((l : ℕ) → c.call ≤ l → Every (Plain l) ms)
    → AllCounted s (begin c ∷ ms)
counted_new s c ms r n h = (counted_begin s c r n, counted_plain (with_call s c) ms (h (with_call s c).last_call (let e = last_begun s c in omega (arith, e))))

pub counted_round : (s : Rows) (turn : Turn) (ms : List Move) → Round s turn ms → Rules s → AllCounted s ms
counted_round s turn ms (offers o x a d h) r =
    let le = up_to s r x h.there in counted_plain s ms (plain_reported tt (λ _. refl) le, (plain_reported tt (λ _. refl) le, tt))
counted_round s turn ms (returns x g there _ _) r =
    let le = up_to s r x (connection_among s x.call x.device x there) in
    counted_plain s ms (plain_reported tt (λ _. refl) le, (plain_reported tt (λ _. refl) le, (plain_agent (released_by s turn x NoAnswer), tt)))
counted_round s turn ms (rests a _ _) r = counted_plain s ms (plain_agent (goes_from Anyone turn a a.station Ready tt), tt)

pub counted_effect : (s : Rows) (turn : Turn) (ms : List Move) → Effect s turn ms → Rules s → AllCounted s ms
counted_effect s turn _ nothing r = tt
counted_effect s turn ms (adds_group _ _ _ _ _ _) r = counted_plain s ms (plain_silent tt, tt)
counted_effect s turn ms (adds_station _ _ _) r = counted_plain s ms (plain_silent tt, tt)
counted_effect s turn ms (adds_agent _ _ _ _) r = counted_plain s ms (plain_silent tt, tt)
counted_effect s turn ms (watches _ _ _) r = counted_plain s ms (plain_silent tt, tt)
counted_effect s turn ms (unwatches _) r = counted_plain s ms (plain_silent tt, tt)
counted_effect s turn _ (arrives caller called _ _ _) r =
    counted_new s (new_call s turn.moment caller called) (connect_caller (next_call s) caller ∷ arrive s turn (next_call s) called NewCall ∷ []) r refl
    (λ l up. (plain_silent tt, (plain_arrive s turn _ _ _ up, tt)))
counted_effect s turn _ (makes device called _ _ _ _ _ _) r =
    counted_new s (new_call s turn.moment device called) (initiate (next_call s) device ∷ []) r refl (λ l up. (plain_reported tt (λ _. refl) up, tt))
counted_effect s turn ms (goes_out p _) r =
    counted_plain s ms (plain_reported tt (λ _. refl) (party_up_to s p r), (plain_arrive s turn _ _ _ (party_up_to s p r), tt))
counted_effect s turn ms (answers p _) r = counted_plain s ms (plain_reported tt (λ _. refl) (party_up_to s p r), (plain_agent (occupied_by s turn p.x), tt))
counted_effect s turn ms (holds p _ _) r = counted_plain s ms (plain_reported tt (λ _. refl) (party_up_to s p r), tt)
counted_effect s turn ms (retrieves p _ _) r = counted_plain s ms (plain_reported tt (λ _. refl) (party_up_to s p r), tt)
counted_effect s turn _ (clears_call p) r = counted_clearing s turn p r
counted_effect s turn ms (deflects p to _ _) r =
    let le = party_up_to s p r in
    counted_plain s ms (plain_reported tt (λ _. refl) le, (plain_arrive s turn _ _ _ le, (plain_agent (released_by s turn p.x (ending_of p.x)), tt)))
counted_effect s turn ms (transfers p to _ _ _) r =
    let le = party_up_to s p r in
    counted_plain s ms (plain_reported tt (λ _. refl) le, (plain_arrive s turn _ _ _ le, (plain_agent (released_by s turn p.x (ending_of p.x)), tt)))
counted_effect s turn ms (logs_on _ _ _ _ _ _ _ _) r = counted_plain s ms (plain_reported tt (λ _. refl) tt, tt)
counted_effect s turn ms (rejects p g alerting group) r = counted_round s turn ms (returns p.x g p.found alerting group) r
counted_effect s turn ms (renames _ _ _) r = counted_plain s ms (plain_silent tt, tt)
counted_effect s turn ms (waits _ _ _ _ _) r = counted_plain s ms (plain_silent tt, tt)
counted_effect s turn ms (goes a wanted _ _ _) r = counted_plain s ms (plain_agent (goes_from Anyone turn a a.station (state_wanted wanted) tt), tt)

pub counted_regroups : (s : Rows) (c : Command) (ms : List Move) → ChangesGroup s c ms → AllCounted s ms
counted_regroups s c _ (refuses _ _ _) = tt
counted_regroups s c ms (puts _ _ _ _) = counted_plain s ms (plain_silent tt, tt)
