-- A snapshot, followed by the events after it, leads to what a later snapshot shows.
use Rattle.std.proofs.Common.{◌≡◌, ◌⊎◌, inl, inr, ◌↔◌, ℕ, ◌+◌, ◌<◌, ◌≤◌, Bool, true, false, cond, List, [], ◌∷◌, ◌++◌, Option, Some, None, refl, ap, sym, ◌∙◌, subst, arith, append_assoc, append-nil}
use Rattle.std.specs.Prelude.{nat_lt, is_some}
use Rattle.acd_terms.specs.Lists.{Every}
use Rattle.acd_terms.specs.declared.record.Figures.{Figures}
use Rattle.acd_terms.specs.declared.record.GroupRecord.{GroupRecord}
use Rattle.acd_terms.specs.declared.state.ConnectionState.{ConnectionState}
use Rattle.acd_terms.specs.declared.command.Arrival.{Arrival}
use Rattle.acd_terms.specs.declared.event.Columns.{Columns}
use Rattle.acd_terms.specs.declared.event.Event.{Event}
use Rattle.acd_model.specs.Scans.{group_of, agent_of}
use Rattle.acd_model.specs.Figures.{figures_of, sum_of_figures}
use Rattle.acd_model.specs.EventReports.{known_after, connection_reported, Seat, no_seat, seat_reported, enters, last_entry}
use Rattle.acd_model.specs.Watcher.{is_external_caller, state_at, seat_of, HasPlace, IsWatched}
use Rattle.acd_laws.specs.WatchedLaws.{ReportsNoMore}
use Rattle.acd_laws.proofs.Figures.EventCounts.{figures_joined}
use Rattle.acd_laws.proofs.Rules.AllRuleTests.{rules_are_kept}
use Rattle.acd_lemmas.proofs.RuleFacts.{Rules}
use Rattle.acd_lemmas.proofs.State.{group_among, group_key}
use Rattle.acd_laws.proofs.Watched.ReportedState.{after-append}
use Rattle.acd_laws.proofs.Watched.WatchedRuns.{step_keeps_watched, entry_number}
use Rattle.acd_book.specs.Content.{Content, GoOn, IsCounted, kept_of}
use Rattle.acd_desk.specs.Contents.AbstractDesk.{stepped, executed}
use Rattle.acd_desk.specs.Contents.Replies as replies
use Rattle.acd_desk.specs.Contents.SoundContent.{IsSound, ran_after}
use Rattle.acd_desk.specs.Reads.ReadAnswers.{above}
use Rattle.acd_desk_laws.specs.Following.{shown_at, figures_shown, IsCallBefore, LeadsBy, SnapshotLeadsOn}
use Rattle.acd_desk.proofs.Contents.ContentLaws.{sound_keeps_laws, sound_keeps_figures, sound_rules, sound_reports_no_more, sound_counted}
use Rattle.acd_desk_laws.proofs.RecastEvents.{is_held, history, watched_recast, no_more_recast, last_none, held_place}
use Rattle.acd_desk.proofs.Contents.LongerLists.{ran_none, ran_push}
use Rattle.acd_desk.proofs.Contents.SoundRuns.{ran_sound}
use Rattle.acd_desk.proofs.Contents.Steps.{step_numbers, step_event}
use Rattle.acd_desk.proofs.Pages.PageLemmas.{is_above, not_above}
use Rattle.acd_laws.proofs.Watched.Order.{last-append}
use Rattle.acd_lemmas.proofs.Lists.{every-append}

above_old : (n : ℕ) (es fs : List Event) → Every (λ (e : Event). e.number ≤ n) es → above (es ++ fs) n ≡ above fs n
above_old n [] fs h = refl
above_old n (e ∷ es) fs h = ap (λ (b : Bool). cond b (e ∷ above (es ++ fs) n) (above (es ++ fs) n)) (not_above n e h.0) ∙ above_old n es fs h.1

above_new : (n : ℕ) (es : List Event) → Every (λ (e : Event). n < e.number) es → above es n ≡ es
above_new n [] h = refl
above_new n (e ∷ es) h = ap (λ (b : Bool). cond b (e ∷ above es n) (above es n)) (is_above n e h.0) ∙ ap (λ (l : List Event). e ∷ l) (above_new n es h.1)

-- one content has the events of another, and others after its last one, which give a watcher the rest
record Grown (c d : Content) : Type 0 where
  new : List Event
  whole : d.events ≡ c.events ++ new
  after : Every (λ (e : Event). c.rows.last_event < e.number) new
  last : c.rows.last_event ≤ d.rows.last_event
  watched : IsWatched d.rows (history c.rows c.events ++ new)
  no_more : ReportsNoMore d.rows (history c.rows c.events ++ new)

going_up : (low n : ℕ) (es : List Event) → low ≤ n → GoOn n es → Every (λ (e : Event). low < e.number) es
going_up low n [] le h = tt
going_up low n (e ∷ es) le h = let here = h.0 in (omega (arith, le, here), going_up low (n + 1) es (omega (arith, le)) h.1)

grown_executed : (c d : Content) (a : Arrival) → IsSound d → Grown c d → Grown c (executed d a)
grown_executed c d a sound g =
    let es : List Event = (stepped d.rows a).events in
    let event = step_event d.rows a.moment a.request.command in
    let last = g.last in
    let holds = step_keeps_watched d.rows (history c.rows c.events ++ g.new) a.moment a.request.command (rules_are_kept d.rows (sound_rules d sound)) g.watched g.no_more in
    let on = append_assoc (history c.rows c.events) g.new es in
    record {
      new = g.new ++ es;
      whole = ap (λ (l : List Event). l ++ es) g.whole ∙ append_assoc c.events g.new es;
      after = every-append (λ (e : Event). c.rows.last_event < e.number) g.new es g.after (going_up c.rows.last_event d.rows.last_event es last (step_numbers d.rows a.moment a.request.command));
      last = omega (arith, last, event);
      watched = subst (IsWatched (stepped d.rows a).rows) on holds.0;
      no_more = subst (ReportsNoMore (stepped d.rows a).rows) on holds.1;
    }

grown_after : (c d : Content) (a : Arrival) → IsSound d → Grown c d → Grown c (replies.after d a)
grown_after c d a sound g = by (is_some (kept_of d.kept a.request.requester a.request.invoke)) (nat_lt d.rows.last_stamp d.rows.limits.requests)
  where
    by : (known room : Bool) → Grown c (cond known d (cond room (executed d a) d))
    by true room = g
    by false true = grown_executed c d a sound g
    by false false = g

grown_list : (c : Content) (first more : List Arrival) → IsSound c → Grown c (ran_after c first) → Grown c (ran_after c (first ++ more))
grown_list c first [] sound g = subst (λ (l : List Arrival). Grown c (ran_after c l)) (sym (append-nil first)) g
grown_list c first (a ∷ more) sound g =
    subst (λ (l : List Arrival). Grown c (ran_after c l)) (append_assoc first (a ∷ []) more)
    (grown_list c (first ++ a ∷ []) more sound (subst (Grown c) (ran_push c first a) (grown_after c (ran_after c first) a (ran_sound c first sound) g)))

nothing_new : (c : Content) → IsSound c → Grown c c
nothing_new c sound =
    let same = sym (append-nil (history c.rows c.events)) in
    record {
      new = [];
      whole = sym (append-nil c.events);
      after = tt;
      last = omega arith;
      watched = subst (IsWatched c.rows) same (watched_recast c.rows c.events (sound_keeps_laws c sound).watched);
      no_more = subst (ReportsNoMore c.rows) same (no_more_recast c.rows c.events (sound_reports_no_more c sound));
    }

grown : (c : Content) (list : List Arrival) → IsSound c → Grown c (ran_after c list)
grown c list sound = grown_list c [] list sound (subst (Grown c) (ran_none c sound) (nothing_new c sound))

-- the events up to it report all that is shown

shown_by_events : (c : Content) → IsSound c → (call device : ℕ) → shown_at c.rows call device ≡ known_after (connection_reported call device) None c.events
shown_by_events c sound call device = by (is_external_caller c.rows call device) refl
  where
    by : (b : Bool) → is_external_caller c.rows call device ≡ b → cond b None (state_at c.rows call device) ≡ known_after (connection_reported call device) None c.events
    by true e = sym ((sound_reports_no_more c sound).outside call device e)
    by false e = (sound_keeps_laws c sound).watched.connections call device e

seat_shown : (c : Content) → IsSound c → (agent : ℕ) → seat_of (agent_of c.rows agent) ≡ known_after (seat_reported agent) no_seat c.events
seat_shown c sound agent = (sound_keeps_laws c sound).watched.agents agent

figures_counted : (c : Content) → IsSound c → (group : ℕ) → figures_shown (group_of c.rows group) ≡ figures_of group c.events
figures_counted c sound group = by (group_of c.rows group) refl
  where
    by : (o : Option GroupRecord) → group_of c.rows group ≡ o → figures_shown o ≡ figures_of group c.events
    by None e = sym ((sound_keeps_figures c sound).others group (ap is_some e))
    by (Some g) e = (sound_keeps_figures c sound).groups g (group_among c.rows group g e) ∙ ap (λ (n : ℕ). figures_of n c.events) (group_key c.rows group g e)

-- the order of a queue

still_above : (low n k : ℕ) (b : Bool) → low < n → low < k → low < cond b n k
still_above low n k true h j = h
still_above low n k false h j = j

above_low : (g c low k : ℕ) (es : List Event) → Every (λ (e : Event). low < e.number) es → low < k → low < last_entry g c k es
above_low g c low k [] h j = j
above_low g c low k (e ∷ es) h j = above_low g c low (cond (enters g c e) e.number k) es h.1 (still_above low e.number k (enters g c e) h.0 j)

-- what was known of the last entry stays so, or a later one is reported
abbrev KnownOr : ℕ → ℕ → ℕ → ℕ → Type 0
KnownOr low k new_last last = ((new_last ≡ 0) × (last ≡ k)) ⊎ ((low < new_last) × (last ≡ new_last))

known_or : (g c low k : ℕ) (es : List Event) → Every (λ (e : Event). low < e.number) es → KnownOr low k (last_entry g c 0 es) (last_entry g c k es)
known_or g c low k [] h = inl (refl, refl)
known_or g c low k (e ∷ es) h = by (enters g c e) (known_or g c low k es h.1)
  where
    by : (b : Bool) → KnownOr low k (last_entry g c 0 es) (last_entry g c k es) → KnownOr low k (last_entry g c (cond b e.number 0) es) (last_entry g c (cond b e.number k) es)
    by true rest = inr (above_low g c low e.number es h.1 h.0, refl)
    by false rest = rest

-- a call that is held in the later state, and of which no entry is reported since, was held in the first one
held_before : (c d : Content) (g : Grown c d) → Rules c.rows → (group call p : ℕ) → HasPlace d.rows group call p
    → last_entry group call (last_entry group call 0 (history c.rows c.events)) g.new ≡ last_entry group call 0 (history c.rows c.events) → (q : ℕ) × HasPlace c.rows group call q
held_before c d g rules group call p h same = by (is_held c.rows group call) refl
  where
    by : (b : Bool) → is_held c.rows group call ≡ b → (q : ℕ) × HasPlace c.rows group call q
    by true held = held_place c.rows group call rules held
    by false none =
        let events : List Event = history c.rows c.events ++ g.new in
        let some = entry_number group call h.connection events h.of_call (g.watched.entries group h.connection h.there h.of_group) in
        let parts = last-append group call 0 (history c.rows c.events) g.new in
        let nothing = last_none c.rows group call none 0 c.events in
        absurd (omega (arith, some, parts, same, nothing))

queue_order : (c d : Content) (g : Grown c d) → IsSound c → (group first second p q : ℕ) → HasPlace d.rows group first p → HasPlace d.rows group second q
    → (p < q) ↔ IsCallBefore c.rows g.new group first second
queue_order c d g sound group first second p q a b =
    let old : List Event = history c.rows c.events in
    let low : ℕ = c.rows.last_event in
    let rules = rules_are_kept c.rows (sound_rules c sound) in
    let order = g.watched.queues group first second p q a b in
    let fa = last-append group first 0 old g.new in
    let fb = last-append group second 0 old g.new in
    let below = no_more_recast c.rows c.events (sound_reports_no_more c sound) in
    let before = watched_recast c.rows c.events (sound_keeps_laws c sound).watched in
    let la = below.entries group first in
    let lb = below.entries group second in
    elim (known_or group first low (last_entry group first 0 old) g.new g.after) [
      | inl x ↦ elim (known_or group second low (last_entry group second 0 old) g.new g.after) [
        | inl y ↦ (
            let x0 = x.0 in let x1 = x.1 in let y0 = y.0 in let y1 = y.1 in
            let pa = held_before c d g rules group first p a x1 in
            let pb = held_before c d g rules group second q b y1 in (
              λ l. let o = order.0 l in inr (x0, y0, pa.0, pb.0, pa.1, pb.1, (before.queues group first second pa.0 pb.0 pa.1 pb.1).1 (omega (arith, o, fa, fb, x1, y1))),
              λ i. elim i [
                | inl l ↦ absurd (omega (arith, l, x0, y0))
                | inr r ↦ (let o = (before.queues group first second r.2 r.3 r.4 r.5).0 r.6 in order.1 (omega (arith, o, fa, fb, x1, y1)))
              ],
            )
            )
        | inr y ↦ (
            let x0 = x.0 in let x1 = x.1 in let y0 = y.0 in let y1 = y.1 in
            (λ l. inl (omega (arith, x0, y0)), λ i. order.1 (omega (arith, fa, fb, la, x1, y0, y1)))
            )
      ]
      | inr x ↦ elim (known_or group second low (last_entry group second 0 old) g.new g.after) [
        | inl y ↦ (
            let x0 = x.0 in let x1 = x.1 in let y0 = y.0 in let y1 = y.1 in (
              λ l. let o = order.0 l in absurd (omega (arith, o, fa, fb, lb, x0, x1, y1)),
              λ i. elim i [
                | inl l ↦ absurd (omega (arith, l, y0))
                | inr r ↦ (let r0 = r.0 in absurd (omega (arith, r0, x0)))
              ],
            )
            )
        | inr y ↦ (
            let x0 = x.0 in let x1 = x.1 in let y1 = y.1 in (
              λ l. let o = order.0 l in inl (omega (arith, o, fa, fb, x1, y1)),
              λ i. elim i [
                | inl l ↦ order.1 (omega (arith, l, fa, fb, x1, y1))
                | inr r ↦ (let r0 = r.0 in absurd (omega (arith, r0, x0)))
              ],
            )
            )
      ]
    ]

leads_by : (c d : Content) (g : Grown c d) → IsSound c → IsSound d → LeadsBy c d g.new
leads_by c d g before later = record {
  whole = g.whole;
  connections = λ call device.
      let reported : Option ConnectionState → Columns → Option ConnectionState = connection_reported call device in
      shown_by_events d later call device ∙ ap (known_after reported None) g.whole ∙ after-append reported None c.events g.new
      ∙ ap (λ (v : Option ConnectionState). known_after reported v g.new) (sym (shown_by_events c before call device));
  agents = λ agent.
      seat_shown d later agent ∙ ap (known_after (seat_reported agent) no_seat) g.whole ∙ after-append (seat_reported agent) no_seat c.events g.new
      ∙ ap (λ (v : Seat). known_after (seat_reported agent) v g.new) (sym (seat_shown c before agent));
  figures = λ group among.
      (sound_keeps_figures d later).groups group among ∙ ap (figures_of group.device) g.whole ∙ figures_joined group.device c.events g.new
      ∙ ap (λ (f : Figures). sum_of_figures f (figures_of group.device g.new)) (sym (figures_counted c before group.device));
  queues = queue_order c d g before;
}

pub snapshot_leads_on : SnapshotLeadsOn
snapshot_leads_on c list sound =
    let d : Content = ran_after c list in
    let g = grown c list sound in
    let counted : IsCounted c = sound_counted c sound in
    let is : above d.events c.rows.last_event ≡ g.new
    = ap (λ (l : List Event). above l c.rows.last_event) g.whole ∙ above_old c.rows.last_event c.events g.new counted.events ∙ above_new c.rows.last_event g.new g.after in
    subst (LeadsBy c d) (sym is) (leads_by c d g sound (ran_sound c list sound))
