-- A group holds what entered and didn't leave; and the order of entries is that of places.
use Rattle.std.proofs.Common.{◌≡◌, ℕ, ◌+◌, List, [], ◌∷◌, ◌++◌, Option, Some, None, refl, ◌∙◌, ap, arith, ◌<◌, ◌≤◌, ◌⊎◌, inl, inr, Bool, true, false, ◌&&◌, cond, sym, subst, length, append_assoc, eq-eqb}
use Rattle.acd_lemmas.proofs.Words.{Rows, ConnectionRecord, Event, Move, Report, put_by, count, total, Among, IsAscending, connection_of, has, with_connection, without_connection, moved, event_at, with_event, events_of, connection_order, is_open}
use Rattle.acd_model.specs.Figures.{is_entry, is_answer, is_abandonment, is_moving_away, figures_of}
use Rattle.acd_model.specs.Rules.Occupied.{waits_in, rings_from}
use Rattle.acd_lemmas.proofs.Lists.{one, total-append, some_is, among_put}
use Rattle.acd_model.proofs.MoveLemmas.{moved_append, events_of_append}
use Rattle.acd_lemmas.proofs.State.{count_new, count_old, count_less}
use Rattle.std.specs.Prelude.{◌==◌}
use Rattle.std.proofs.lemmas.List.{length-append}
use Rattle.std.proofs.lemmas.Bool.{and_left, and_right, and_from, eqb-true, false_from_ne_true}
use Rattle.acd_terms.specs.Columns.{columns_of}
use Rattle.acd_terms.specs.declared.state.ConnectionState.TheVariants as S
use Rattle.acd_model.specs.EventReports.{enters, last_entry}
use Rattle.acd_model.specs.Watcher.{waits_or_rings, HasPlace, InOrder}
use Rattle.acd_model.specs.Step.{numbered}
use Rattle.acd_laws.proofs.Watched.ReportedState.{HasEntries, UpTo}
use Rattle.acd_laws.proofs.Figures.EventCounts.{numbered-append}

-- of a group: the calls that wait in it and ring from it
abbrev pub holding : Rows → ℕ → ℕ
holding s g = count (waits_in g) s.connections + count (rings_from g) s.connections

-- a connection's part of it
abbrev pub held : ℕ → ConnectionRecord → ℕ
held g x = one (waits_in g x) + one (rings_from g x)

pub holding_new : (s : Rows) (x : ConnectionRecord) (g : ℕ) → connection_of s x.call x.device ≡ None → holding (with_connection s x) g ≡ held g x + holding s g
unfolding with_connection
holding_new s x g e = let a = count_new (waits_in g) s x e in let b = count_new (rings_from g) s x e in omega (arith, a, b)

pub holding_old : (s : Rows) (x z : ConnectionRecord) (g : ℕ) → IsAscending connection_order s.connections → connection_of s x.call x.device ≡ Some z
    → holding (with_connection s x) g + held g z ≡ held g x + holding s g
unfolding with_connection
holding_old s x z g h e = let a = count_old (waits_in g) s x z h e in let b = count_old (rings_from g) s x z h e in omega (arith, a, b)

pub holding_less : (s : Rows) (c d : ℕ) (z : ConnectionRecord) (g : ℕ) → connection_of s c d ≡ Some z
    → holding (without_connection s c d) g + held g z ≡ holding s g
unfolding without_connection
holding_less s c d z g e = let a = count_less (waits_in g) s c d z e in let b = count_less (rings_from g) s c d z e in omega (arith, a, b)

-- the entries of moves, and what leaves by them

abbrev pub gone : ℕ → Report → ℕ
gone g r = one (is_answer g r) + one (is_abandonment g r) + one (is_moving_away g r)

abbrev pub entry_by : ℕ → Option Report → ℕ
entry_by g None = 0
entry_by g (Some r) = one (is_entry g r)

abbrev pub gone_by : ℕ → Option Report → ℕ
gone_by g None = 0
gone_by g (Some r) = gone g r

abbrev pub entries : ℕ → List Move → ℕ
entries g ms = total (λ (x : Move). entry_by g x.report) ms

abbrev pub leaves : ℕ → List Move → ℕ
leaves g ms = total (λ (x : Move). gone_by g x.report) ms

-- after moves, a group's calls and those that left by them are the calls that it held before and those that entered
abbrev pub Balances : Rows → List Move → Type 0
Balances s ms = (g : ℕ) → holding (moved s ms) g + leaves g ms ≡ holding s g + entries g ms

-- the same, counted from the events

abbrev entered_in : ℕ → List Event → ℕ
entered_in g events = count (λ (e : Event). is_entry g e.report) events

abbrev gone_in : ℕ → List Event → ℕ
gone_in g events =
    count (λ (e : Event). is_answer g e.report) events + count (λ (e : Event). is_abandonment g e.report) events
    + count (λ (e : Event). is_moving_away g e.report) events

entered_event : (g m : ℕ) (o : Option Report) (es : List Event) → entered_in g (with_event m o es) ≡ entry_by g o + entered_in g es
entered_event g m None es = omega arith
entered_event g m (Some r) es = refl

gone_event : (g m : ℕ) (o : Option Report) (es : List Event) → gone_in g (with_event m o es) ≡ gone_by g o + gone_in g es
gone_event g m None es = omega arith
gone_event g m (Some r) es = omega arith

entries_is : (g m : ℕ) (ms : List Move) → entered_in g (events_of m ms) ≡ entries g ms
entries_is g m [] = refl
entries_is g m (x ∷ ms) = entered_event g m x.report (events_of m ms) ∙ ap (λ n. entry_by g x.report + n) (entries_is g m ms)

leaves_is : (g m : ℕ) (ms : List Move) → gone_in g (events_of m ms) ≡ leaves g ms
leaves_is g m [] = refl
leaves_is g m (x ∷ ms) = gone_event g m x.report (events_of m ms) ∙ ap (λ n. gone_by g x.report + n) (leaves_is g m ms)

-- the figures that the events of balanced moves count
pub balanced_events : (s : Rows) (m : ℕ) (ms : List Move) → Balances s ms → (g : ℕ)
    → holding (moved s ms) g + ((figures_of g (events_of m ms)).answered + (figures_of g (events_of m ms)).abandoned + (figures_of g (events_of m ms)).moved)
    ≡ holding s g + (figures_of g (events_of m ms)).entered
unfolding figures_of
balanced_events s m ms h g = let a = entries_is g m ms in let b = leaves_is g m ms in let c = h g in omega (arith, a, b, c)

pub entries-append : (g : ℕ) (ms ns : List Move) → entries g (ms ++ ns) ≡ entries g ms + entries g ns
entries-append g ms ns = total-append (λ (x : Move). entry_by g x.report) ms ns

pub leaves-append : (g : ℕ) (ms ns : List Move) → leaves g (ms ++ ns) ≡ leaves g ms + leaves g ns
leaves-append g ms ns = total-append (λ (x : Move). gone_by g x.report) ms ns

pub balances-append : (s : Rows) (ms ns : List Move) → Balances s ms → Balances (moved s ms) ns → Balances s (ms ++ ns)
balances-append s ms ns h f g =
    let a = entries-append g ms ns in
    let b = leaves-append g ms ns in
    let c : holding (moved s (ms ++ ns)) g ≡ holding (moved (moved s ms) ns) g = ap (λ t. holding t g) (moved_append s ms ns) in
    let d = h g in
    let e = f g in
    omega (arith, a, b, c, d, e)

-- in order, each with an entry, and up to a stamp and an event's number
pub record Ordered (b n : ℕ) (s : Rows) (events : List Event) : Type 0 where
  pub in_order : InOrder s events
  pub entered : HasEntries s events
  pub up_to : UpTo b n s events

-- moves keep it, from one stamp to another
abbrev pub OrderKept : ℕ → ℕ → ℕ → Rows → List Move → Type 0
OrderKept m b c s ms =
    (events : List Event) (n : ℕ) → Ordered b n s events → Ordered c (n + length (events_of m ms)) (moved s ms) (events ++ numbered n (events_of m ms))

pub last-append : (g c k : ℕ) (es fs : List Event) → last_entry g c k (es ++ fs) ≡ last_entry g c (last_entry g c k es) fs
last-append g c k [] fs = refl
last-append g c k (e ∷ es) fs = last-append g c (cond (enters g c e) e.number k) es fs

-- moves without an entry change no last entry

not_one : (b : Bool) → one b ≡ 0 → b ≡ false
not_one true e = absurd (omega (arith, e))
not_one false e = refl

last_event : (g c k n m : ℕ) (o : Option Report) (es : List Event) → entry_by g o ≡ 0 → ((j : ℕ) → last_entry g c k (numbered j es) ≡ k)
    → last_entry g c k (numbered n (with_event m o es)) ≡ k
last_event g c k n m None es z h = h n
last_event g c k n m (Some r) es z h =
    ap (λ b. last_entry g c (cond b (n + 1) k) (numbered (n + 1) es)) (and_left (is_entry g r) (has (columns_of r).call c) (not_one (is_entry g r) z))
    ∙ h (n + 1)

no_entry : (g c k n m : ℕ) (ms : List Move) → entries g ms ≡ 0 → last_entry g c k (numbered n (events_of m ms)) ≡ k
no_entry g c k n m [] z = refl
no_entry g c k n m (x ∷ ms) z = last_event g c k n m x.report (events_of m ms) (omega (arith, z)) (λ j. no_entry g c k j m ms (omega (arith, z)))

-- order stays where no call enters, and each that is held was held at its place
pub stays : (m b : ℕ) (s : Rows) (ms : List Move) → ((g : ℕ) → entries g ms ≡ 0) → ((g c p : ℕ) → HasPlace (moved s ms) g c p → HasPlace s g c p)
    → OrderKept m b b s ms
stays m b s ms z h events n o =
    let same : (g c : ℕ) → last_entry g c 0 (events ++ numbered n (events_of m ms)) ≡ last_entry g c 0 events =
    λ g c. last-append g c 0 events (numbered n (events_of m ms)) ∙ no_entry g c (last_entry g c 0 events) n m ms (z g) in
    record {
      in_order = λ g c d p q a b.
          let k = o.in_order g c d p q (h g c p a) (h g d q b) in let e = same g c in let f = same g d in
          (λ l. let w = k.0 l in omega (arith, w, e, f), λ l. k.1 (omega (arith, l, e, f)));
      entered = λ g c p w. let e = same g c in let k = o.entered g c p (h g c p w) in omega (arith, e, k);
      up_to = record {
        entries = λ g c. let e = same g c in let u = o.up_to.entries g c in omega (arith, e, u);
        places = λ g c p w. o.up_to.places g c p (h g c p w);
      };
    }

pub order_later : (m b c : ℕ) (s : Rows) (ms : List Move) → b ≤ c → OrderKept m b b s ms → OrderKept m b c s ms
order_later m b c s ms l f events n o =
    let w = f events n o in
    record {
      in_order = w.in_order;
      entered = w.entered;
      up_to = record { entries = w.up_to.entries; places = λ g d p h. let e = w.up_to.places g d p h in omega (arith, e, l) };
    }

-- events in two parts, numbered on
pub ordered_on : (c n : ℕ) (t : Rows) (events es fs : List Event)
    → Ordered c (n + length es + length fs) t ((events ++ numbered n es) ++ numbered (n + length es) fs)
    → Ordered c (n + length (es ++ fs)) t (events ++ numbered n (es ++ fs))
ordered_on c n t events es fs w =
    subst (λ (j : ℕ). Ordered c j t (events ++ numbered n (es ++ fs))) (let e = length-append es fs in omega (arith, e))
    (subst (Ordered c (n + length es + length fs) t)
    (append_assoc events (numbered n es) (numbered (n + length es) fs) ∙ ap (λ (v : List Event). events ++ v) (sym (numbered-append n es fs))) w)

pub order-append : (m a b c : ℕ) (s : Rows) (ms ns : List Move) → OrderKept m a b s ms → OrderKept m b c (moved s ms) ns → OrderKept m a c s (ms ++ ns)
order-append m a b c s ms ns f g events n o =
    let first : List Event = events_of m ms in
    let second : List Event = events_of m ns in
    subst (λ t. Ordered c (n + length (events_of m (ms ++ ns))) t (events ++ numbered n (events_of m (ms ++ ns)))) (sym (moved_append s ms ns))
    (subst (λ (es : List Event). Ordered c (n + length es) (moved (moved s ms) ns) (events ++ numbered n es)) (sym (events_of_append m ms ns))
    (ordered_on c n (moved (moved s ms) ns) events first second (g (events ++ numbered n first) (n + length first) (f events n o))))

-- the calls held after a change of connections

pub placed_within : (s t : Rows) (g c p : ℕ) → ((z : ConnectionRecord) → Among z t.connections → Among z s.connections) → HasPlace t g c p → HasPlace s g c p
placed_within s t g c p f h = record {
  connection = h.connection;
  there = f h.connection h.there;
  of_group = h.of_group;
  of_call = h.of_call;
  at_place = h.at_place;
}

-- one that is put is not held, or was held at its place under its call
pub placed_put : (s t : Rows) (l : List ConnectionRecord) (y : ConnectionRecord) (g c p : ℕ) → ((z : ConnectionRecord) → Among z l → Among z s.connections)
    → (waits_or_rings g y ≡ true → (x : ConnectionRecord) × (Among x s.connections) × (waits_or_rings g x ≡ true) × (x.call ≡ y.call) × (x.place ≡ y.place))
    → t.connections ≡ put_by (connection_order y) l y → HasPlace t g c p → HasPlace s g c p
placed_put s t l y g c p within was same h =
    elim (among_put (connection_order y) y l h.connection (subst (Among h.connection) same h.there)) [
      | inr a ↦ record { connection = h.connection; there = within h.connection a; of_group = h.of_group; of_call = h.of_call; at_place = h.at_place }
      | inl e ↦ (let w = was (subst (λ z. waits_or_rings g z ≡ true) e h.of_group) in
          record {
            connection = w.0;
            there = w.1;
            of_group = w.2;
            of_call = w.3 ∙ sym (ap (λ (z : ConnectionRecord). z.call) e) ∙ h.of_call;
            at_place = w.4 ∙ sym (ap (λ (z : ConnectionRecord). z.place) e) ∙ h.at_place;
          })
    ]

pub open_in_state : (g : ℕ) (z : ConnectionRecord) → waits_or_rings g z ≡ true → is_open z.state ≡ true
open_in_state g z h =
    (elim z.state as (λ st. waits_or_rings g (record z { state = st }) ≡ true → is_open st ≡ true) [
      | S.Initiated ↦ λ q. absurd (cc (q))
      | S.Connected ↦ λ q. absurd (cc (q))
      | S.Hold ↦ λ q. absurd (cc (q))
      | _ ↦ λ _. refl
    ]) h

-- an entry: the new place is the greatest, and the new event the last

abbrev pub NoneOpen : Rows → ℕ → Type 0
NoneOpen t call = (z : ConnectionRecord) → Among z t.connections → is_open z.state ≡ true → z.call ≡ call → ⊥

-- y of the call is put where none of it is open, and r reports it
pub record Enters (t : Rows) (y : ConnectionRecord) (r : Report) (call stamp : ℕ) : Type 0 where
  pub new : NoneOpen t call
  pub call_is : y.call ≡ call
  pub reported : (columns_of r).call ≡ Some call
  pub queue : (g : ℕ) → waits_or_rings g y ≡ true → (y.place ≡ Some stamp) × (is_entry g r ≡ true)

placed_after : (t : Rows) (y : ConnectionRecord) (r : Report) (call stamp : ℕ) → Enters t y r call stamp → (g c p : ℕ) → HasPlace (with_connection t y) g c p
    → ((c ≡ call) × (p ≡ stamp) × (is_entry g r ≡ true)) ⊎ (HasPlace t g c p × (c ≡ call → ⊥))
unfolding with_connection
placed_after t y r call stamp n g c p h =
    elim (among_put (connection_order y) y t.connections h.connection h.there) [
      | inl e ↦ (let k = n.queue g (subst (λ z. waits_or_rings g z ≡ true) e h.of_group) in
          inl (
            sym h.of_call ∙ ap (λ (z : ConnectionRecord). z.call) e
                ∙ n.call_is,
            some_is p stamp (sym h.at_place ∙ ap (λ (z : ConnectionRecord). z.place) e ∙ k.0),
            k.1,
          ))
      | inr a ↦ inr (
        record { connection = h.connection; there = a; of_group = h.of_group; of_call = h.of_call; at_place = h.at_place },
        λ q. n.new h.connection a (open_in_state g h.connection h.of_group) (h.of_call ∙ q),
      )
    ]

entry_one : (g c n m : ℕ) (events : List Event) (r : Report)
    → last_entry g c 0 (events ++ numbered n (event_at m r ∷ [])) ≡ cond (is_entry g r && has (columns_of r).call c) (n + 1) (last_entry g c 0 events)
entry_one g c n m events r = last-append g c 0 events (numbered n (event_at m r ∷ []))

pub comes : (m b k : ℕ) (t : Rows) (y : ConnectionRecord) (r : Report) (call : ℕ) → b < k → Enters t y r call k → (events : List Event) (n : ℕ)
    → Ordered b n t events
    → Ordered k (n + 1) (with_connection t y) (events ++ numbered n (event_at m r ∷ []))
comes m b k t y r call lt w events n o =
    let other : (g v : ℕ) → (v ≡ call → ⊥) → last_entry g v 0 (events ++ numbered n (event_at m r ∷ [])) ≡ last_entry g v 0 events =
    λ g v ne. entry_one g v n m events r ∙
    ap (λ x. cond x (n + 1) (last_entry g v 0 events))
    (and_right (is_entry g r) (has (columns_of r).call v) (rw w.reported (false_from_ne_true (call == v) (λ q. ne (sym (eqb-true call v q)))))) in
    let same : (g v : ℕ) → (v ≡ call) → is_entry g r ≡ true → last_entry g v 0 (events ++ numbered n (event_at m r ∷ [])) ≡ n + 1 =
    λ g v e f. entry_one g v n m events r ∙
    ap (λ x. cond x (n + 1) (last_entry g v 0 events)) (and_from (is_entry g r) (has (columns_of r).call v) f (rw w.reported (eq-eqb call v (sym e)))) in
    record {
      in_order = λ g c d p q a e.
          elim (placed_after t y r call k w g c p a) [
            | inl x ↦ elim (placed_after t y r call k w g d q e) [
              | inl z ↦ (let xp = x.1 in let zp = z.1 in let s1 = same g c x.0 x.2 in let s2 = same g d z.0 z.2 in
                  (λ l. absurd (omega (arith, l, xp, zp)), λ l. absurd (omega (arith, l, s1, s2))))
              | inr
                  z ↦ (let xp = x.1 in let zb = o.up_to.places g d q z.0 in let s1 = same g c x.0 x.2 in let u = o.up_to.entries g d in let v = other g d z.1 in
                  (λ l. absurd (omega (arith, l, xp, zb, lt)), λ l. absurd (omega (arith, l, s1, u, v))))
            ]
            | inr x ↦ elim (placed_after t y r call k w g d q e) [
              | inl
                  z ↦ (let zp = z.1 in let xb = o.up_to.places g c p x.0 in let u = o.up_to.entries g c in let v = other g c x.1 in let s1 = same g d z.0 z.2 in
                  (λ l. omega (arith, u, v, s1), λ l. omega (arith, zp, xb, lt)))
              | inr z ↦ (let old = o.in_order g c d p q x.0 z.0 in let v = other g c x.1 in let s1 = other g d z.1 in
                  (λ l. let u = old.0 l in omega (arith, u, v, s1), λ l. old.1 (omega (arith, l, v, s1))))
            ]
          ];
      entered = λ g c p h. elim (placed_after t y r call k w g c p h) [
        | inl x ↦ (let e = same g c x.0 x.2 in omega (arith, e))
        | inr x ↦ (let e = other g c x.1 in let u = o.entered g c p x.0 in omega (arith, e, u))
      ];
      up_to = record {
        entries = λ g c. let e = entry_one g c n m events r in let u = o.up_to.entries g c in
            let f : cond (is_entry g r && has (columns_of r).call c) (n + 1) (last_entry g c 0 events) ≤ n + 1 =
            upper (is_entry g r && has (columns_of r).call c) n (last_entry g c 0 events) u in
            omega (arith, e, f);
        places = λ g c p h. elim (placed_after t y r call k w g c p h) [
          | inl x ↦ (let e = x.1 in omega (arith, e))
          | inr x ↦ (let e = o.up_to.places g c p x.0 in omega (arith, e, lt))
        ];
      };
    }
  where
    upper : (b : Bool) (n x : ℕ) → x ≤ n → cond b (n + 1) x ≤ n + 1
    upper true n x l = omega arith
    upper false n x l = omega (arith, l)
