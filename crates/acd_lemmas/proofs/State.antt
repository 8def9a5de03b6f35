-- The answers of a state's look-ups after each change, and what the rules of rows say of a record that a look-up finds.
use Rattle.std.proofs.Common.{◌≡◌, ℕ, Bool, true, false, ◌&&◌, ◌||◌, cond, List, Option, Some, None, refl, sym, ◌∙◌, ap, subst, map, eq-eqb, ◌+◌, ◌<◌, ◌≤◌, not, arith}
use Rattle.std.specs.Prelude.{◌==◌, is_some, find, option_map}
use Rattle.std.specs.List.{list_any}
use Rattle.std.specs.Cmp.{IsTotalOrder, both_ways}
use Rattle.std.specs.Ordering.{nat_cmp, is_eq}
use Rattle.std.specs.declared.cmp.Ordering.TheVariants.{Equal}
use Rattle.std.proofs.lemmas.Bool.{and_parts, and_from, eqb-true, false_from_ne_true, cond-false, not-true}
use Rattle.std.proofs.lemmas.Cmp.{nat_cmp_total, on_total, then_total}
use Rattle.acd_lemmas.proofs.Words.{Rows, GroupRecord, StationRecord, AgentRecord, CallRecord, ConnectionRecord, MonitorRecord, Event, find_by, put_by, remove_by, count, Among, IsAscending, at_group, at_connection, group_of, station_of, agent_of, call_of, connection_of, monitor_of, is_group, is_station, has, agent_at, other_of, with_group, with_station, with_agent, with_call, with_connection, without_call, without_connection, group_order, station_order, agent_order, call_order, connection_order, monitor_order, parties_of}
use Rattle.acd_model.specs.Figures.{counting}
use Rattle.acd_lemmas.proofs.Lists.{eq_is, is_eq_of, one, find_passes, find_among, filter_among, count-removed, every_among, counted, none_from, some_is}
use Rattle.acd_lemmas.proofs.MappedLists.{find_by-map, of-option_map}
use Rattle.acd_lemmas.proofs.KeyedLists.{Keyed, by_number, cmp_equal, cmp_self, find_is, some_is_any, found_among, found_has, found_itself, found_put, some_put, found_left, eqb_swap, counted_new, counted_old, others_left}
use Rattle.acd_lemmas.proofs.RuleFacts.{Rules, CallRule, ConnectionRule, seated_at, two_if}
use Rattle.acd_lemmas.proofs.Numbers.{then_equal}

abbrev pub by_group : Keyed GroupRecord ℕ
by_group = by_number (λ (x : GroupRecord). x.device)

abbrev pub by_station : Keyed StationRecord ℕ
by_station = by_number (λ (x : StationRecord). x.device)

abbrev pub by_agent : Keyed AgentRecord ℕ
by_agent = by_number (λ (x : AgentRecord). x.agent)

abbrev pub by_call : Keyed CallRecord ℕ
by_call = by_number (λ (x : CallRecord). x.call)

abbrev pub by_monitor : Keyed MonitorRecord ℕ
by_monitor = by_number (λ (x : MonitorRecord). x.monitor)

-- a connection is named by its call and its device
abbrev pub is_of : ℕ → ℕ → ConnectionRecord → Bool
is_of call device x = x.call == call && x.device == device

pub is_of_true : (c d : ℕ) (x : ConnectionRecord) → is_of c d x ≡ true → (x.call ≡ c) × (x.device ≡ d)
is_of_true c d x e = let h = and_parts (x.call == c) (x.device == d) e in (eqb-true x.call c h.0, eqb-true x.device d h.1)

pub is_of_self : (c d : ℕ) (x : ConnectionRecord) → x.call ≡ c → x.device ≡ d → is_of c d x ≡ true
is_of_self c d x e f = and_from (x.call == c) (x.device == d) (eq-eqb x.call c e) (eq-eqb x.device d f)

pub order_equal : (x y : ConnectionRecord) → connection_order x y ≡ Equal → (x.call ≡ y.call) × (x.device ≡ y.device)
order_equal x y e = let h = then_equal (nat_cmp x.call y.call) (nat_cmp x.device y.device) e in (cmp_equal x.call y.call h.0, cmp_equal x.device y.device h.1)

pub order_same : (x y : ConnectionRecord) → x.call ≡ y.call → x.device ≡ y.device → connection_order x y ≡ Equal
order_same x y e f = rw (cmp_self x.call y.call e, cmp_self x.device y.device f) refl

pub connection_key : (c d : ℕ) (x : ConnectionRecord) → is_eq (at_connection c d x) ≡ is_of c d x
connection_key c d x = both_ways (is_eq (at_connection c d x)) (is_of c d x)
    (λ e. let h = then_equal (nat_cmp c x.call) (nat_cmp d x.device) (eq_is (at_connection c d x) e) in
    is_of_self c d x (sym (cmp_equal c x.call h.0)) (sym (cmp_equal d x.device h.1)))
    (λ e. let h = is_of_true c d x e in is_eq_of (at_connection c d x) (rw (cmp_self c x.call (sym h.0), cmp_self d x.device (sym h.1)) refl))

pub connections_total : IsTotalOrder connection_order
connections_total = then_total (on_total (λ (x : ConnectionRecord). x.call) nat_cmp_total) (on_total (λ (x : ConnectionRecord). x.device) nat_cmp_total)

abbrev pub by_connection : Keyed ConnectionRecord (ℕ × ℕ)
by_connection = record {
  order = connection_order;
  at = λ k. at_connection k.0 k.1;
  has = λ k. is_of k.0 k.1;
  key = λ x. (x.call, x.device);
  total = connections_total;
  test = λ k x. connection_key k.0 k.1 x;
  itself = λ x. is_of_self x.call x.device x refl refl;
  equal = λ k x y p q. let f = is_of_true k.0 k.1 x p in let g = is_of_true k.0 k.1 y q in order_same x y (f.0 ∙ sym g.0) (f.1 ∙ sym g.1);
  same = λ k x y e. let h = order_equal x y e in rw (h.0, h.1) refl;
}

pub groups_total : IsTotalOrder group_order
groups_total = by_group.total

pub stations_total : IsTotalOrder station_order
stations_total = by_station.total

pub agents_total : IsTotalOrder agent_order
agents_total = by_agent.total

pub calls_total : IsTotalOrder call_order
calls_total = by_call.total

pub monitors_total : IsTotalOrder monitor_order
monitors_total = by_monitor.total

-- groups and stations

pub is_group_any : (s : Rows) (d : ℕ) → is_group s d ≡ list_any (λ (g : GroupRecord). g.device == d) s.groups
unfolding group_of
is_group_any s d = some_is_any by_group s.groups d

pub is_station_any : (s : Rows) (d : ℕ) → is_station s d ≡ list_any (λ (t : StationRecord). t.device == d) s.stations
unfolding station_of
is_station_any s d = some_is_any by_station s.stations d

pub group_put : (s : Rows) (g : GroupRecord) (d : ℕ) → is_group (with_group s g) d ≡ (g.device == d || is_group s d)
unfolding with_group group_of
group_put s g d = some_put by_group s.groups g d

pub group_put_found : (s : Rows) (g : GroupRecord) (d : ℕ) → group_of (with_group s g) d ≡ cond (g.device == d) (Some g) (group_of s d)
unfolding with_group group_of
group_put_found s g d = found_put by_group s.groups g d

-- a planned group's record is put: the groups are planned that were
pub group_kept : (s : Rows) (g : GroupRecord) → is_group s g.device ≡ true → (d : ℕ) → is_group (with_group s g) d ≡ is_group s d
group_kept s g planned d = group_put s g d ∙ (elim (g.device == d) as (λ b. (g.device == d) ≡ b → (b || is_group s d) ≡ is_group s d) [
  | true ↦ λ e. sym (subst (λ v. is_group s v ≡ true) (eqb-true g.device d e) planned)
  | false ↦ λ e. refl
]) refl

pub group_found_put : (d : ℕ) (g : GroupRecord) (gs : List GroupRecord)
    → find_by (at_group d) (put_by (at_group g.device) gs g) ≡ cond (g.device == d) (Some g) (find_by (at_group d) gs)
group_found_put d g gs = found_put by_group gs g d

pub group_counted_found : (d : ℕ) (es : List Event) (gs : List GroupRecord)
    → find_by (at_group d) (map (counting es) gs) ≡ option_map (counting es) (find_by (at_group d) gs)
group_counted_found d es gs = find_by-map (counting es) (at_group d) (at_group d) (λ g. refl) gs

pub is_some_mapped : {T S : Type 0} (f : T → S) (o : Option T) → is_some (option_map f o) ≡ is_some o
is_some_mapped f o = of-option_map f is_some is_some refl (λ x. refl) o

pub station_put : (s : Rows) (t : StationRecord) (d : ℕ) → is_station (with_station s t) d ≡ (t.device == d || is_station s d)
unfolding with_station station_of
station_put s t d = some_put by_station s.stations t d

pub monitor_find : (s : Rows) (n : ℕ) → monitor_of s n ≡ find (λ (w : MonitorRecord). w.monitor == n) s.monitors
unfolding monitor_of
monitor_find s n = find_is by_monitor s.monitors n

-- agents

pub agent_find : (s : Rows) (n : ℕ) → agent_of s n ≡ find (λ (a : AgentRecord). a.agent == n) s.agents
unfolding agent_of
agent_find s n = find_is by_agent s.agents n

pub agent_put : (s : Rows) (a : AgentRecord) (n : ℕ) → agent_of (with_agent s a) n ≡ cond (a.agent == n) (Some a) (agent_of s n)
unfolding with_agent agent_of
agent_put s a n = found_put by_agent s.agents a n

pub agent_among : (s : Rows) (n : ℕ) (a : AgentRecord) → agent_of s n ≡ Some a → Among a s.agents
unfolding agent_of
agent_among s n a e = found_among by_agent s.agents n a e

pub agent_key : (s : Rows) (n : ℕ) (a : AgentRecord) → agent_of s n ≡ Some a → a.agent ≡ n
unfolding agent_of
agent_key s n a e = eqb-true a.agent n (found_has by_agent s.agents n a e)

-- an agent that is found by its number has that number
pub agent_itself : (s : Rows) (n : ℕ) (a : AgentRecord) → agent_of s n ≡ Some a → agent_of s a.agent ≡ Some a
agent_itself s n a e = subst (λ v. agent_of s v ≡ Some a) (sym (agent_key s n a e)) e

-- a group that a look-up finds is in the list, and has the number
pub group_among : (s : Rows) (n : ℕ) (g : GroupRecord) → group_of s n ≡ Some g → Among g s.groups
unfolding group_of
group_among s n g e = found_among by_group s.groups n g e

pub group_key : (s : Rows) (n : ℕ) (g : GroupRecord) → group_of s n ≡ Some g → g.device ≡ n
unfolding group_of
group_key s n g e = eqb-true g.device n (found_has by_group s.groups n g e)

-- a group of the list is found under its number
pub group_found : (s : Rows) → IsAscending group_order s.groups → (g : GroupRecord) → Among g s.groups → group_of s g.device ≡ Some g
unfolding group_of
group_found s h g i = found_itself by_group s.groups h g i

-- an agent of the list is found under its number
pub agent_found : (s : Rows) → IsAscending agent_order s.agents → (a : AgentRecord) → Among a s.agents → agent_of s a.agent ≡ Some a
unfolding agent_of
agent_found s h a i = found_itself by_agent s.agents h a i

-- calls

pub call_put : (s : Rows) (c : CallRecord) (n : ℕ) → call_of (with_call s c) n ≡ cond (c.call == n) (Some c) (call_of s n)
unfolding with_call call_of
call_put s c n = found_put by_call s.calls c n

pub call_remove : (s : Rows) (c n : ℕ) → IsAscending call_order s.calls → call_of (without_call s c) n ≡ cond (c == n) None (call_of s n)
unfolding without_call call_of
call_remove s c n h = found_left by_call s.calls h c n (c == n) (λ y q. ap (λ v. v == c) (eqb-true y.call n q) ∙ eqb_swap n c)

pub call_among : (s : Rows) (n : ℕ) (c : CallRecord) → call_of s n ≡ Some c → Among c s.calls
unfolding call_of
call_among s n c e = found_among by_call s.calls n c e

pub call_key : (s : Rows) (n : ℕ) (c : CallRecord) → call_of s n ≡ Some c → c.call ≡ n
unfolding call_of
call_key s n c e = eqb-true c.call n (found_has by_call s.calls n c e)

pub call_found : (s : Rows) → IsAscending call_order s.calls → (c : CallRecord) → Among c s.calls → call_of s c.call ≡ Some c
unfolding call_of
call_found s h c i = found_itself by_call s.calls h c i

-- connections

pub at_put : (s : Rows) (x : ConnectionRecord) (c d : ℕ) → connection_of (with_connection s x) c d ≡ cond (is_of c d x) (Some x) (connection_of s c d)
unfolding with_connection connection_of
at_put s x c d = found_put by_connection s.connections x (c, d)

pub left_at : (cs : List ConnectionRecord) → IsAscending connection_order cs → (a b c d : ℕ)
    → find_by (at_connection c d) (remove_by (at_connection a b) cs) ≡ cond (a == c && b == d) None (find_by (at_connection c d) cs)
left_at cs h a b c d =
    found_left by_connection cs h (a, b) (c, d) (a == c && b == d) (λ y q. let g = is_of_true c d y q in both_ways (is_of a b y) (a == c && b == d)
    (λ e. let f = is_of_true a b y e in and_from _ _ (eq-eqb a c (sym f.0 ∙ g.0)) (eq-eqb b d (sym f.1 ∙ g.1)))
    (λ e. let f = and_parts (a == c) (b == d) e in is_of_self a b y (g.0 ∙ sym (eqb-true a c f.0)) (g.1 ∙ sym (eqb-true b d f.1))))

pub at_remove : (s : Rows) (a b c d : ℕ) → IsAscending connection_order s.connections
    → connection_of (without_connection s a b) c d ≡ cond (a == c && b == d) None (connection_of s c d)
unfolding without_connection connection_of
at_remove s a b c d h = left_at s.connections h a b c d

-- the key under which a connection is found is that connection's
pub found_key : (s : Rows) (c d : ℕ) (x : ConnectionRecord) → connection_of s c d ≡ Some x → (x.call ≡ c) × (x.device ≡ d)
unfolding connection_of
found_key s c d x e = is_of_true c d x (found_has by_connection s.connections (c, d) x e)

pub connection_itself : (s : Rows) (c d : ℕ) (x : ConnectionRecord) → connection_of s c d ≡ Some x → connection_of s x.call x.device ≡ Some x
connection_itself s c d x e = let k = found_key s c d x e in
    subst (λ v. connection_of s v x.device ≡ Some x) (sym k.0) (subst (λ v. connection_of s c v ≡ Some x) (sym k.1) e)

pub connection_among : (s : Rows) (c d : ℕ) (x : ConnectionRecord) → connection_of s c d ≡ Some x → Among x s.connections
unfolding connection_of
connection_among s c d x e = found_among by_connection s.connections (c, d) x e

-- a connection of the list is found under its key
pub connection_found : (s : Rows) → IsAscending connection_order s.connections → (x : ConnectionRecord) → Among x s.connections
    → connection_of s x.call x.device ≡ Some x
unfolding connection_of
connection_found s h x i = found_itself by_connection s.connections h x i

pub put_other : (s : Rows) (x : ConnectionRecord) (c d : ℕ) → ((x.call ≡ c) → (x.device ≡ d) → ⊥)
    → connection_of (with_connection s x) c d ≡ connection_of s c d
put_other s x c d h =
    at_put s x c d ∙ cond-false (is_of c d x) (Some x) (connection_of s c d) (false_from_ne_true (is_of c d x) (λ e. let k = is_of_true c d x e in h k.0 k.1))

pub removed_other : (s : Rows) (a b c d : ℕ) → IsAscending connection_order s.connections → ((a ≡ c) → (b ≡ d) → ⊥)
    → connection_of (without_connection s a b) c d ≡ connection_of s c d
removed_other s a b c d o h = at_remove s a b c d o ∙ cond-false (a == c && b == d) None (connection_of s c d)
    (false_from_ne_true (a == c && b == d) (λ e. let k = and_parts (a == c) (b == d) e in h (eqb-true a c k.0) (eqb-true b d k.1)))

-- nothing that wasn't there is there after a removal
pub still_none : (s : Rows) (a b c d : ℕ) → IsAscending connection_order s.connections → connection_of s c d ≡ None
    → connection_of (without_connection s a b) c d ≡ None
still_none s a b c d o e =
    at_remove s a b c d o ∙ rw e (elim (a == c && b == d) as (λ v. cond {A = Option ConnectionRecord} v None None ≡ None) [ true ↦ refl | false ↦ refl ])

-- what the rules of rows say of a record that is found

-- a connection of the list is found under its key
pub connection_there : (s : Rows) → Rules s → (x : ConnectionRecord) → Among x s.connections → connection_of s x.call x.device ≡ Some x
connection_there s r x a = connection_found s r.orders.connections x a

pub connection_rule : (s : Rows) → Rules s → (c d : ℕ) (x : ConnectionRecord) → connection_of s c d ≡ Some x → ConnectionRule s x
connection_rule s r c d x e = every_among (ConnectionRule s) s.connections x r.connections (connection_among s c d x e)

-- the call of a number above the last isn't there, nor any connection of it
pub call_known : (s : Rows) → Rules s → (n : ℕ) (c : CallRecord) → call_of s n ≡ Some c → (n ≤ s.last_call) × (c.call ≡ n)
call_known s r n c e =
    let k : c.call ≡ n = call_key s n c e in
    let h = every_among (CallRule s) s.calls c r.calls (call_among s n c e) in
    let l : c.call ≤ s.last_call = h.0 in (omega (arith, k, l), k)

pub no_call_above : (s : Rows) → Rules s → (n : ℕ) → s.last_call < n → call_of s n ≡ None
no_call_above s r n lt = none_from (call_of s n) (λ c e. let k = call_known s r n c e in omega (arith, k.0))

pub none_of_call : (s : Rows) → Rules s → (n : ℕ) → call_of s n ≡ None → count (parties_of n) s.connections ≡ 0
none_of_call s r n e = let p = r.parties n in let z : two_if (is_some (call_of s n)) ≡ 0 = rw e refl in omega (arith, p, z)

pub none_above : (s : Rows) → Rules s → (n d : ℕ) → s.last_call < n → connection_of s n d ≡ None
none_above s r n d lt = none_from (connection_of s n d) (λ x e.
    let z = none_of_call s r n (no_call_above s r n lt) in
    let c = counted (parties_of n) s.connections x (connection_among s n d x e) (eq-eqb x.call n (found_key s n d x e).0) in omega (arith, z, c))

-- the agent that is logged on at a station
pub agent_at_find : (s : Rows) (d : ℕ) → agent_at s d ≡ find (seated_at d) s.agents
unfolding agent_at
agent_at_find s d = refl

pub has_is : (o : Option ℕ) (n : ℕ) → has o n ≡ true → o ≡ Some n
has_is None n e = absurd (cc (e))
has_is (Some m) n e = ap Some (eqb-true m n e)

pub agent_seat : (s : Rows) (d : ℕ) (a : AgentRecord) → agent_at s d ≡ Some a → Among a s.agents × (a.station ≡ Some d)
agent_seat s d a e =
    let f : find (seated_at d) s.agents ≡ Some a = sym (agent_at_find s d) ∙ e in
    (find_among (seated_at d) s.agents a f, has_is a.station d (find_passes (seated_at d) s.agents a f))

-- it is found by its number
pub agent_there : (s : Rows) → IsAscending agent_order s.agents → (d : ℕ) (a : AgentRecord) → agent_at s d ≡ Some a → agent_of s a.agent ≡ Some a
agent_there s h d a e = agent_found s h a (agent_seat s d a e).0

-- agents at two stations are two
pub other_agents : (s : Rows) → IsAscending agent_order s.agents → (d e : ℕ) (a b : AgentRecord) → agent_at s d ≡ Some a → agent_at s e ≡ Some b → (d ≡ e → ⊥)
    → (a.agent == b.agent) ≡ false
other_agents s h d e a b p q ne =
    false_from_ne_true (a.agent == b.agent) (λ w.
    let same : agent_of s a.agent ≡ agent_of s b.agent = ap (agent_of s) (eqb-true a.agent b.agent w) in
    let ab : a ≡ b = some_is a b (sym (agent_there s h d a p) ∙ same ∙ agent_there s h e b q) in
    let f : a.station ≡ Some d = (agent_seat s d a p).1 in
    let g : b.station ≡ Some e = (agent_seat s e b q).1 in
    ne (some_is d e (sym f ∙ ap (λ (z : AgentRecord). z.station) ab ∙ g)))

-- the other party of a call
pub other_find : (s : Rows) (x : ConnectionRecord)
    → other_of s x ≡ find (λ (y : ConnectionRecord). y.call == x.call && not (y.device == x.device)) s.connections
unfolding other_of
other_find s x = refl

pub other_among : (s : Rows) (x y : ConnectionRecord) → other_of s x ≡ Some y → Among y s.connections
other_among s x y e = find_among (λ (z : ConnectionRecord). z.call == x.call && not (z.device == x.device)) s.connections y (sym (other_find s x) ∙ e)

pub other_device : (s : Rows) (x y : ConnectionRecord) → other_of s x ≡ Some y → (y.call ≡ x.call) × (x.device ≡ y.device → ⊥)
other_device s x y e =
    let h =
    and_parts (y.call == x.call) (not (y.device == x.device))
    (find_passes (λ (z : ConnectionRecord). z.call == x.call && not (z.device == x.device)) s.connections y (sym (other_find s x) ∙ e)) in
    (eqb-true y.call x.call h.0, λ q. cc (not-true (y.device == x.device) h.1, eq-eqb y.device x.device (sym q)))

-- any count of connections after one change

pub count_new : (p : ConnectionRecord → Bool) (s : Rows) (x : ConnectionRecord) → connection_of s x.call x.device ≡ None
    → count p (put_by (connection_order x) s.connections x) ≡ one (p x) + count p s.connections
unfolding connection_of
count_new p s x e = counted_new by_connection s.connections p x e

pub count_old : (p : ConnectionRecord → Bool) (s : Rows) (x z : ConnectionRecord) → IsAscending connection_order s.connections
    → connection_of s x.call x.device ≡ Some z
    → count p (put_by (connection_order x) s.connections x) + one (p z) ≡ one (p x) + count p s.connections
unfolding connection_of
count_old p s x z h e = counted_old by_connection s.connections p x z h e

pub count_less : (p : ConnectionRecord → Bool) (s : Rows) (c d : ℕ) (z : ConnectionRecord) → connection_of s c d ≡ Some z
    → count p (remove_by (at_connection c d) s.connections) + one (p z) ≡ count p s.connections
unfolding connection_of
count_less p s c d z e = count-removed (at_connection c d) p s.connections z e

-- any count of agents after one agent's record is put
pub count_agent : (p : AgentRecord → Bool) (s : Rows) (a z : AgentRecord) → IsAscending agent_order s.agents → agent_of s a.agent ≡ Some z
    → count p (put_by (agent_order a) s.agents a) + one (p z) ≡ one (p a) + count p s.agents
unfolding agent_of
count_agent p s a z h e = counted_old by_agent s.agents p a z h e

-- the rest after a removal
pub left_among : (s : Rows) (a b : ℕ) → IsAscending connection_order s.connections → (z : ConnectionRecord)
    → Among z (remove_by (at_connection a b) s.connections) → Among z s.connections × (not (is_of a b z) ≡ true)
left_among s a b h z i = filter_among (λ x. not (is_of a b x)) s.connections z (subst (Among z) (others_left by_connection s.connections h (a, b)) i)
