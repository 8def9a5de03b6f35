-- The sets of what is, through a change.
use Rattle.std.proofs.Common.{◌≡◌, ℕ, Bool, true, false, cond, ◌&&◌, ◌||◌, not, Option, Some, None, is_some, refl, ap, sym, ◌∙◌}
use Rattle.std.specs.Prelude.{◌==◌}
use Rattle.std.specs.declared.cmp.Ordering.{Ordering}
use Rattle.std.specs.Ordering.{is_eq, nat_cmp}
use Rattle.std.specs.BTreeSet.{BTreeSet, contains}
use Rattle.std.proofs.lemmas.Bool.{and_parts, eqb-true, eq-eqb, false_from_ne_true}
use Rattle.acd_terms.specs.declared.rows.Rows.{Rows}
use Rattle.acd_terms.specs.declared.record.AgentRecord.{AgentRecord}
use Rattle.acd_terms.specs.declared.record.ConnectionRecord.{ConnectionRecord}
use Rattle.acd_model.specs.Scans.{agent_of, connection_of, has}
use Rattle.acd_model.specs.Writes.{with_agent}
use Rattle.acd_lemmas.proofs.State.{agent_put, has_is}
use Rattle.acd_tables.specs.Sets.{HasExactly, Inserted, Removed}
use Rattle.acd_tables.specs.IndexedRows.{pair_cmp, rings, works, agent_station, Ringing, Working, Lines, Seats, SeatMap, agent_seated}
use Rattle.acd_tables.specs.Swaps.{IsFreeFor, Sits, GetsUp, quits}
use Rattle.acd_tables.proofs.SwapLemmas.{Replaces, pair_key}
use Rattle.acd_lemmas.proofs.KeyedLists.{eq_key}

-- x is whether a key was there, which at the key that changes is `was`
put_table : (was is e x : Bool) → (e ≡ true → x ≡ was) → (not ((was && not is) && e) && ((is && e) || x)) ≡ cond e is x
put_table true true true x h = refl
put_table true false true x h = refl
put_table false true true x h = refl
put_table false false true x h = h refl
put_table true true false x h = refl
put_table true false false x h = refl
put_table false true false x h = refl
put_table false false false x h = refl

back_table : (was is e x : Bool) → (e ≡ true → x ≡ was) → (not ((is && not was) && e) && ((is && e) || x)) ≡ x
back_table true true true x h = sym (h refl)
back_table true false true x h = refl
back_table false true true x h = sym (h refl)
back_table false false true x h = refl
back_table true true false x h = refl
back_table true false false x h = refl
back_table false true false x h = refl
back_table false false false x h = refl

come_table : (was e x : Bool) → (e ≡ true → x ≡ was) → ((not was && e) || x) ≡ cond e true x
come_table true true x h = h refl
come_table false true x h = refl
come_table true false x h = refl
come_table false false x h = refl

gone_table : (was e x : Bool) → (e ≡ true → x ≡ was) → (not (not was && e) && ((not was && e) || x)) ≡ x
gone_table true true x h = refl
gone_table false true x h = sym (h refl)
gone_table true false x h = refl
gone_table false false x h = refl

left_table : (e x : Bool) → (not (true && e) && x) ≡ cond e false x
left_table true x = refl
left_table false x = refl

module _ {K : Type 0} (cmp : K → K → Ordering) (p : K → Bool) (old new : BTreeSet K) (key : K) where
  pub HasExactly-same : HasExactly cmp p old → ((k : K) → contains cmp new k ≡ contains cmp old k) → HasExactly cmp p new
  HasExactly-same h w k = w k ∙ h k

  -- a key that was indexed before the change, if it belongs there now, and is removed where it has ended
  pub HasExactly-put : (q : K → Bool) (mid : BTreeSet K) (was is gone : Bool) → gone ≡ (was && not is) → ((k : K) → is_eq (cmp key k) ≡ true → p k ≡ was)
      → ((k : K) → q k ≡ cond (is_eq (cmp key k)) is (p k)) → HasExactly cmp p old
      → Inserted cmp old mid key is → Removed cmp mid new key gone → HasExactly cmp q new
  HasExactly-put q mid was is gone g at changed h w f k =
      f k ∙ ap (λ b. not (b && is_eq (cmp key k)) && contains cmp mid k) g
      ∙ ap (λ b. not ((was && not is) && is_eq (cmp key k)) && b) (w k ∙ ap (λ b. (is && is_eq (cmp key k)) || b) (h k))
      ∙ put_table was is (is_eq (cmp key k)) (p k) (at k) ∙ sym (changed k)

  -- a key that was indexed for a change that wasn't made
  pub HasExactly-back : (mid : BTreeSet K) (was is gone : Bool) → gone ≡ (is && not was) → ((k : K) → is_eq (cmp key k) ≡ true → p k ≡ was)
      → HasExactly cmp p old → Inserted cmp old mid key is → Removed cmp mid new key gone → HasExactly cmp p new
  HasExactly-back mid was is gone g at h w f k =
      f k ∙ ap (λ b. not (b && is_eq (cmp key k)) && contains cmp mid k) g
      ∙ ap (λ b. not ((is && not was) && is_eq (cmp key k)) && b) (w k ∙ ap (λ b. (is && is_eq (cmp key k)) || b) (h k))
      ∙ back_table was is (is_eq (cmp key k)) (p k) (at k)

  -- a key that came, if it is new
  pub HasExactly-come : (q : K → Bool) (was belongs : Bool) → belongs ≡ not was → ((k : K) → is_eq (cmp key k) ≡ true → p k ≡ was)
      → ((k : K) → q k ≡ cond (is_eq (cmp key k)) true (p k)) → HasExactly cmp p old → Inserted cmp old new key belongs → HasExactly cmp q new
  HasExactly-come q was belongs b at changed h w k =
      w k ∙ ap (λ v. (v && is_eq (cmp key k)) || contains cmp old k) b ∙ ap (λ v. (not was && is_eq (cmp key k)) || v) (h k)
      ∙ come_table was (is_eq (cmp key k)) (p k) (at k) ∙ sym (changed k)

  -- and was removed again
  pub HasExactly-gone : (mid : BTreeSet K) (was belongs : Bool) → belongs ≡ not was → ((k : K) → is_eq (cmp key k) ≡ true → p k ≡ was) → HasExactly cmp p old
      → Inserted cmp old mid key belongs → Removed cmp mid new key belongs → HasExactly cmp p new
  HasExactly-gone mid was belongs b at h w f k =
      f k ∙ ap (λ v. not (belongs && is_eq (cmp key k)) && v) (w k ∙ ap (λ v. (belongs && is_eq (cmp key k)) || v) (h k))
      ∙ ap (λ v. not (v && is_eq (cmp key k)) && ((v && is_eq (cmp key k)) || p k)) b
      ∙ gone_table was (is_eq (cmp key k)) (p k) (at k)

  -- a key that was removed
  pub HasExactly-left : (q : K → Bool) → ((k : K) → q k ≡ cond (is_eq (cmp key k)) false (p k)) → HasExactly cmp p old → Removed cmp old new key true
      → HasExactly cmp q new
  HasExactly-left q changed h f k = f k ∙ ap (λ v. not (true && is_eq (cmp key k)) && v) (h k) ∙ left_table (is_eq (cmp key k)) (p k) ∙ sym (changed k)

-- a test of one of two
tested : {X : Type 0} (f : X → Bool) (b : Bool) (x y : X) → f (cond b x y) ≡ cond b (f x) (f y)
tested f true x y = refl
tested f false x y = refl

-- a look-up finds at a key what it finds at an equal one
module _ (s : Rows) (call device : ℕ) where
  pub found_at : (f : Option ConnectionRecord → Bool) (p : ℕ × ℕ) → is_eq (pair_cmp (call, device) p) ≡ true
      → f (connection_of s p.0 p.1) ≡ f (connection_of s call device)
  found_at f p e =
      let parts = and_parts (call == p.0) (device == p.1) (sym (pair_key call device p) ∙ e) in
      sym (ap (λ c. f (connection_of s c device)) (eqb-true call p.0 parts.0) ∙ ap (λ d. f (connection_of s p.0 d)) (eqb-true device p.1 parts.1))

  pub listed_at : (f : Option ConnectionRecord → Bool) (p : ℕ × ℕ) → is_eq (pair_cmp (device, call) p) ≡ true
      → f (connection_of s p.1 p.0) ≡ f (connection_of s call device)
  listed_at f p e =
      let parts = and_parts (device == p.0) (call == p.1) (sym (pair_key device call p) ∙ e) in
      sym (ap (λ d. f (connection_of s call d)) (eqb-true device p.0 parts.0) ∙ ap (λ c. f (connection_of s c p.0)) (eqb-true call p.1 parts.1))

turned : (a b : Bool) → (a && b) ≡ (b && a)
turned true true = refl
turned true false = refl
turned false true = refl
turned false false = refl

module _ (s t : Rows) (call device : ℕ) (new : Option ConnectionRecord) (r : Replaces s t call device new) where
  rings_now : (p : ℕ × ℕ) → rings (connection_of t p.0 p.1) ≡ cond (is_eq (pair_cmp (call, device) p)) (rings new) (rings (connection_of s p.0 p.1))
  rings_now p =
      ap rings (r.found p.0 p.1) ∙ tested rings (call == p.0 && device == p.1) new (connection_of s p.0 p.1)
      ∙ ap (λ b. cond b (rings new) (rings (connection_of s p.0 p.1))) (sym (pair_key call device p))

  there_now : (p : ℕ × ℕ) → is_some (connection_of t p.1 p.0) ≡ cond (is_eq (pair_cmp (device, call) p)) (is_some new) (is_some (connection_of s p.1 p.0))
  there_now p =
      ap is_some (r.found p.1 p.0) ∙ tested is_some (call == p.1 && device == p.0) new (connection_of s p.1 p.0)
      ∙ ap (λ b. cond b (is_some new) (is_some (connection_of s p.1 p.0))) (turned (call == p.1) (device == p.0) ∙ sym (pair_key device call p))

  pub Ringing-put : (old mid ringing : BTreeSet (ℕ × ℕ)) (is gone : Bool) → is ≡ rings new → gone ≡ (rings (connection_of s call device) && not is)
      → Ringing s old → Inserted pair_cmp old mid (call, device) is → Removed pair_cmp mid ringing (call, device) gone
      → Ringing t ringing
  Ringing-put old mid ringing is gone i g h w f =
      HasExactly-put pair_cmp (λ p. rings (connection_of s p.0 p.1)) old ringing (call, device) (λ p. rings (connection_of t p.0 p.1)) mid
      (rings (connection_of s call device)) is gone g (found_at s call device rings)
      (λ p. rings_now p ∙ ap (λ v. cond (is_eq (pair_cmp (call, device) p)) v (rings (connection_of s p.0 p.1))) (sym i)) h w f

  pub Lines-put : (old lines : BTreeSet (ℕ × ℕ)) (belongs : Bool) → is_some new ≡ true → belongs ≡ not (is_some (connection_of s call device)) → Lines s old
      → Inserted pair_cmp old lines (device, call) belongs → Lines t lines
  Lines-put old lines belongs n b h w =
      HasExactly-come pair_cmp (λ p. is_some (connection_of s p.1 p.0)) old lines (device, call) (λ p. is_some (connection_of t p.1 p.0))
      (is_some (connection_of s call device)) belongs b (listed_at s call device is_some)
      (λ p. there_now p ∙ ap (λ v. cond (is_eq (pair_cmp (device, call) p)) v (is_some (connection_of s p.1 p.0))) n) h w

  pub Lines-removed : (old lines : BTreeSet (ℕ × ℕ)) → is_some new ≡ false → Lines s old → Removed pair_cmp old lines (device, call) true → Lines t lines
  Lines-removed old lines n h f =
      HasExactly-left pair_cmp (λ p. is_some (connection_of s p.1 p.0)) old lines (device, call) (λ p. is_some (connection_of t p.1 p.0))
      (λ p. there_now p ∙ ap (λ v. cond (is_eq (pair_cmp (device, call) p)) v (is_some (connection_of s p.1 p.0))) n) h f

-- what was indexed for a connection that wasn't put
module _ (s : Rows) (call device : ℕ) where
  pub Ringing-back : (old mid ringing : BTreeSet (ℕ × ℕ)) (is gone : Bool) → gone ≡ (is && not (rings (connection_of s call device))) → Ringing s old
      → Inserted pair_cmp old mid (call, device) is → Removed pair_cmp mid ringing (call, device) gone → Ringing s ringing
  Ringing-back old mid ringing is gone g h w f =
      HasExactly-back pair_cmp (λ p. rings (connection_of s p.0 p.1)) old ringing (call, device) mid (rings (connection_of s call device)) is gone g
      (found_at s call device rings) h w f

  pub Lines-gone : (old mid lines : BTreeSet (ℕ × ℕ)) (belongs : Bool) → belongs ≡ not (is_some (connection_of s call device)) → Lines s old
      → Inserted pair_cmp old mid (device, call) belongs → Removed pair_cmp mid lines (device, call) belongs → Lines s lines
  Lines-gone old mid lines belongs b h w f =
      HasExactly-gone pair_cmp (λ p. is_some (connection_of s p.1 p.0)) old lines (device, call) mid (is_some (connection_of s call device)) belongs b
      (listed_at s call device is_some) h w f

module _ (s : Rows) (item : AgentRecord) where
  works_now : (n : ℕ) → works (agent_of (with_agent s item) n) ≡ cond (is_eq (nat_cmp item.agent n)) (works (Some item)) (works (agent_of s n))
  works_now n =
      ap works (agent_put s item n) ∙ tested works (item.agent == n) (Some item) (agent_of s n)
      ∙ ap (λ b. cond b (works (Some item)) (works (agent_of s n))) (sym (eq_key item.agent n))

  works_at : (n : ℕ) → is_eq (nat_cmp item.agent n) ≡ true → works (agent_of s n) ≡ works (agent_of s item.agent)
  works_at n e = ap (λ k. works (agent_of s k)) (sym (eqb-true item.agent n (sym (eq_key item.agent n) ∙ e)))

  pub Working-put : (old mid working : BTreeSet ℕ) (is gone : Bool) → is ≡ works (Some item) → gone ≡ (works (agent_of s item.agent) && not is) → Working s old
      → Inserted nat_cmp old mid item.agent is → Removed nat_cmp mid working item.agent gone
      → Working (with_agent s item) working
  Working-put old mid working is gone i g h w f =
      HasExactly-put nat_cmp (λ n. works (agent_of s n)) old working item.agent (λ n. works (agent_of (with_agent s item) n)) mid
      (works (agent_of s item.agent)) is gone g works_at
      (λ n. works_now n ∙ ap (λ v. cond (is_eq (nat_cmp item.agent n)) v (works (agent_of s n))) (sym i)) h w f

  pub Working-back : (old mid working : BTreeSet ℕ) (is gone : Bool) → gone ≡ (is && not (works (agent_of s item.agent))) → Working s old
      → Inserted nat_cmp old mid item.agent is → Removed nat_cmp mid working item.agent gone → Working s working
  Working-back old mid working is gone g h w f =
      HasExactly-back nat_cmp (λ n. works (agent_of s n)) old working item.agent mid (works (agent_of s item.agent)) is gone g works_at h w f

pub Working-kept : (s t : Rows) (working : BTreeSet ℕ) → ((n : ℕ) → agent_of t n ≡ agent_of s n) → Working s working → Working t working
Working-kept s t working f h n = h n ∙ sym (ap works (f n))

-- who is at a station: o is there before, t and f say whether it is the agent's new station and its old one, e whether n is the agent
module _ (agent n : ℕ) (o : Option ℕ) (x : Bool) (is : has o n ≡ x) where
  same_number : (f : Bool) → (f ≡ true → o ≡ Some agent) → f ≡ true → has (Some agent) n ≡ x
  same_number f h e = ap (λ v. has v n) (sym (h e)) ∙ is

  put_seat : (t f e : Bool) → (agent == n) ≡ e → (e ≡ true → x ≡ f) → (t ≡ true → has o n ≡ true → agent ≡ n) → (f ≡ true → o ≡ Some agent)
      → has (cond (f && not t) None (cond t (Some agent) o)) n ≡ cond e t x
  put_seat true true true i of_agent free stands = i
  put_seat true false true i of_agent free stands = i
  put_seat true true false i of_agent free stands = same_number true stands refl
  put_seat true false false i of_agent free stands = i ∙ sym (false_from_ne_true x (λ h. let yes = eq-eqb agent n (free refl (is ∙ h)) in cc (yes, i)))
  put_seat false true true i of_agent free stands = refl
  put_seat false true false i of_agent free stands = sym (sym (same_number true stands refl) ∙ i)
  put_seat false false true i of_agent free stands = is ∙ of_agent refl
  put_seat false false false i of_agent free stands = is

  back_seat : (t f e : Bool) → (agent == n) ≡ e → (e ≡ true → x ≡ f) → (t ≡ true → has o n ≡ true → agent ≡ n) → (f ≡ true → o ≡ Some agent)
      → has (cond (t && not f) None (cond t (Some agent) o)) n ≡ x
  back_seat true true e i of_agent free stands = same_number true stands refl
  back_seat true false true i of_agent free stands = sym (of_agent refl)
  back_seat true false false i of_agent free stands = sym (false_from_ne_true x (λ h. let yes = eq-eqb agent n (free refl (is ∙ h)) in cc (yes, i)))
  back_seat false true e i of_agent free stands = is
  back_seat false false e i of_agent free stands = is

module _ (s : Rows) (item : AgentRecord) (old : SeatMap) (h : Seats s old) where
  -- the agent is at the station that it has
  pub stands : (from : Option ℕ) → from ≡ agent_station (agent_of s item.agent) → (d : ℕ) → has from d ≡ true → agent_seated old d ≡ Some item.agent
  stands from of_agent d e = has_is (agent_seated old d) item.agent (h item.agent d ∙ ap (λ o. has o d) (sym of_agent) ∙ e)

  module _ (mid new : SeatMap) (from : Option ℕ) (of_agent : from ≡ agent_station (agent_of s item.agent)) (free : IsFreeFor old item)
      (sits : Sits old mid item.station item.agent) where
    station_at : (n d : ℕ) → (item.agent == n) ≡ true → has (agent_station (agent_of s n)) d ≡ has from d
    station_at n d e = ap (λ k. has (agent_station (agent_of s k)) d) (sym (eqb-true item.agent n e)) ∙ ap (λ o. has o d) (sym of_agent)

    pub Seats-put : GetsUp mid new from item.station → Seats (with_agent s item) new
    Seats-put rises n d =
        ap (λ o. has o n) (rises d ∙ ap (λ o. cond (quits from item.station d) None o) (sits d))
        ∙ put_seat item.agent n (agent_seated old d) (has (agent_station (agent_of s n)) d) (h n d) (has item.station d) (has from d) (item.agent == n) refl
        (station_at n d) (free d n) (stands from of_agent d)
        ∙ sym (ap (λ o. has (agent_station o) d) (agent_put s item n) ∙ tested (λ o. has (agent_station o) d) (item.agent == n) (Some item) (agent_of s n))

    pub Seats-back : GetsUp mid new item.station from → Seats s new
    Seats-back rises n d =
        ap (λ o. has o n) (rises d ∙ ap (λ o. cond (quits item.station from d) None o) (sits d))
        ∙ back_seat item.agent n (agent_seated old d) (has (agent_station (agent_of s n)) d) (h n d) (has item.station d) (has from d) (item.agent == n) refl
        (station_at n d) (free d n) (stands from of_agent d)

pub Seats-same : (s : Rows) (old new : SeatMap) → ((d : ℕ) → agent_seated new d ≡ agent_seated old d) → Seats s old → Seats s new
Seats-same s old new w h n d = ap (λ o. has o n) (w d) ∙ h n d

pub Seats-kept : (s t : Rows) (seats : SeatMap) → ((n : ℕ) → agent_of t n ≡ agent_of s n) → Seats s seats → Seats t seats
Seats-kept s t seats f h n d = h n d ∙ ap (λ o. has (agent_station o) d) (sym (f n))
