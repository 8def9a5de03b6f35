-- An offer, as a relation.
use Rattle.std.specs.Prelude.{◌≡◌, ◌⊎◌, ◌↔◌, ℕ, true, false, List, [], map, Option, Some, None}
use Rattle.std.specs.Ordering.{nat_cmp}
use Rattle.acd_terms.specs.Lists.{Among, IsAscending}
use Rattle.acd_terms.specs.Numbers.{Device, Stamp}
use Rattle.acd_terms.specs.declared.rows.Rows.{Rows}
use Rattle.acd_terms.specs.declared.record.GroupRecord.{GroupRecord}
use Rattle.acd_model.specs.Scans.{waiting_in, eligible_in}
use Rattle.acd_model.specs.Choice.{pair_lt, waiting_pair, ready_pair, first_waiting, first_eligible, precedes, offer_of}
use Rattle.acd_model.specs.declared.moves.Offer.{Offer}

-- the pair is in the list, and none there is less
pub record IsLeast (p : ℕ × ℕ) (ps : List (ℕ × ℕ)) : Type 0 where
  pub there : Among p ps
  pub least : (q : ℕ × ℕ) → Among q ps → pair_lt q p ≡ false

-- the one that is found is the least, and none is found where there is none
pub record FindsLeast (found : Option (ℕ × ℕ)) (ps : List (ℕ × ℕ)) : Type 0 where
  pub least : (p : ℕ × ℕ) → (found ≡ Some p) ↔ IsLeast p ps
  pub none : (found ≡ None) ↔ (ps ≡ [])

-- the call that waits first in a group has the least place there
abbrev pub FindsFirstWaiting : Type 0
FindsFirstWaiting = (s : Rows) (group : Device) → FindsLeast (first_waiting s group) (map waiting_pair (waiting_in s group))

-- the agent that is ready longest has the least stamp, and among equal stamps the least number
abbrev pub FindsFirstEligible : Type 0
FindsFirstEligible = (s : Rows) (group : Device) → FindsLeast (first_eligible s group) (map ready_pair (eligible_in s group))

-- the group has no waiting call, or no eligible agent
abbrev pub HasNoOffer : Rows → Device → Type 0
HasNoOffer s group = (waiting_in s group ≡ []) ⊎ (eligible_in s group ≡ [])

-- the call that waits first in the group is offered to the agent that is ready longest there, and no group that precedes it has both
pub record IsOffer (s : Rows) (o : Offer) : Type 0 where
  pub group : GroupRecord
  pub planned : Among group s.groups
  pub named : group.device ≡ o.group
  pub place : Stamp
  pub call : IsLeast (place, o.call) (map waiting_pair (waiting_in s o.group))
  pub stamp : Stamp
  pub agent : IsLeast (stamp, o.agent) (map ready_pair (eligible_in s o.group))
  pub first : (g : GroupRecord) → Among g s.groups → precedes g group ≡ true → HasNoOffer s g.device

abbrev pub GroupsAscend : Rows → Type 0
GroupsAscend s = IsAscending (λ (g h : GroupRecord). nat_cmp g.device h.device) s.groups

-- the function finds an offer exactly where there is one
abbrev pub FindsTheOffer : Type 0
FindsTheOffer = (s : Rows) (o : Offer) → GroupsAscend s → (offer_of s ≡ Some o) ↔ IsOffer s o
