-- The answer to an arrival of a list, and what a desk does with one more.
use Rattle.std.specs.Prelude.{◌≡◌, ◌≢◌, ◌⊎◌, Bool, true, false, cond, nat_lt, List, ◌∷◌, ◌++◌, Option, Some, None, is_some}
use Rattle.acd_terms.specs.Lists.{Among}
use Rattle.acd_terms.specs.declared.rows.Limits.{Limits}
use Rattle.acd_terms.specs.declared.command.Request.{Request}
use Rattle.acd_terms.specs.declared.command.Arrival.{Arrival}
use Rattle.acd_terms.specs.contracts.command.RequestPartialEq.TheImpl as request
use Rattle.acd_book.specs.declared.kept.Kept.{Kept}
use Rattle.acd_book.specs.Content.{Content, is_key, kept_of}
use Rattle.acd_desk.specs.declared.taken.Taken.{Taken}
use Rattle.acd_desk.specs.declared.taken.Taken.TheVariants.{Reply, InvokeReused, DeskFull}
use Rattle.acd_desk.specs.Contents.AbstractDesk.{has_key, executed, firsts, desk_run}

-- the same key, service and members, by the comparison that is derived
unfoldable pub same_request : Request → Request → Bool
same_request a b = (request.eq-value).it a b

-- the answer that the record of its key gives to a request
abbrev pub answer_of : Option Kept → Request → Taken
answer_of None r = DeskFull
answer_of (Some k) r = cond (same_request k.request r) (Reply k.status k.body) InvokeReused

abbrev pub answer_in : Content → Request → Taken
answer_in c r = answer_of (kept_of c.kept r.requester r.invoke) r

-- the answer to a request of the list, looked up by its key
abbrev pub reply_to : Limits → List Arrival → Request → Taken
reply_to limits list r = answer_in (desk_run limits list) r

-- x and k are at one place of the two lists
abbrev pub StandTogether : List Arrival → List Kept → Arrival → Kept → Type 0
StandTogether (a ∷ list) (r ∷ kept) x k = ((x ≡ a) × (k ≡ r)) ⊎ StandTogether list kept x k
StandTogether _ _ x k = ⊥

-- the arrival is among the first arrivals of the list, and the run keeps this of it
abbrev pub StandsFirst : Limits → List Arrival → Arrival → Kept → Type 0
StandsFirst limits list a kept = StandTogether (firsts limits.requests list) (desk_run limits list).kept a kept

-- an arrival before it has its key
pub record IsEarlier (before : List Arrival) (a earlier : Arrival) : Type 0 where
  pub stands : Among earlier before
  pub key : is_key a.request.requester a.request.invoke earlier.request ≡ true

-- the answer to an arrival of a list, by the arrivals before it and the rest
pub data IsReplyAt (limits : Limits) (before : List Arrival) (a : Arrival) (rest : List Arrival) : Taken → Type 0 where
  -- it is among the first arrivals: the reply to itself
  first_arrival : (kept : Kept) → has_key before a.request.requester a.request.invoke ≡ false
      → StandsFirst limits (before ++ a ∷ rest) a kept → IsReplyAt limits before a rest (Reply kept.status kept.body)
  -- an earlier arrival of its key is there, with the same request: the reply to that
  repeat : (earlier : Arrival) (kept : Kept) → IsEarlier before a earlier
      → StandsFirst limits (before ++ a ∷ rest) earlier kept → earlier.request ≡ a.request → IsReplyAt limits before a rest (Reply kept.status kept.body)
  -- or with another one
  reused : (earlier : Arrival) (kept : Kept) → IsEarlier before a earlier
      → StandsFirst limits (before ++ a ∷ rest) earlier kept → earlier.request ≢ a.request → IsReplyAt limits before a rest InvokeReused
  -- no arrival of its key is there
  full : has_key (firsts limits.requests (before ++ a ∷ rest)) a.request.requester a.request.invoke ≡ false → IsReplyAt limits before a rest DeskFull

-- the content after one more arrival: where its key is new and the desk isn't full, that with it executed
abbrev pub after : Content → Arrival → Content
after c a = cond (is_some (kept_of c.kept a.request.requester a.request.invoke)) c
    (cond (nat_lt c.rows.last_stamp c.rows.limits.requests) (executed c a) c)
