-- The abstract desk: the switch run once over each request's first arrival.
use Rattle.std.specs.Prelude.{ℕ, List, [], ◌∷◌, ◌++◌, take, Bool, cond}
use Rattle.std.specs.List.{list_any}
use Rattle.acd_terms.specs.Numbers.{Moment, Stamp}
use Rattle.acd_terms.specs.declared.rows.Limits.{Limits}
use Rattle.acd_terms.specs.declared.rows.Rows.{Rows}
use Rattle.acd_terms.specs.declared.command.Arrival.{Arrival}
use Rattle.acd_terms.specs.declared.command.Request.{Request}
use Rattle.acd_terms.specs.declared.answer.Outcome.{Outcome}
use Rattle.acd_model.specs.Step.{Stepped, step, executed_moment, next_stamp}
use Rattle.acd_codec.specs.ReplyTexts.{outcome_status, reply_text}
use Rattle.acd_book.specs.declared.kept.Kept.{Kept}
use Rattle.acd_book.specs.Content.{Content, empty_content, committed, is_key}

-- an arrival of the list has this key
abbrev pub has_key : List Arrival → List ℕ → ℕ → Bool
has_key list requester invoke = list_any (λ (a : Arrival). is_key requester invoke a.request) list

-- the arrivals whose key neither one before them nor one that was seen has
abbrev pub distinct_from : List Arrival → List Arrival → List Arrival
distinct_from seen [] = []
distinct_from seen (a ∷ rest) = cond (has_key seen a.request.requester a.request.invoke) [] (a ∷ []) ++ distinct_from (seen ++ a ∷ []) rest

-- the first arrivals: those whose key no earlier one has, cut to the limit of executed requests
abbrev pub firsts : ℕ → List Arrival → List Arrival
firsts limit list = take limit (distinct_from [] list)

abbrev pub stepped : Rows → Arrival → Stepped
stepped s a = step s a.moment a.request.command

-- a record with the reply that an outcome gives
abbrev pub kept_at : Stamp → Moment → Request → Outcome → Kept
kept_at stamp moment r outcome =
    record { stamp = stamp; moment = moment; request = r; status = outcome_status outcome; body = reply_text r.requester r.invoke outcome }

-- the record kept of an executed arrival: its stamp, its executed moment, and the reply
abbrev pub record_of : Rows → Arrival → Kept
record_of s a = kept_at (next_stamp s) (executed_moment s a.moment) a.request (stepped s a).outcome

-- one step, with its events and its reply kept
abbrev pub executed : Content → Arrival → Content
executed c a = committed (stepped c.rows a).rows (stepped c.rows a).events (record_of c.rows a) c

-- one arrival after the other
abbrev pub run_from : Content → List Arrival → Content
run_from c [] = c
run_from c (a ∷ rest) = run_from (executed c a) rest

-- the run over the first arrivals of a list, from the empty state
abbrev pub desk_run : Limits → List Arrival → Content
desk_run limits list = run_from (empty_content limits) (firsts limits.requests list)
