-- A sound content, and what a run of the desk leaves.
use Rattle.std.specs.Prelude.{◌≡◌, ◌⊎◌, ◌≤◌, true, List, [], ◌∷◌, ◌++◌, map, length, None}
use Rattle.std.specs.List.{Contains}
use Rattle.acd_terms.specs.Limits.{limits_fit}
use Rattle.acd_terms.specs.declared.command.Arrival.{Arrival}
use Rattle.acd_book.specs.declared.kept.Kept.{Kept}
use Rattle.acd_terms.specs.declared.command.Request.{Request}
use Rattle.acd_book.specs.Content.{Content, kept_of}
use Rattle.acd_desk.specs.declared.taken.Taken.{Taken}
use Rattle.acd_model.specs.Step.{executed_moment}
use Rattle.acd_model.specs.Run.{TimedCommand}
use Rattle.acd_desk.specs.Contents.AbstractDesk.{distinct_from, executed, desk_run}
use Rattle.acd_desk.specs.Contents.Replies.{reply_to}

-- the kept requests at their moments
abbrev pub arrivals_of : List Kept → List Arrival
arrivals_of kept = map (λ (k : Kept). record { moment = k.moment; request = k.request }) kept

-- the limits fit, the kept keys are distinct and not too many, and all that is kept is the run of the kept requests
pub record IsSound (c : Content) : Type 0 where
  pub fits : limits_fit c.rows.limits ≡ true
  pub distinct : distinct_from [] (arrivals_of c.kept) ≡ arrivals_of c.kept
  pub few : length c.kept ≤ c.rows.limits.requests
  pub replays : c ≡ desk_run c.rows.limits (arrivals_of c.kept)

-- the run of the list that was kept at the start, followed by these
abbrev pub ran_after : Content → List Arrival → Content
ran_after start list = desk_run start.rows.limits (arrivals_of start.kept ++ list)

-- the answers to these, at their places in that list
abbrev pub replies : Content → List Arrival → List Taken
replies start list = map (λ (a : Arrival). reply_to start.rows.limits (arrivals_of start.kept ++ list) a.request) list

-- a reopening may find that run, or that with one more of the arrivals that were not accepted
abbrev pub StopsAt : Content → List Arrival → List Arrival → Content → Type 0
StopsAt start accepted others c = (c ≡ ran_after start accepted) ⊎ ((a : Arrival) × Contains others a × (c ≡ ran_after start (accepted ++ a ∷ [])))

-- no record has the key of the request
abbrev pub IsNew : Content → Request → Type 0
IsNew c r = kept_of c.kept r.requester r.invoke ≡ None

-- the list, each at the moment at which a run from there executes it
abbrev pub raised_from : Content → List Arrival → List Arrival
raised_from c [] = []
raised_from c (a ∷ rest) = record { moment = executed_moment c.rows a.moment; request = a.request } ∷ raised_from (executed c a) rest

-- the commands of arrivals at their moments
abbrev pub commands_of : List Arrival → List TimedCommand
commands_of list = map (λ (a : Arrival). record { moment = a.moment; command = a.request.command }) list
