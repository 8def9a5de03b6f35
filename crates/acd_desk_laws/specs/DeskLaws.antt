-- Laws of the abstract desk.
use Rattle.std.specs.Prelude.{◌≡◌, true, List, [], ◌∷◌, ◌++◌}
use Rattle.acd_terms.specs.Limits.{limits_fit}
use Rattle.acd_terms.specs.declared.rows.Limits.{Limits}
use Rattle.acd_terms.specs.declared.command.Arrival.{Arrival}
use Rattle.acd_book.specs.Content.{Content, empty_content}
use Rattle.acd_desk.specs.Contents.AbstractDesk.{firsts, desk_run}
use Rattle.acd_desk.specs.Contents.Replies.{reply_to, IsReplyAt, after}
use Rattle.acd_desk.specs.Contents.SoundContent.{arrivals_of, IsSound, ran_after, raised_from}
use Rattle.acd_desk.specs.Laws.{KeepsLaws}
use Rattle.acd_desk.specs.Reads.ReadAnswers.{Rise}

-- one more arrival leads from the run of a list to the run of the longer list
abbrev pub OneMoreArrival : Type 0
OneMoreArrival = (limits : Limits) (list : List Arrival) (a : Arrival) → after (desk_run limits list) a ≡ desk_run limits (list ++ a ∷ [])

-- the look-up by key answers what the table by place says
abbrev pub AnswersByPlace : Type 0
AnswersByPlace = (limits : Limits) (before : List Arrival) (a : Arrival) (rest : List Arrival) → IsReplyAt limits before a rest (reply_to limits (before ++ a ∷ rest) a.request)

-- a sound content keeps the laws of runs, and breaks no rule of rows
abbrev pub SoundKeepsLaws : Type 0
SoundKeepsLaws = (c : Content) → IsSound c → KeepsLaws c

-- a new book is sound, where its limits fit
abbrev pub EmptyIsSound : Type 0
EmptyIsSound = (limits : Limits) → limits_fit limits ≡ true → IsSound (empty_content limits)

-- one more arrival leaves a sound content sound
abbrev pub StaysSound : Type 0
StaysSound = (c : Content) (a : Arrival) → IsSound c → IsSound (after c a)

-- the first arrivals of the list that was kept at the start, followed by these
abbrev pub firsts_after : Content → List Arrival → List Arrival
firsts_after start list = firsts start.rows.limits.requests (arrivals_of start.kept ++ list)

-- a run keeps the first arrivals of the list, each at its executed moment
abbrev pub KeepsFirsts : Type 0
KeepsFirsts = (start : Content) (list : List Arrival)
    → arrivals_of (ran_after start list).kept
    ≡ raised_from (empty_content start.rows.limits) (firsts_after start list)

-- the events of a sound content are in ascending number
abbrev pub EventsInOrder : Type 0
EventsInOrder = (c : Content) → IsSound c → Rise 0 c.events
