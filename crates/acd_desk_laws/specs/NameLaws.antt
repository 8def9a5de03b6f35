-- Names are inert in a desk too: its records and answers depend on no name of a group or an agent, but that a repeat has to ask the same.
use Rattle.std.specs.Prelude.{◌≡◌, true, List, map}
use Rattle.acd_terms.specs.Lists.{Among}
use Rattle.acd_terms.specs.declared.rows.Limits.{Limits}
use Rattle.acd_terms.specs.declared.command.Request.{Request}
use Rattle.acd_terms.specs.declared.command.Arrival.{Arrival}
use Rattle.acd_laws.specs.NameLaws.{unnamed_command, SameRowsButNames}
use Rattle.acd_book.specs.declared.kept.Kept.{Kept}
use Rattle.acd_book.specs.Content.{Content, is_key}
use Rattle.acd_desk.specs.declared.taken.Taken.{Taken}
use Rattle.acd_desk.specs.Contents.AbstractDesk.{desk_run}
use Rattle.acd_desk.specs.Contents.Replies.{reply_to}

-- with the name of its command removed
abbrev pub unnamed_request : Request → Request
unnamed_request r = record r { command = unnamed_command r.command }

abbrev pub unnamed_arrival : Arrival → Arrival
unnamed_arrival a = record a { request = unnamed_request a.request }

abbrev pub unnamed_kept : Kept → Kept
unnamed_kept k = record k { request = unnamed_request k.request }

-- as many arrivals, at the same moments and with the same keys, that differ in names alone, if at all
abbrev pub SameArrivalsButNames : List Arrival → List Arrival → Type 0
SameArrivalsButNames xs ys = map unnamed_arrival xs ≡ map unnamed_arrival ys

-- arrivals of one key ask the same: so it is where no two have one key
abbrev pub HasOneRequestAKey : List Arrival → Type 0
HasOneRequestAKey list = (a b : Arrival) → Among a list → Among b list → is_key a.request.requester a.request.invoke b.request ≡ true → a.request ≡ b.request

-- the answer to each
abbrev pub answers : Limits → List Arrival → List Taken
answers limits list = map (λ (a : Arrival). reply_to limits list a.request) list

-- the same events, the same replies kept at the same stamps and moments, and rows and requests that differ in names alone
pub record SameContentsButNames (c d : Content) : Type 0 where
  pub rows : SameRowsButNames c.rows d.rows
  pub events : c.events ≡ d.events
  pub kept : map unnamed_kept c.kept ≡ map unnamed_kept d.kept

-- two lists of arrivals that differ in names alone leave contents that differ in names alone
abbrev pub ContentIgnoresNames : Type 0
ContentIgnoresNames = (limits : Limits) (xs ys : List Arrival) → SameArrivalsButNames xs ys → SameContentsButNames (desk_run limits xs) (desk_run limits ys)

-- and where in neither list two arrivals have one key and ask something else, each arrival is answered as the one at its place in the other
abbrev pub AnswersIgnoreNames : Type 0
AnswersIgnoreNames = (limits : Limits) (xs ys : List Arrival) → SameArrivalsButNames xs ys → HasOneRequestAKey xs → HasOneRequestAKey ys → answers limits xs ≡ answers limits ys
