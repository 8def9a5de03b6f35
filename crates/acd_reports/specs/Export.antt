-- The export of events in CSV: a header record, and a record for each event.
use Rattle.std.specs.Prelude.{◌≡◌, ℕ, List, [], ◌∷◌, ◌++◌, map, codes, decimal, Option, Some, None}
use Rattle.std.specs.List.{concat}
use Rattle.csv.specs.Writing.{default_writer, row_text}
use Rattle.acd_terms.specs.Forms.{digits_of}
use Rattle.acd_terms.specs.Columns.{columns_of}
use Rattle.acd_terms.specs.EventNames.{kind_name, cause_name}
use Rattle.acd_terms.specs.declared.event.Columns.{Columns}
use Rattle.acd_terms.specs.declared.event.Event.{Event}

-- the text of a member, and nothing where it is absent
abbrev pub written_field : {A : Type 0} → (A → List ℕ) → Option A → List ℕ
written_field text (Some x) = text x
written_field text None = []

-- the fields of a record
abbrev pub export_fields : ℕ → ℕ → Columns → List (List ℕ)
export_fields number moment c =
    decimal number ∷ decimal moment ∷ kind_name c.kind
    ∷ written_field decimal c.call ∷ written_field digits_of c.device ∷ written_field digits_of c.agent
    ∷ written_field digits_of c.group ∷ written_field digits_of c.to ∷ written_field cause_name c.cause ∷ written_field decimal c.waited ∷ []

abbrev pub column_names : List (List ℕ)
column_names =
    codes "number" ∷ codes "moment" ∷ codes "event"
    ∷ codes "call" ∷ codes "device" ∷ codes "agent"
    ∷ codes "group" ∷ codes "to" ∷ codes "cause" ∷ codes "waited" ∷ []

-- those of an event's record
abbrev pub fields_of_event : Event → List (List ℕ)
fields_of_event e = export_fields e.number e.moment (columns_of e.report)

-- a record as the default writer of CSV writes it
abbrev pub record_text : List (List ℕ) → List ℕ
record_text fields = row_text default_writer fields

abbrev pub event_record : Event → List ℕ
event_record e = record_text (fields_of_event e)

unfoldable pub header_record : List ℕ
header_record = record_text column_names

-- the records of some events
unfoldable pub records_text : List Event → List ℕ
records_text events = concat (map event_record events)

-- the export of all events
unfoldable pub events_csv : List Event → List ℕ
events_csv events = header_record ++ records_text events

-- the records of all events are those of some, and then those of the others
abbrev pub PagesJoin : Type 0
PagesJoin = (events more : List Event) → records_text (events ++ more) ≡ records_text events ++ records_text more
