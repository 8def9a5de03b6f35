-- The texts of event reports, one and a page of them.
use Rattle.std.specs.Prelude.{ℕ, List, [], ◌∷◌, ◌++◌, codes, Some, option_map}
use Rattle.acd_terms.specs.Forms.{digits_of}
use Rattle.acd_terms.specs.Columns.{columns_of}
use Rattle.acd_terms.specs.EventNames.{kind_name, cause_name}
use Rattle.acd_terms.specs.declared.event.Columns.{Columns}
use Rattle.acd_terms.specs.declared.event.Event.{Event}
use Rattle.acd_codec.specs.Parts.{Part, text_part, number_part, list_part, object_of, items_of}
use Rattle.serde_json.specs.Data.{Data}
use Rattle.serde_json.specs.Written.{compact_text}

-- the subject of the report, by the names of its members
abbrev pub subject_parts : Columns → List Part
subject_parts c =
    text_part (codes "agent") (option_map digits_of c.agent)
    ∷ number_part (codes "call") c.call
    ∷ text_part (codes "cause") (option_map cause_name c.cause)
    ∷ text_part (codes "device") (option_map digits_of c.device)
    ∷ text_part (codes "event") (Some (kind_name c.kind)) ∷ []

-- the members whose names follow
abbrev pub further_parts : ℕ → ℕ → Columns → List Part
further_parts number moment c =
    text_part (codes "group") (option_map digits_of c.group)
    ∷ number_part (codes "moment") (Some moment)
    ∷ number_part (codes "number") (Some number)
    ∷ text_part (codes "to") (option_map digits_of c.to)
    ∷ number_part (codes "waited") c.waited ∷ []

-- the members of an event in the order of their names
abbrev pub event_parts : Event → List Part
event_parts e = subject_parts (columns_of e.report) ++ further_parts e.number e.moment (columns_of e.report)

abbrev pub event_data : Event → Data
event_data e = object_of (event_parts e)

-- compact JSON
unfoldable pub event_text : Event → List ℕ
event_text e = compact_text (event_data e)

-- events, and the number of the desk's last one
abbrev pub page_parts : List Event → ℕ → List Part
page_parts events last = list_part (codes "events") (items_of event_data events) ∷ number_part (codes "last") (Some last) ∷ []

abbrev pub page_data : List Event → ℕ → Data
page_data events last = object_of (page_parts events last)

unfoldable pub page_text : List Event → ℕ → List ℕ
page_text events last = compact_text (page_data events last)
