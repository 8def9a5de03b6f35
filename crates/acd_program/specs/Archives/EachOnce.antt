-- A table of events has each event once.
use Rattle.std.specs.Prelude.{◌≡◌, ◌≤◌, List, [], ◌∷◌, ◌++◌, length, max, string_bytes}
use Rattle.acd_terms.specs.Numbers.{EventNumber}
use Rattle.acd_terms.specs.declared.event.Event.{Event}
use Rattle.acd_book.specs.Content.{Content, GoOn}
use Rattle.acd_reports.specs.Export.{events_csv}
use Rattle.acd_desk.specs.Contents.CarriedContent.{Archive, together}
use Rattle.acd_desk.specs.Reads.ReadAnswers.{above}
use Rattle.acd_desk.specs.Contents.SoundContent.{IsSound}
use Rattle.acd_program.specs.Archives.ArchiveExport.{IsNewTable, IsWith}
use Rattle.acd_program.specs.declared.export.EventTable.{EventTable}

-- the events of contents were added to a table, one content after another
abbrev pub AreAdded : List Content → EventTable → EventTable → Type 0
AreAdded [] old new = new ≡ old
AreAdded (c ∷ rest) old new = (mid : EventTable) × IsWith old mid c × AreAdded rest mid new

-- the events above a number that they have: of each content those that the ones before it don't tell of
abbrev pub told : EventNumber → List Content → List Event
told last [] = []
told last (c ∷ rest) = above c.events last ++ told (max last c.rows.last_event) rest

-- each is sound with the records that went out of it, and the contents before it tell of all events of these, as those up to a number are told of
abbrev pub AreChained : EventNumber → List Content → Type 0
AreChained last [] = Unit {0}
AreChained last (c ∷ rest) = (p : Archive) × IsSound (together p c) × (length p.events ≤ last) × AreChained (max last c.rows.last_event) rest

-- a table is the export of the events that contents have
abbrev pub IsTableOf : List Content → EventTable → Type 0
IsTableOf contents whole = string_bytes whole.text ≡ events_csv (told 0 contents)

-- where these are a chain, the numbers of their events go on from 1 up to the last one that the table has
abbrev pub HasEachOnce : List Content → EventTable → Type 0
HasEachOnce contents whole = AreChained 0 contents → GoOn 0 (told 0 contents) × (whole.last ≡ length (told 0 contents))

-- A table to which contents were added is the export of their events. Of a chain each event is there once, and none is missing.
abbrev pub TablesTellOnce : Type 0
TablesTellOnce = (contents : List Content) (begun whole : EventTable) → IsNewTable begun → AreAdded contents begun whole → IsTableOf contents whole × HasEachOnce contents whole
