-- For private clauses: a reader of a plan, and the records that it has left.
use Rattle.std.specs.Prelude.{◌≡◌, ℕ, ◌+◌, ◌<◌, ◌++◌, List, [], ◌∷◌, length, Bool, true, false, Option, Some, IsSome, unwrap_or, Result, Ok, Err}
use Rattle.std.specs.Borrow.{Bor}
use Rattle.csv.specs.Machine.{ends_at_end}
use Rattle.csv.specs.Reading.{Ready, default_config, reader_config, reader_state, reader_trim, records_from, source_of}
use Rattle.csv.specs.declared.reader.Reader.{Reader}
use Rattle.csv.specs.declared.reader.Trim.TheVariants as trim
use Rattle.acd_terms.specs.declared.command.Request.{Request}
use Rattle.acd_reports.specs.declared.fault.PlanFault.{PlanFault}

abbrev pub PlanReader : Type 0
PlanReader = Reader (Bor (List ℕ))

abbrev pub known : Bor (List ℕ) → Option (List ℕ)
known bytes = Some bytes.now

-- the bytes that the reader has left
abbrev pub unread : PlanReader → List ℕ
unread reader = unwrap_or (source_of known reader) []

-- the records among them
unfoldable pub rows_left : PlanReader → List (List (List ℕ))
rows_left reader = records_from default_config (length (unread reader) + 1) (reader_state reader) (unread reader)

-- the reader reads by default but for the header row, has not failed, and is between two records
pub record IsPlanReader (reader : PlanReader) : Type 0 where
  pub trim : reader_trim reader ≡ trim.None
  pub ready : Ready reader
  pub config : reader_config reader ≡ default_config
  pub between : ends_at_end (reader_state reader) ≡ false
  pub has : IsSome (source_of known reader)

-- a read took the first record, or there is none
abbrev pub ReadsPlan : Bool → PlanReader → List (List ℕ) → PlanReader → Type 0
ReadsPlan false old fields new = rows_left old ≡ []
ReadsPlan true old fields new = (rows_left old ≡ fields ∷ rows_left new) × (length (unread new) < length (unread old)) × IsPlanReader new

-- the requests read after some others
abbrev pub read_after : List Request → Result (List Request) PlanFault → Result (List Request) PlanFault
read_after requests (Ok more) = Ok (requests ++ more)
read_after requests (Err fault) = Err fault
