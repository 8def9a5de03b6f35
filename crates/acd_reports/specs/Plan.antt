-- A plan in CSV, and the requests that it represents.
use Rattle.std.specs.Prelude.{◌≡◌, ℕ, ◌+◌, List, [], ◌∷◌, length, take, drop, codes, nat_lt, if◌then◌else◌, ◌&&◌, Bool, false, Option, Some, None, Vec, Result, Ok, Err}
use Rattle.std.specs.Str.{bytes_eq}
use Rattle.csv.specs.Reading.{records, default_config, strip_bom}
use Rattle.acd_terms.specs.declared.command.Request.{Request}
use Rattle.acd_terms.specs.declared.command.Command.{Command}
use Rattle.acd_reports.specs.declared.fault.PlanMember.{PlanMember}
use Rattle.acd_reports.specs.declared.fault.PlanFault.{PlanFault}
use Rattle.acd_reports.specs.declared.fault.PlanFault.TheVariants.{TooLong, Header, Row, NoMemory}
use Rattle.acd_terms.specs.Results.{◌>>=◌}
use Rattle.acd_reports.specs.PlanRows.{PlanRow, plan_row_of, command_in_record}

-- the fields before the times name their columns
abbrev pub names_first_columns : PlanRow → Bool
names_first_columns row = bytes_eq row.kind (codes "kind") && bytes_eq row.number (codes "number") && bytes_eq row.name (codes "name")

-- the five fields name the columns
abbrev pub names_columns : Option PlanRow → Bool
names_columns None = false
names_columns (Some row) = names_first_columns row && bytes_eq row.ring (codes "ring") && bytes_eq row.wrap (codes "wrap")

-- the request of a command, or the fault of its row
abbrev pub request_of : ℕ → Result Command PlanMember → Result Request PlanFault
request_of row (Ok command) = Ok (record { requester = codes "plan"; invoke = row; command = command })
request_of row (Err m) = Err (Row row m)

-- the requests of the records from a row on, or the first faulty row
unfoldable pub requests_from : ℕ → List (List (List ℕ)) → Result (List Request) PlanFault
requests_from row [] = Ok []
requests_from row (fields ∷ rows) = do
  request ← request_of row (command_in_record fields)
  requests ← requests_from (row + 1) rows
  Ok (request ∷ requests)

-- the first record is the header, and the rows after it count from 1
abbrev pub requests_of : List (List (List ℕ)) → Result (List Request) PlanFault
requests_of [] = Err Header
requests_of (first ∷ rows) = if names_columns (plan_row_of first) then requests_from 1 rows else Err Header

-- a text without the bytes EF BB BF at its beginning
unfoldable pub without_mark : List ℕ → List ℕ
without_mark bytes = if bytes_eq (take 3 bytes) (0xEF ∷ 0xBB ∷ 0xBF ∷ []) then drop 3 bytes else bytes

-- what the default reader of CSV gives of a text that has no header row
abbrev pub records_of : List ℕ → List (List (List ℕ))
records_of text = records default_config (strip_bom text)

-- the requests of a plan, or its fault
unfoldable pub plan_requests : List ℕ → Result (List Request) PlanFault
plan_requests bytes = if nat_lt 1048576 (length bytes) then Err TooLong else requests_of (records_of (without_mark bytes))

-- the fault is this one, or memory ran out
abbrev pub IsPlanFault : PlanFault → Result (List Request) PlanFault → Type 0
IsPlanFault NoMemory wanted = Unit {0}
IsPlanFault TooLong wanted = wanted ≡ Err TooLong
IsPlanFault Header wanted = wanted ≡ Err Header
IsPlanFault (Row row m) wanted = wanted ≡ Err (Row row m)

-- the reader returned this, unless memory ran out
abbrev pub GivesPlan : {Z : Type 0} → Result (Vec Request Z) PlanFault → Result (List Request) PlanFault → Type 0
GivesPlan (Ok requests) wanted = wanted ≡ Ok requests.items
GivesPlan (Err fault) wanted = IsPlanFault fault wanted
