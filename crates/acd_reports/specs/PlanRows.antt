-- A row of a plan: five fields, and the command that they represent.
use Rattle.std.specs.Prelude.{ℕ, Bool, List, [], ◌∷◌, length, codes, ◌==◌, ◌&&◌, nat_le, if◌then◌else◌, Option, Some, None, Result, Ok, Err}
use Rattle.std.specs.List.{list_all}
use Rattle.std.specs.Option.{ok_or}
use Rattle.std.specs.Result.{result_ok}
use Rattle.std.specs.Char.{is_ascii_digit}
use Rattle.std.specs.Str.{bytes_eq, is_utf8}
use Rattle.std.specs.Str.Parse.{digits_value}
use Rattle.acd_terms.specs.Forms.{device_digits, agent_digits, read_id, read_text, is_name_byte, number_between}
use Rattle.acd_terms.specs.declared.command.Command.{Command}
use Rattle.acd_terms.specs.declared.command.Command.TheVariants.{AddGroup, AddStation, AddAgent}
use Rattle.acd_reports.specs.declared.fault.PlanMember.{PlanMember}
use Rattle.acd_reports.specs.declared.fault.PlanMember.TheVariants as member
use Rattle.acd_reports.specs.declared.rows.Fields.{Fields}
use Rattle.acd_terms.specs.Results.{◌>>=◌}

-- the name of a member as it is written
abbrev pub plan_member_name : PlanMember → List ℕ
plan_member_name member.Fields = codes "fields"
plan_member_name member.Kind = codes "kind"
plan_member_name member.Number = codes "number"
plan_member_name member.Name = codes "name"
plan_member_name member.Ring = codes "ring"
plan_member_name member.Wrap = codes "wrap"

-- the fields of a row
pub record PlanRow : Type 0 where
  pub kind : List ℕ
  pub number : List ℕ
  pub name : List ℕ
  pub ring : List ℕ
  pub wrap : List ℕ

-- the fields as the program holds them
abbrev pub plan_row : Fields → PlanRow
plan_row f = record { kind = f.kind.now; number = f.number.now; name = f.name.now; ring = f.ring.now; wrap = f.wrap.now }

abbrev pub texts_of : PlanRow → List (List ℕ)
texts_of row = row.kind ∷ row.number ∷ row.name ∷ row.ring ∷ row.wrap ∷ []

abbrev pub five_of : List (List ℕ) → Option PlanRow
five_of (kind ∷ number ∷ name ∷ ring ∷ wrap ∷ []) = Some (record { kind = kind; number = number; name = name; ring = ring; wrap = wrap })
five_of _ = None

-- five fields, and all of them text
unfoldable pub plan_row_of : List (List ℕ) → Option PlanRow
plan_row_of fields = if list_all is_utf8 fields then five_of fields else None

-- 1 to 15 digits, 1 to 9 digits, and 1 to 40 printable characters
abbrev pub device_in_field : List ℕ → Result ℕ PlanMember
device_in_field text = ok_or (result_ok (read_id device_digits text)) member.Number

abbrev pub agent_in_field : List ℕ → Result ℕ PlanMember
agent_in_field text = ok_or (result_ok (read_id agent_digits text)) member.Number

abbrev pub name_in_field : List ℕ → Result (List ℕ) PlanMember
name_in_field text = ok_or (result_ok (read_text is_name_byte 40 text)) member.Name

-- 1 to 4 digits, from 0 to 3600
unfoldable pub seconds_of : List ℕ → Option ℕ
seconds_of text =
    if nat_le 1 (length text) && nat_le (length text) 4 && list_all is_ascii_digit text then number_between 0 3600 (digits_value 10 text) else None

abbrev pub seconds_in_field : PlanMember → List ℕ → Result ℕ PlanMember
seconds_in_field m text = ok_or (seconds_of text) m

-- a field that is to be empty
abbrev pub nothing_in : PlanMember → List ℕ → Result (Unit {0}) PlanMember
nothing_in m text = if length text == 0 then Ok tt else Err m

-- a group has all five fields, the first faulty one first
unfoldable pub group_in_row : PlanRow → Result Command PlanMember
group_in_row row = do
  device ← device_in_field row.number
  name ← name_in_field row.name
  ring ← seconds_in_field member.Ring row.ring
  wrap ← seconds_in_field member.Wrap row.wrap
  Ok (AddGroup device name ring wrap)

-- a station has no name, ring and wrap
unfoldable pub station_in_row : PlanRow → Result Command PlanMember
station_in_row row = do
  device ← device_in_field row.number
  no_name ← nothing_in member.Name row.name
  no_ring ← nothing_in member.Ring row.ring
  no_wrap ← nothing_in member.Wrap row.wrap
  Ok (AddStation device)

-- an agent has no ring and wrap
unfoldable pub agent_row_in : PlanRow → Result Command PlanMember
agent_row_in row = do
  agent ← agent_in_field row.number
  name ← name_in_field row.name
  no_ring ← nothing_in member.Ring row.ring
  no_wrap ← nothing_in member.Wrap row.wrap
  Ok (AddAgent agent name)

-- the kinds of rows
abbrev pub is_group_row : PlanRow → Bool
is_group_row row = bytes_eq row.kind (codes "group")

abbrev pub is_station_row : PlanRow → Bool
is_station_row row = bytes_eq row.kind (codes "station")

abbrev pub is_agent_row : PlanRow → Bool
is_agent_row row = bytes_eq row.kind (codes "agent")

-- the kind of a row decides its command
unfoldable pub command_of : PlanRow → Result Command PlanMember
command_of row =
    if is_group_row row then group_in_row row
    else (if is_station_row row then station_in_row row
    else (if is_agent_row row then agent_row_in row
    else Err member.Kind))

-- the command that some fields represent, or the first faulty member
unfoldable pub command_in_record : List (List ℕ) → Result Command PlanMember
command_in_record fields = do
  row ← ok_or (plan_row_of fields) member.Fields
  command_of row
