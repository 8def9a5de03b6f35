-- Reading as it was while an agent was in one group and groups had no priority. The parts that have not changed since
-- are shared.
use Rattle.std.specs.Prelude.{◌≡◌, ℕ, List, [], ◌∷◌, Option, Some, None, Result, Ok, Err, if◌then◌else◌}
use Rattle.std.specs.Option.{is_some}
use Rattle.std.specs.List.{find}
use Rattle.std.specs.Str.{is_utf8, bytes_eq}
use Rattle.serde_json.specs.Data.{Data}
use Rattle.serde_json.specs.Read.{read}
use Rattle.serde_json.specs.Find.{as_object}
use Rattle.acd_terms.specs.Results.{◌>>=◌}
use Rattle.acd_terms.specs.declared.command.Request.{Request}
use Rattle.acd_terms.specs.declared.command.Requested.{Requested}
use Rattle.acd_terms.specs.declared.command.Requested.TheVariants as requested
use Rattle.acd_terms.specs.declared.command.Command.{Command}
use Rattle.acd_terms.specs.declared.command.Command.TheVariants.{SetAgentState}
use Rattle.acd_codec.specs.declared.member.Member.{Member}
use Rattle.acd_codec.specs.declared.member.Member.TheVariants as member
use Rattle.acd_codec.specs.declared.service.RequestedState.{RequestedState}
use Rattle.acd_codec.specs.declared.service.RequestedState.TheVariants as requested_state
use Rattle.acd_codec.specs.declared.service.Service.{Service}
use Rattle.acd_codec.specs.declared.service.Service.TheVariants as service
use Rattle.acd_codec.specs.Services.{service_name, first_services}
use Rattle.acd_codec.specs.MemberReading.{read_in, agent_in, requester_in, invoke_in, requested_state_in}
use Rattle.acd_codec.specs.RequestReading.{two_devices_in, command_in, reads_as}

-- one of the sixteen services
abbrev pub old_service_of : List ℕ → Option Service
old_service_of text = find (λ s. bytes_eq text (service_name s)) first_services

unfoldable pub old_service_in : Data → Result Service Member
old_service_in d = read_in old_service_of member.Service d

-- a log-on named one group
unfoldable pub old_requested_in : Data → RequestedState → Result Requested Member
old_requested_in d requested_state.LoggedOn = do
  place ← two_devices_in member.Device member.Group d
  Ok (requested.LoggedOn place.0 (place.1 ∷ []))
old_requested_in d (requested_state.State state) = Ok (requested.State state)

unfoldable pub old_set_agent_state_in : Data → Result Command Member
old_set_agent_state_in d = do
  agent ← agent_in d
  state ← requested_state_in d
  requested ← old_requested_in d state
  Ok (SetAgentState agent requested)

-- no name of the later services could be read, and the members of the others are read as they were
unfoldable pub old_command_in : Service → Data → Result Command Member
old_command_in service.SetAgentState d = old_set_agent_state_in d
old_command_in s d = command_in s d

unfoldable pub old_request_in : Data → Result Request Member
old_request_in d = do
  requester ← requester_in d
  invoke ← invoke_in d
  service ← old_service_in d
  command ← old_command_in service d
  Ok (record { requester = requester; invoke = invoke; command = command })

abbrev pub old_request_from : Option Data → Result Request Member
old_request_from None = Err member.Json
old_request_from (Some d) = if is_some (as_object d) then old_request_in d else Err member.Json

-- the request that the bytes represented
unfoldable pub old_reads_as : List ℕ → Result Request Member
old_reads_as bytes = if is_utf8 bytes then old_request_from (read bytes) else Err member.Json

-- bytes that were read as a request are read as the same request
abbrev pub OldReadsTheSame : Type 0
OldReadsTheSame = (bytes : List ℕ) (r : Request) → old_reads_as bytes ≡ Ok r → reads_as bytes ≡ Ok r
