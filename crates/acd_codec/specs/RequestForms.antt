-- The conditions on each part of a request.
use Rattle.std.specs.Prelude.{◌≡◌, ℕ, true}
use Rattle.acd_terms.specs.Forms.{device_digits, agent_digits, IsNumberOf, IsName, IsRequester, IsBetween}
use Rattle.acd_terms.specs.Groups.{is_choice}
use Rattle.acd_terms.specs.Lists.{Every}
use Rattle.acd_terms.specs.declared.command.Request.{Request}
use Rattle.acd_terms.specs.declared.command.Requested.{Requested}
use Rattle.acd_terms.specs.declared.command.Requested.TheVariants as requested
use Rattle.acd_terms.specs.declared.command.Command.{Command}
use Rattle.acd_codec.specs.declared.service.Details.{Details}
use Rattle.acd_codec.specs.declared.service.Details.TheVariants.{Group, Agent, Device, Arrival, Making, Connection, Transfer, State, Monitor, Priority, Nothing}
use Rattle.acd_codec.specs.Services.{taken_apart}

abbrev pub IsDevice : ℕ → Type 0
IsDevice n = IsNumberOf device_digits n

abbrev pub IsAgent : ℕ → Type 0
IsAgent n = IsNumberOf agent_digits n

abbrev pub IsSeconds : ℕ → Type 0
IsSeconds n = IsBetween 0 3600 n

abbrev pub IsPriority : ℕ → Type 0
IsPriority n = IsBetween 0 9 n

-- a call or a monitor
abbrev pub IsSerial : ℕ → Type 0
IsSerial n = IsBetween 1 1000000000 n

abbrev pub IsRequested : Requested → Type 0
IsRequested (requested.LoggedOn device groups) = IsDevice device × (is_choice groups ≡ true) × Every IsDevice groups
IsRequested (requested.State state) = Unit {0}

abbrev pub AreFormed : Details → Type 0
AreFormed (Group device name ring wrap) = IsDevice device × IsName name × IsSeconds ring × IsSeconds wrap
AreFormed (Agent agent name) = IsAgent agent × IsName name
AreFormed (Device device) = IsDevice device
AreFormed (Arrival caller called) = IsDevice caller × IsDevice called
AreFormed (Making device called) = IsDevice device × IsDevice called
AreFormed (Connection call device) = IsSerial call × IsDevice device
AreFormed (Transfer call device to) = IsSerial call × IsDevice device × IsDevice to
AreFormed (State agent requested) = IsAgent agent × IsRequested requested
AreFormed (Monitor monitor) = IsSerial monitor
AreFormed (Priority device priority) = IsDevice device × IsPriority priority
AreFormed Nothing = Unit {0}

abbrev pub IsCommand : Command → Type 0
IsCommand c = AreFormed (taken_apart c).1

-- each part is of its form
pub record IsRequest (r : Request) : Type 0 where
  pub requester : IsRequester r.requester
  pub invoke : IsBetween 1 999999999 r.invoke
  pub command : IsCommand r.command
