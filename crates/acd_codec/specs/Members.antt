-- The names of members.
use Rattle.std.specs.Prelude.{ℕ, List, codes}
use Rattle.acd_codec.specs.declared.member.Member.{Member}
use Rattle.acd_codec.specs.declared.member.Member.TheVariants.{Json, Requester, Invoke, Service, Device, Name, Ring, Wrap, Agent, Caller, Called, Call, To, Requested, Group, Groups, Priority, Monitor, Moment}

abbrev pub member_name : Member → List ℕ
member_name Json = codes "json"
member_name Requester = codes "requester"
member_name Invoke = codes "invoke"
member_name Service = codes "service"
member_name Device = codes "device"
member_name Name = codes "name"
member_name Ring = codes "ring"
member_name Wrap = codes "wrap"
member_name Agent = codes "agent"
member_name Caller = codes "caller"
member_name Called = codes "called"
member_name Call = codes "call"
member_name To = codes "to"
member_name Requested = codes "requested"
member_name Group = codes "group"
member_name Groups = codes "groups"
member_name Priority = codes "priority"
member_name Monitor = codes "monitor"
member_name Moment = codes "moment"
