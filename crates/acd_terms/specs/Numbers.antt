-- The meanings of numbers, so that a definition's type says what it takes. Each of these is a number and nothing more.
use Rattle.std.specs.Prelude.{ℕ}

-- a group, a station or an external caller
abbrev pub Device : Type 0
Device = ℕ

abbrev pub Agent : Type 0
Agent = ℕ

abbrev pub CallId : Type 0
CallId = ℕ

abbrev pub MonitorId : Type 0
MonitorId = ℕ

-- in seconds
abbrev pub Moment : Type 0
Moment = ℕ

-- how long something lasts
abbrev pub Seconds : Type 0
Seconds = ℕ

-- the number of an executed request, from 1 on; a place in a queue is the stamp of the request that gave it
abbrev pub Stamp : Type 0
Stamp = ℕ

-- the number of an event, from 1 on
abbrev pub EventNumber : Type 0
EventNumber = ℕ

-- of a group: 0 is the lowest
abbrev pub Priority : Type 0
Priority = ℕ
