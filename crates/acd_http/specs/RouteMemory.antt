-- Whether there was memory for the routes of a service.
use Rattle.std.specs.Prelude.{◌≡◌, ◌≢◌, ℕ, List, Result, Err}
use Rattle.acd_io.specs.SentBytes.{WasSent}
use Rattle.acd_lines.specs.Lines.{Output}
use Rattle.acd_http.specs.declared.serving.ServeFault.{ServeFault}
use Rattle.acd_http.specs.declared.serving.ServeFault.TheVariants.{NoMemory}

-- this is said where there was: of lines that were written or, where one of them could not be, of a beginning of them and not all
abbrev pub IfServed : Result (Unit {0}) ServeFault → Output → ((List ℕ → Type 0) → Type 0) → Type 0
IfServed result output Served = result ≢ Err NoMemory → Served (WasSent result output.before output.after)

-- this is said where there was none
abbrev pub IfUnrouted : Result (Unit {0}) ServeFault → Type 0 → Type 0
IfUnrouted result P = result ≡ Err NoMemory → P
