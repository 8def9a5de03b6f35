-- Worked examples: records as they are added, and monitors.
use Rattle.std.specs.Prelude.{◌≡◌, [], ◌∷◌, codes, Some}
use Rattle.acd_terms.specs.declared.event.Cause.TheVariants as cause
use Rattle.acd_terms.specs.declared.event.Report.TheVariants.{Queued}
use Rattle.acd_terms.specs.declared.command.Command.TheVariants.{AddStation, AddAgent, ArriveCall, MonitorStart, MonitorStop}
use Rattle.acd_terms.specs.declared.answer.Outcome.TheVariants.{Done}
use Rattle.acd_terms.specs.declared.answer.Answer.TheVariants as answer
use Rattle.acd_model.specs.Scans.{agent_of}
use Rattle.acd_model.specs.Examples.Words.{billing, first_station, ana, caller, at, plan, run_after, event, planned_ana}

-- an agent is new since the request that added it, and is logged on nowhere
abbrev pub RecordsOfTheEmptyState : Type 0
RecordsOfTheEmptyState =
    let r = run_after [] (at 50 (AddStation first_station) ∷ at 60 (AddAgent ana (codes "Ana")) ∷ []) in
    (r.outcomes ≡ Done answer.Nothing ∷ Done answer.Nothing ∷ [])
    × (r.events ≡ [])
    × (r.rows.stations ≡ record { device = first_station } ∷ [])
    × (agent_of r.rows ana ≡ Some (record planned_ana { stamp = 2; since = 60 }))

-- a monitor of a group or a station reports what comes after its start; a number of a monitor isn't used again
abbrev pub Monitors : Type 0
Monitors =
    let r = run_after plan (at 5 (MonitorStart billing) ∷ at 6 (MonitorStop 1) ∷ at 7 (ArriveCall caller billing) ∷ at 8 (MonitorStart first_station) ∷ []) in
    (r.outcomes ≡ Done (answer.Monitor 1) ∷ Done answer.Nothing ∷ Done (answer.Call 1) ∷ Done (answer.Monitor 2) ∷ [])
    × (r.events ≡ event 1 7 (Queued 1 billing cause.NewCall) ∷ [])
    × (r.rows.monitors ≡ record { monitor = 2; device = first_station; after_event = 1 } ∷ [])
    × (r.rows.last_monitor ≡ 2)
