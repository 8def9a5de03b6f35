-- Each call that entered a group's queue waits, rings, was answered, was abandoned or was moved.
use Rattle.std.specs.Prelude.{◌≡◌, ◌+◌, List}
use Rattle.acd_terms.specs.Lists.{count}
use Rattle.acd_terms.specs.Numbers.{Device}
use Rattle.acd_terms.specs.declared.rows.Rows.{Rows}
use Rattle.acd_terms.specs.declared.event.Event.{Event}
use Rattle.acd_model.specs.Figures.{figures_of}
use Rattle.acd_model.specs.Rules.Occupied.{waits_in, rings_from}
use Rattle.acd_laws.specs.Forms.{StepKeeps, EachRunEnds}

-- entered is what waits, rings, was answered, abandoned and moved, all counted from all events; of what is no group all are 0
abbrev pub IsBalanced : Rows → List Event → Type 0
IsBalanced s events = (group : Device) → (figures_of group events).entered
    ≡ count (waits_in group) s.connections + count (rings_from group) s.connections
    + (figures_of group events).answered + (figures_of group events).abandoned + (figures_of group events).moved

-- rows that break no rule go on to balanced ones
abbrev pub StepBalances : Type 0
StepBalances = StepKeeps IsBalanced

-- every run is balanced
abbrev pub RunIsBalanced : Type 0
RunIsBalanced = EachRunEnds IsBalanced
