-- The commands that are a service.
use Rattle.acd_terms.specs.declared.command.Command.{Command}
use Rattle.acd_terms.specs.declared.command.Command.TheVariants.{Tick}

-- any command but tick, which the switch runs itself
abbrev pub IsNoTick : Command → Type 0
IsNoTick Tick = ⊥
IsNoTick _ = Unit {0}
