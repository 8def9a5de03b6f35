-- A request at a moment.
use Rattle.acd_terms.specs.Numbers.{Moment}
use Rattle.acd_terms.specs.declared.command.Arrival.{Arrival}
use Rattle.acd_terms.specs.declared.command.Request.{Request}

abbrev pub arrival_at : Moment → Request → Arrival
arrival_at moment request = record { moment = moment; request = request }
