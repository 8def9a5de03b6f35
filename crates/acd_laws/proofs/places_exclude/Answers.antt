-- The law that a call is in one place.
use Rattle.acd_laws.proofs.Places.PlacedRuns.{places_exclude}
use Rattle.acd_laws.proofs.places_exclude.Goals as goal

pub returns : goal.returns
returns c = places_exclude
