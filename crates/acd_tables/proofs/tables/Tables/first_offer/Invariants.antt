use Rattle.std.proofs.Common.{◌≡◌}
use Rattle.acd_model.specs.Choice.{offer_of}
use Rattle.acd_tables.specs.FirstOffer.{offer_by_key, first_given}
use Rattle.acd_tables.proofs.tables.Tables.first_offer.Given as goal

abbrev pub invariant-loop-key : goal.invariant-loop-key
invariant-loop-key l = first_given (offer_by_key l.self) l.key-iterator ≡ offer_of l.self
