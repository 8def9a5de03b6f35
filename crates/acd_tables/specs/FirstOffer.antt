-- The offer at one key, and the first of several.
use Rattle.std.specs.Prelude.{◌==◌, List, [], ◌∷◌, Option, None, option_and_then, if◌then◌else◌}
use Rattle.std.specs.Option.{option_or}
use Rattle.acd_terms.specs.Numbers.{Priority}
use Rattle.acd_terms.specs.declared.rows.Rows.{Rows}
use Rattle.acd_terms.specs.declared.record.GroupRecord.{GroupRecord}
use Rattle.acd_model.specs.Scans.{group_of}
use Rattle.acd_model.specs.Choice.{offer_in}
use Rattle.acd_model.specs.declared.moves.Offer.{Offer}
use Rattle.acd_tables.specs.IndexedRows.{OfferKey}

-- the offer in the group, where it has the priority
abbrev pub if_ranked : Rows → Priority → GroupRecord → Option Offer
if_ranked s priority g = if g.priority == priority then offer_in s g else None

abbrev pub offer_by_key : Rows → OfferKey → Option Offer
offer_by_key s k = option_and_then (if_ranked s k.0.0) (group_of s k.1)

-- the first that f gives
abbrev pub first_given : {K T : Type 0} → (K → Option T) → List K → Option T
first_given f [] = None
first_given f (k ∷ ks) = option_or (f k) (first_given f ks)
