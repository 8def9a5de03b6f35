-- Pages of an export.
use Rattle.std.proofs.Common.{◌≡◌, List, [], ◌∷◌, ◌++◌, ℕ, refl, sym, ap, ◌∙◌, append_assoc}
use Rattle.acd_terms.specs.declared.event.Event.{Event}
use Rattle.acd_reports.specs.Export.{event_record, records_text}

pub joined : (events more : List Event) → records_text (events ++ more) ≡ records_text events ++ records_text more
unfolding records_text
joined [] more = refl
joined (e ∷ events) more = ap (λ (t : List ℕ). event_record e ++ t) (joined events more) ∙ sym (append_assoc (event_record e) (records_text events) (records_text more))
