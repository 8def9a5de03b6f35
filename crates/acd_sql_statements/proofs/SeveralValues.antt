-- The values of several events, one after the other.
use Rattle.std.proofs.Common.{◌≡◌, ℕ, ◌+◌, ◌<◌, List, [], ◌∷◌, ◌++◌, length, take, get_or, refl, sym, ap, ◌∙◌}
use Rattle.std.proofs.lemmas.List.{take_more}
use Rattle.acd_terms.specs.declared.event.Event.{Event}
use Rattle.acd_sql_columns.specs.Tables.{events}
use Rattle.acd_sql_statements.specs.SeveralEvents.{several_values}

values_push : (es : List Event) (x : Event) → several_values (es ++ x ∷ []) ≡ several_values es ++ events.values x
values_push [] x = refl
values_push (e ∷ es) x = ap (λ l. events.values e ++ l) (values_push es x)

pub values_next : (es : List Event) (i : ℕ) (x d : Event) → x ≡ get_or es i d → i < length es
    → several_values (take (i + 1) es) ≡ several_values (take i es) ++ events.values x
values_next es i x d at low =
    ap several_values (take_more es i d low) ∙ values_push (take i es) (get_or es i d) ∙ ap (λ (y : Event). several_values (take i es) ++ events.values y) (sym at)
