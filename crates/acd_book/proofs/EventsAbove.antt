-- Events up to a number, and those that are left above it.
use Rattle.std.proofs.Common.{◌≡◌, ℕ, ◌+◌, ◌<◌, ◌≤◌, List, [], ◌∷◌, ◌++◌, take, refl, ap, ap₂, ◌∙◌, arith, Bool, cond, nat_lt, filter, lt-ltb}
use Rattle.std.proofs.lemmas.Bool.{le-ltb}
use Rattle.std.proofs.lemmas.List.Elements.{filter-append}
use Rattle.acd_terms.specs.Lists.{Every}
use Rattle.acd_terms.specs.declared.event.Event.{Event}
use Rattle.acd_book.specs.Content.{events_after}
use Rattle.acd_book.specs.Memory.{number_of_event}
use Rattle.acd_book.specs.Order.{Rises}

above_filter : (last m : ℕ) (events : List Event) → last ≤ m → Rises number_of_event m events → filter (λ (e : Event). nat_lt last e.number) events ≡ events
above_filter last m [] low up = refl
above_filter last m (e ∷ events) low up =
    let here : m < e.number = up.0 in
    let above : last < e.number = omega (arith, low, here) in
    let next : last ≤ e.number = omega (arith, above) in
    ap (λ (b : Bool). cond b (e ∷ filter (λ (x : Event). nat_lt last x.number) events) (filter (λ (x : Event). nat_lt last x.number) events))
    (lt-ltb last e.number above)
    ∙ ap (λ (l : List Event). e ∷ l) (above_filter last e.number events next up.1)

past_filter : (last : ℕ) (events : List Event) → Every (λ (e : Event). e.number ≤ last) events → filter (λ (e : Event). nat_lt last e.number) events ≡ []
past_filter last [] low = refl
past_filter last (e ∷ events) low =
    ap (λ (b : Bool). cond b (e ∷ filter (λ (x : Event). nat_lt last x.number) events) (filter (λ (x : Event). nat_lt last x.number) events))
    (le-ltb last e.number low.0)
    ∙ past_filter last events low.1

-- a book reads above the last of these events exactly the events that are left
pub left_after : (last n : ℕ) (past left : List Event) → Every (λ (e : Event). e.number ≤ last) past → Rises number_of_event last left
    → events_after (past ++ left) last n ≡ take n left
left_after last n past left low up =
    let p : Event → Bool = λ (e : Event). nat_lt last e.number in
    ap (take n) (filter-append p past left ∙ ap₂ (λ (a b : List Event). a ++ b) (past_filter last past low) (above_filter last last left (omega arith) up))

-- a bound that is raised
pub events_raised : (low high : ℕ) (events : List Event) → low ≤ high → Every (λ (e : Event). e.number ≤ low) events
    → Every (λ (e : Event). e.number ≤ high) events
events_raised low high [] h all = tt
events_raised low high (e ∷ events) h all = (omega (arith, h, all.0), events_raised low high events h all.1)
