-- Changes and the counters of rows.
use Rattle.std.proofs.Common.{◌≡◌, ℕ, ◌+◌, [], ◌∷◌, ◌++◌, List, refl, ap, ◌∙◌, sym, drop, length, ◌≤◌}
use Rattle.std.proofs.lemmas.List.{drop-append-le}
use Rattle.acd_terms.specs.declared.rows.Rows.{Rows}
use Rattle.acd_model.specs.declared.moves.Change.{Change}
use Rattle.acd_model.specs.declared.moves.Change.TheVariants.{Nothing}
use Rattle.acd_model.specs.Moves.{changed}
use Rattle.acd_model.specs.Changes.{changed_by, rows_made}
use Rattle.acd_model.specs.Writes.{with_group, with_station, with_agent, with_call, with_connection, with_monitor, without_call, without_connection, without_monitor, with_last}
use Rattle.acd_model.proofs.ChangeLemmas.{changed_by_append}

last_event-changed : (s : Rows) (one : Change) → (changed s one).last_event ≡ s.last_event
unfolding with_group with_station with_agent with_call with_connection with_monitor without_call without_connection without_monitor
last_event-changed s Nothing = refl
last_event-changed s _ = refl

-- no change touches the counters of executed requests
changed-with_last : (s : Rows) (one : Change) (stamp moment event : ℕ)
    → changed (with_last s stamp moment event) one ≡ with_last (changed s one) stamp moment event
unfolding with_group with_station with_agent with_call with_connection with_monitor without_call without_connection without_monitor with_last
changed-with_last s Nothing a b e = refl
changed-with_last s _ a b e = refl

pub last_event-changed_by : (s : Rows) (changes : List Change) → (changed_by s changes).last_event ≡ s.last_event
last_event-changed_by s [] = refl
last_event-changed_by s (one ∷ changes) = last_event-changed_by (changed s one) changes ∙ last_event-changed s one

changed_by-with_last : (s : Rows) (changes : List Change) (stamp moment event : ℕ)
    → changed_by (with_last s stamp moment event) changes ≡ with_last (changed_by s changes) stamp moment event
changed_by-with_last s [] a b e = refl
changed_by-with_last s (one ∷ changes) a b e =
    ap (λ (t : Rows). changed_by t changes) (changed-with_last s one a b e) ∙ changed_by-with_last (changed s one) changes a b e

-- changes are added to a journal, and the counters set at once
pub changed_by-journal : (s : Rows) (made : ℕ) (journal changes : List Change) (stamp moment events : ℕ) → made ≤ length journal
    → changed_by (with_last s stamp moment (s.last_event + events)) (drop made (journal ++ changes))
    ≡ rows_made (changed_by s (drop made journal)) changes stamp moment events
changed_by-journal s made journal changes stamp moment events within =
    ap (λ (waiting : List Change). changed_by (with_last s stamp moment (s.last_event + events)) waiting) (drop-append-le made journal changes within)
    ∙ changed_by-with_last s (drop made journal ++ changes) stamp moment (s.last_event + events)
    ∙ ap (λ (t : Rows). with_last t stamp moment (s.last_event + events)) (changed_by_append s (drop made journal) changes)
    ∙ ap (λ (n : ℕ). with_last (changed_by (changed_by s (drop made journal)) changes) stamp moment (n + events))
    (sym (last_event-changed_by s (drop made journal)))
