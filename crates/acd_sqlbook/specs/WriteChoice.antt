-- Which changes are written, and by which statement a call or a connection is: an insertion where it has no row, else an upsert.
use Rattle.std.specs.Prelude.{◌≡◌, ◌≢◌, ℕ, ◌≤◌, ◌<◌, ◌==◌, ◌&&◌, List, [], ◌∷◌, ◌++◌, Bool, false, cond, length, filter, nat_lt, Option, None, Some}
use Rattle.acd_terms.specs.Lists.{IsAscending}
use Rattle.acd_terms.specs.declared.event.Event.{Event}
use Rattle.acd_model.specs.Rules.Plan.{connection_order}
use Rattle.acd_model.specs.declared.moves.Change.{Change}
use Rattle.acd_model.specs.declared.moves.Change.TheVariants.{PutCall, PutConnection, RemoveConnection}
use Rattle.acd_book.specs.Content.{Content}
use Rattle.acd_sqlbook.specs.Commit.{applied, all_applied}

-- ---- what is written

-- the second removes the connection that the first one puts
abbrev pub is_taken_away : Change → Change → Bool
is_taken_away (PutConnection x) (RemoveConnection call device) = (x.call == call) && (x.device == device)
is_taken_away _ _ = false

-- the first is made in vain: the second makes the same of a content without it
abbrev pub IsVainBefore : Change → Change → Type 0
IsVainBefore first second = (c : Content) → IsAscending connection_order c.rows.connections → applied (applied c first) second ≡ applied c second

-- those that are written: all but a connection that the very next change removes
abbrev pub written_changes : List Change → List Change
written_changes [] = []
written_changes (change ∷ []) = change ∷ []
written_changes (change ∷ next ∷ changes) = cond (is_taken_away change next) (written_changes (next ∷ changes)) (change ∷ written_changes (next ∷ changes))

-- this one is written next, and those are the rest
pub record IsWrittenNext (changes : List Change) (change : Change) (rest : List Change) : Type 0 where
  pub skipped : List Change
  pub all : changes ≡ skipped ++ change ∷ rest
  pub first : written_changes changes ≡ change ∷ written_changes rest
  -- skipping a change makes no difference
  pub applying : (c : Content) → IsAscending connection_order c.rows.connections → all_applied c changes ≡ all_applied (applied c change) rest

-- ---- events

-- the events of the next statement, and the rest
pub record IsNextPart (es some rest : List Event) : Type 0 where
  pub all : es ≡ some ++ rest
  pub any : some ≢ []
  pub few : length some ≤ 4
  pub full : 0 < length rest → length some ≡ 4

-- ---- what is new

-- both put one call, or one connection
abbrev pub puts_the_same : Change → Change → Bool
puts_the_same (PutCall k) (PutCall l) = k.call == l.call
puts_the_same (PutConnection x) (PutConnection y) = (x.call == y.call) && (x.device == y.device)
puts_the_same _ _ = false

-- no other change puts what one of these puts
abbrev pub is_put_once : List Change → Change → Bool
is_put_once changes change = length (filter (puts_the_same change) changes) == 1

-- above the last call's number, where that is known
abbrev pub is_above : Option ℕ → ℕ → Bool
is_above None call = false
is_above (Some last) call = nat_lt last call

-- a change of these puts a call above the last one, or a connection of such a call, and no other puts the same
abbrev pub is_new : Option ℕ → List Change → Change → Bool
is_new last changes (PutCall k) = is_above last k.call && is_put_once changes (PutCall k)
is_new last changes (PutConnection x) = is_above last x.call && is_put_once changes (PutConnection x)
is_new last changes _ = false
