-- How a book in memory holds its content.
use Rattle.std.specs.Prelude.{◌≡◌, ℕ, ◌+◌, ◌-◌, Bool, true, ◌&&◌, ◌==◌, List, [], ◌∷◌, slice_get, Option, Some, None, if◌then◌else◌}
use Rattle.std.specs.List.{position_from}
use Rattle.std.specs.HashMap.{HashMap, get}
use Rattle.std.specs.declared.hash.FoldHasher.{FoldHasher}
use Rattle.std.specs.declared.hash.BuildHasherDefault.{BuildHasherDefault}
use Rattle.acd_terms.specs.declared.event.Event.{Event}
use Rattle.acd_book.specs.Content.{is_key}
use Rattle.acd_book.specs.declared.kept.Kept.{Kept}
use Rattle.acd_book.specs.declared.key.Key.{Key}
use Rattle.acd_book.specs.contracts.key.KeyPartialEq.TheImpl as key

-- numbered on from a number
abbrev pub is_numbered : {T : Type 0} → (T → ℕ) → ℕ → List T → Bool
is_numbered number last [] = true
is_numbered number last (x ∷ xs) = (number x == last + 1) && is_numbered number (last + 1) xs

abbrev pub stamp_of : Kept → ℕ
stamp_of k = k.stamp

abbrev pub number_of_event : Event → ℕ
number_of_event e = e.number

-- the event of a number, in a list that is numbered from 1
abbrev pub event_numbered : List Event → ℕ → Option Event
event_numbered events number = if number == 0 then None else slice_get events (number - 1)

abbrev pub key_of : Kept → Key
key_of k = record { requester = k.request.requester; invoke = k.request.invoke }

abbrev pub is_kept_under : Key → Kept → Bool
is_kept_under k x = is_key k.requester k.invoke x.request

-- keys are compared as their type derives it
unfoldable pub same_key : Key → Key → Bool
same_key a b = (key.eq-value).it a b

-- the map has the place of the first record of each key, and no other key
abbrev pub HasPlaces : HashMap Key ℕ (BuildHasherDefault FoldHasher) → List Kept → Type 0
HasPlaces places kept = (k : Key) → get same_key places k ≡ position_from (is_kept_under k) 0 kept

-- the two maps have the same places
abbrev pub HasSamePlaces : HashMap Key ℕ (BuildHasherDefault FoldHasher) → HashMap Key ℕ (BuildHasherDefault FoldHasher) → Type 0
HasSamePlaces old new = (k : Key) → get same_key new k ≡ get same_key old k

-- the old map doesn't have the key, the new one has this place for it, and each other key has the same in both
pub record IsPlacedNew (old new : HashMap Key ℕ (BuildHasherDefault FoldHasher)) (new_key : Key) (place : ℕ) : Type 0 where
  pub unplaced : get same_key old new_key ≡ None
  pub placed : (k : Key) → get same_key new k ≡ (if same_key new_key k then Some place else get same_key old k)
