-- What a content keeps in an order: records by their stamps, events by their numbers.
use Rattle.std.specs.Prelude.{ℕ, List, [], ◌∷◌, take, filter, nat_lt, Option, Some, None}
use Rattle.std.specs.Borrow.{Bor}
use Rattle.acd_terms.specs.declared.event.Event.{Event}
use Rattle.acd_book.specs.declared.kept.Kept.{Kept}
use Rattle.acd_book.specs.Content.{Content}
use Rattle.acd_book.specs.Memory.{stamp_of, number_of_event}

-- the place of each of a kind in the order, and all that a content has of the kind
pub record Kind (T : Type 0) : Type 0 where
  pub place : T → ℕ
  pub all : Content → List T

abbrev pub by_stamp : Kind Kept
by_stamp = record { place = stamp_of; all = λ (c : Content). c.kept }

abbrev pub by_number : Kind Event
by_number = record { place = number_of_event; all = λ (c : Content). c.events }

-- those of a list above a place
abbrev pub all_above : {T : Type 0} → (T → ℕ) → ℕ → List T → List T
all_above {T} place above xs = filter (λ (x : T). nat_lt above (place x)) xs

-- the first of these, so many at most
abbrev pub first_above : {T : Type 0} → (T → ℕ) → ℕ → ℕ → List T → List T
first_above place above limit xs = take limit (all_above place above xs)

-- those of a content
abbrev pub page_above : {T : Type 0} → Kind T → ℕ → ℕ → Content → List T
page_above kind above limit c = first_above kind.place above limit (kind.all c)

-- a member that is lent, where there is one, as a list
abbrev pub listed : {T : Type 0} → Option (Bor T) → List T
listed None = []
listed (Some x) = x.now ∷ []
