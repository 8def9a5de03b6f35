-- What was read ahead of a content.
use Rattle.std.specs.Prelude.{◌≡◌, ◌⊎◌, ℕ, ◌≤◌, ◌<◌, length, Vec}
use Rattle.acd_terms.specs.declared.event.Event.{Event}
use Rattle.acd_book.specs.Content.{Content, events_after}
use Rattle.acd_desk.specs.Reads.Kinds.{Kind, by_number, all_above, first_above, page_above}
use Rattle.acd_desk.specs.declared.page.Page.{Page}

-- a page of this content
abbrev pub IsPage : {T : Type 0} → Kind T → Content → Page T → Type 0
IsPage kind c p = p.items.items ≡ page_above kind p.above p.limit c

-- a page of its events
abbrev pub IsPageOf : Content → Page Event → Type 0
IsPageOf c p = IsPage by_number c p

-- the first above a place, so many, are on the page, or all that is left is
abbrev pub Reaches : {T : Type 0} → Kind T → Page T → ℕ → ℕ → Type 0
Reaches kind p above count = (p.above ≤ above) × ((length p.items.items < p.limit) ⊎ (count ≤ length (all_above kind.place above p.items.items)))

-- a page of this content that has the first above a place, so many
abbrev pub Has : {T : Type 0} → Kind T → Content → Page T → ℕ → ℕ → Type 0
Has kind c p above count = IsPage kind c p × (first_above kind.place above count p.items.items ≡ page_above kind above count c)

-- where the page is of the content, it comes to have them
abbrev pub Extends : {T : Type 0} → Kind T → Page T × Page T → ℕ → ℕ → Content → Unit {0} → Type 0
Extends kind pages above count c done = IsPage kind c pages.0 → Has kind c pages.1 above count

-- where the page is of the content, they are given, and it stays a page of the content
abbrev pub GivesEvents : {Z : Type 0} → Page Event → Page Event → ℕ → ℕ → Content → Vec Event Z → Type 0
GivesEvents old new number count c found = IsPageOf c old → (found.items ≡ events_after c.events number count) × IsPageOf c new
