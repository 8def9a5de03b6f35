-- The comparison of an archive and the content that continues it: what it finds.
use Rattle.std.specs.Prelude.{◌≡◌, ◌≢◌, ◌⊎◌, ℕ, ◌<◌, ◌≤◌, Bool, List, [], ◌∷◌, Option, Some, None, min}
use Rattle.std.specs.Bool.{Decides}
use Rattle.acd_terms.specs.declared.event.Event.{Event}
use Rattle.acd_book.specs.declared.kept.Kept.{Kept}
use Rattle.acd_book.specs.Content.{Content}
use Rattle.acd_book.specs.Memory.{stamp_of, number_of_event}
use Rattle.acd_book.specs.Order.{Rises, IsOrdered}
use Rattle.acd_terms.specs.Lists.{Every}
use Rattle.acd_desk.specs.declared.overlap.Cut.{Cut}
use Rattle.acd_desk.specs.declared.overlap.Next.{Next}
use Rattle.acd_desk.specs.declared.overlap.Pages.{Pages}
use Rattle.acd_desk.specs.declared.overlap.Next.TheVariants.{Same, Other, Over}
use Rattle.acd_desk.specs.Reads.Kinds.{Kind, page_above}
use Rattle.acd_desk.specs.Reads.Pages.{IsPage}
use Rattle.acd_book.specs.ListOverlap.{IsSplitAt, BeginsWithin, cut_before}
use Rattle.acd_desk.specs.Contents.WithArchive.{ComeBefore}
use Rattle.acd_desk.specs.Audits.AuditWith.{StandsInTime, HoldsArchive}

-- an archive and a content that are compared: both in order
pub record AreInOrder (a c : Content) : Type 0 where
  pub archive : StandsInTime a
  pub current : IsOrdered c

-- the last stamp and the last event number that were left in the archive, by the content's first ones
abbrev pub cut_stamp : Content → Content → ℕ
cut_stamp a c = cut_before stamp_of a.rows.last_stamp c.kept

abbrev pub cut_number : Content → Content → ℕ
cut_number a c = cut_before number_of_event a.rows.last_event c.events

-- the last place of a kind that was left in an archive, by a content in order and the archive's last place
abbrev pub IsCutAt : {T : Type 0} → Kind T → ℕ → Content → ℕ → Type 0
IsCutAt kind last c found = Rises kind.place 0 (kind.all c) → found ≡ cut_before kind.place last (kind.all c)

abbrev pub IsCutOf : Cut → Content → Cut → Type 0
IsCutOf last c cut = (cut.stamp ≡ cut_before stamp_of last.stamp c.kept) × (cut.number ≡ cut_before number_of_event last.number c.events)

-- the kept records, and the events, begin with the archive's above the cut
abbrev pub KeepsArchive : Content → Content → Type 0
KeepsArchive a c = BeginsWithin stamp_of (cut_stamp a c) a.rows.last_stamp a.kept c.kept

abbrev pub ReportsArchive : Content → Content → Type 0
ReportsArchive a c = BeginsWithin number_of_event (cut_number a c) a.rows.last_event a.events c.events

-- of two lists of one member at most: one has a first that the other hasn't, not above a last place where only the second list has one
abbrev pub Differ : {T : Type 0} → (T → ℕ) × ℕ → List T → List T → Type 0
Differ {T} at archived current =
    ((x : T) × (xs : List T) × (archived ≡ x ∷ xs) × (current ≢ archived)) ⊎ ((archived ≡ []) × (x : T) × (xs : List T) × (current ≡ x ∷ xs) × (at.0 x ≤ at.1))

-- of two such lists: the first of one is that of the other too; it isn't; or there is none, and none up to a last place in the other
abbrev pub IsNextOf : {T : Type 0} → (T → ℕ) × ℕ → List T → List T → Next → Type 0
IsNextOf {T} at archived current (Same place) = (x : T) × (xs : List T) × (ys : List T) × (archived ≡ x ∷ xs) × (current ≡ x ∷ ys) × (place ≡ at.0 x)
IsNextOf {T} at archived current (Other mark) = Differ at archived current
IsNextOf {T} at archived current Over = (archived ≡ []) × ((x : T) (xs : List T) → current ≡ x ∷ xs → at.1 < at.0 x)

-- pages of both
abbrev pub ArePagesOf : {T : Type 0} → Kind T → Content → Content → Pages T → Type 0
ArePagesOf kind a c pages = IsPage kind a pages.archive × IsPage kind c pages.current

-- what both have next above a place is read by pages of both, which stay pages of them
abbrev pub ReadsNext : {T : Type 0} → Kind T → Pages T × Pages T → ℕ → ℕ → Content → Content → Next → Type 0
ReadsNext kind pages above last a c found =
    ArePagesOf kind a c pages.0 → ArePagesOf kind a c pages.1 × IsNextOf (kind.place, last) (page_above kind above 1 a) (page_above kind above 1 c) found

-- a place where they differ, or none where they don't, of what is asked above a cut
abbrev pub IsOther : Type 0 → Option ℕ → Type 0
IsOther P None = P
IsOther P (Some place) = ¬ P

-- the same, at or below the last place
abbrev pub IsOtherUpTo : ℕ → Type 0 → Option ℕ → Type 0
IsOtherUpTo last P None = P
IsOtherUpTo last P (Some place) = (place ≤ last) × ¬ P

-- each event left in the archive comes before each record that was carried over
abbrev pub IsCleanCut : Content → ℕ → ℕ → Type 0
IsCleanCut a stamp number = (past carried : List Kept) (left reported : List Event)
    → IsSplitAt stamp_of stamp a.kept past carried → IsSplitAt number_of_event number a.events left reported → ComeBefore left carried

-- it is found whether the cut is clean, of an archive that stands in time
abbrev pub DecidesCleanCut : ℕ → ℕ → Content → Bool → Type 0
DecidesCleanCut stamp number a found = StandsInTime a → number ≤ a.rows.last_event → Decides found (IsCleanCut a stamp number)

-- the first event, where it has this number, is before a moment
abbrev pub IsBefore : List Event → ℕ → ℕ → Type 0
IsBefore [] number moment = Unit {0}
IsBefore (e ∷ es) number moment = e.number ≡ number → e.moment < moment

-- the archive's counters
pub record IsLast (a : Content) (last : Cut) : Type 0 where
  pub stamp : last.stamp ≡ a.rows.last_stamp
  pub number : last.number ≡ a.rows.last_event

-- the lesser of two places, where there is one: at most the last one
abbrev pub earlier : Option ℕ → Option ℕ → ℕ → Option ℕ
earlier None None last = None
earlier None (Some place) last = Some (min place last)
earlier (Some place) None last = Some (min place last)
earlier (Some place) (Some other) last = Some (min (min place other) last)

-- ---- where an archive and a content in order differ, from the cut up to the archive's last place

-- all of a kind is in order, the archive's up to a last place, and above is where it was cut
pub record StandAbove {T : Type 0} (kind : Kind T) (above last : ℕ) (a c : Content) : Type 0 where
  pub archive : Rises kind.place 0 (kind.all a)
  pub within : Every (λ (x : T). kind.place x ≤ last) (kind.all a)
  pub current : Rises kind.place 0 (kind.all c)
  pub cut : above ≡ cut_before kind.place last (kind.all c)

-- by one of a kind
abbrev pub FindsOther : {T : Type 0} → Kind T → ℕ → ℕ → Content → Content → Option ℕ → Type 0
FindsOther kind above last a c found = StandAbove kind above last a c → IsOther (BeginsWithin kind.place above last (kind.all a) (kind.all c)) found

-- by an event; or the cut left some events of the first carried record behind
abbrev pub FindsMoment : Cut → ℕ → Content → Content → Option ℕ → Type 0
FindsMoment cut last a c found =
    AreInOrder a c → last ≡ a.rows.last_event → cut.number ≡ cut_number a c → IsOther (IsCleanCut a cut.stamp cut.number × ReportsArchive a c) found

-- by either, above a cut
abbrev pub FindsAbove : Cut → Cut → Content → Content → Option ℕ → Type 0
FindsAbove cut last a c found =
    AreInOrder a c → IsLast a last → (cut.stamp ≡ cut_stamp a c) × (cut.number ≡ cut_number a c) → IsOtherUpTo last.stamp (HoldsArchive a c) found

-- by either
abbrev pub FindsPlace : Cut → Content → Content → Option ℕ → Type 0
FindsPlace last a c found = AreInOrder a c → IsLast a last → IsOtherUpTo last.stamp (HoldsArchive a c) found
