-- The answer of an audit of a content.
use Rattle.std.specs.Prelude.{◌≡◌, ◌⊎◌, ℕ, ◌+◌, ◌<◌, ◌≤◌, true, length, take, Result, IfOk}
use Rattle.acd_terms.specs.Limits.{limits_fit}
use Rattle.acd_book.specs.Content.{Content}
use Rattle.acd_book.specs.Order.{IsOrdered}
use Rattle.acd_book.specs.State.{BookState, IfHonest}
use Rattle.acd_desk.specs.declared.audit.Audit.{Audit}
use Rattle.acd_desk.specs.declared.audit.Audit.TheVariants.{Sound, Differs}
use Rattle.acd_desk.specs.declared.fault.DeskFault.{DeskFault}
use Rattle.acd_desk.specs.Contents.AbstractDesk.{desk_run}
use Rattle.acd_desk.specs.Contents.SoundContent.{arrivals_of, IsSound}

-- the first n kept requests run again, each at the moment that its record holds
abbrev pub replayed : Content → ℕ → Content
replayed c n = desk_run c.rows.limits (arrivals_of (take n c.kept))

-- the limits fit, and that run keeps the first n records, and reports a beginning of the events
pub record Agrees (c : Content) (n : ℕ) : Type 0 where
  pub fits : limits_fit c.rows.limits ≡ true
  pub kept : (replayed c n).kept ≡ take n c.kept
  pub events : (replayed c n).events ≡ take (length (replayed c n).events) c.events

-- each place before this one agrees
abbrev pub AgreesBefore : Content → ℕ → Type 0
AgreesBefore c n = (m : ℕ) → 1 ≤ m → m < n → Agrees c m

-- the first place of the kept list that differs, or the one after the list where only the rest does
pub record IsFirstDifference (c : Content) (n : ℕ) : Type 0 where
  pub place : 1 ≤ n
  pub before : AgreesBefore c n
  pub differs : ((n ≤ length c.kept) × (¬ Agrees c n)) ⊎ ((n ≡ length c.kept + 1) × (¬ IsSound c))

abbrev pub IsAudit : Content → Audit → Type 0
IsAudit c Sound = IsSound c
IsAudit c (Differs n) = IsFirstDifference c n

-- an answer is the audit of an open book's content, where its records are in order
abbrev pub IsAudited : BookState → BookState → Result Audit DeskFault → Type 0
IsAudited old new result = IfHonest old new (IfOk result (λ (found : Audit). old.is_open × (IsOrdered old.content → IsAudit old.content found)))

-- the audit finds a sound content sound
abbrev pub FindsSound : BookState → BookState → Result Audit DeskFault → Type 0
FindsSound old new result = IfHonest old new (IsSound old.content → IfOk result (λ (found : Audit). found ≡ Sound))
