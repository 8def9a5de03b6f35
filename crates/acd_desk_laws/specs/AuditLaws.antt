-- Laws of the audit of a content.
use Rattle.std.specs.Prelude.{◌≡◌, ℕ, ◌≤◌, length}
use Rattle.acd_book.specs.Content.{Content}
use Rattle.acd_book.specs.Order.{IsOrdered}
use Rattle.acd_desk.specs.declared.audit.Audit.{Audit}
use Rattle.acd_desk.specs.Contents.SoundContent.{IsSound}
use Rattle.acd_desk.specs.Audits.Audit.{Agrees, IsAudit}

-- no content has two audits, so that of a sound one is Sound, and no other has that
abbrev pub HasOneAudit : Type 0
HasOneAudit = (c : Content) (a b : Audit) → IsAudit c a → IsAudit c b → a ≡ b

-- a sound content is in order
abbrev pub SoundIsOrdered : Type 0
SoundIsOrdered = (c : Content) → IsSound c → IsOrdered c

-- each place of a sound content agrees
abbrev pub SoundAgrees : Type 0
SoundAgrees = (c : Content) (n : ℕ) → IsSound c → n ≤ length c.kept → Agrees c n
