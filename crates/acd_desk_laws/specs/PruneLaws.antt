-- Laws of a content whose oldest records are taken away.
use Rattle.std.specs.Prelude.{◌≡◌, ℕ}
use Rattle.acd_book.specs.Content.{Content}
use Rattle.acd_book.specs.PrunedContent.{pruned}
use Rattle.acd_desk.specs.Contents.SoundContent.{IsSound}
use Rattle.acd_desk.specs.Contents.CarriedContent.{Archive, together, joined}
use Rattle.acd_desk.specs.Contents.WithArchive.{IsSoundWith, IsLedFrom}
use Rattle.acd_desk.specs.Audits.AuditWith.{StandsInTime, HoldsArchive, IsSentAgain}
use Rattle.acd_desk.specs.Contents.Pruning.{IsGone, IsPlace, StaysLed}

-- a content that its newer requests make of the carried part begins with the archive's last records
abbrev pub LedHoldsArchive : Type 0
LedHoldsArchive = (a c : Content) → IsLedFrom a c → HoldsArchive a c

-- nothing is gone but what the archive has
abbrev pub PruneLosesNothing : Type 0
PruneLosesNothing = (a c : Content) (stamp number : ℕ) → StandsInTime a → IsPlace a stamp number → HoldsArchive a c → (gone : Archive) × IsGone a c (pruned stamp number c) gone

-- an audit with the archive that found the content sound finds it sound afterwards
abbrev pub PruneStaysSound : Type 0
PruneStaysSound = (a c : Content) (stamp number : ℕ) → StandsInTime a → IsPlace a stamp number → IsSoundWith a c → IsSoundWith a (pruned stamp number c)

abbrev pub PruneStaysLed : Type 0
PruneStaysLed = (a c : Content) (stamp number : ℕ) (led : IsLedFrom a c) → StandsInTime a → IsPlace a stamp number → StaysLed a c (pruned stamp number c) led

-- so an audit that found this request sent again finds the same one afterwards
abbrev pub PruneStaysSentAgain : Type 0
PruneStaysSentAgain = (a c : Content) (stamp number n : ℕ) → StandsInTime a → IsPlace a stamp number → IsSentAgain a c n → IsSentAgain a (pruned stamp number c) n

-- with older records before it, what is left with the part that is gone before it is all that was there: it is sound where that was
pub record IsCarriedFurther (p gone : Archive) (old new : Content) : Type 0 where
  pub content : together p old ≡ together (joined p gone) new
  pub sound : IsSound (together p old) → IsSound (together (joined p gone) new)

abbrev pub PruneCarriesFurther : Type 0
PruneCarriesFurther = (p : Archive) (a old new : Content) (gone : Archive) → IsGone a old new gone → IsCarriedFurther p gone old new
