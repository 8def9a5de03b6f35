-- Laws of a content that continues its archive.
use Rattle.acd_book.specs.Content.{Content}
use Rattle.acd_desk.specs.Contents.SoundContent.{arrivals_of, IsSound}
use Rattle.acd_desk.specs.Contents.CarriedContent.{Archive, together, joined, NoneSentAgain}
use Rattle.acd_desk.specs.Contents.WithArchive.{IsLedFrom, IsSoundWith}
use Rattle.acd_desk.specs.Audits.AuditWith.{StandsInTime}

-- a content that is sound with its archive is what its newer requests make of the carried part
abbrev pub SoundIsLed : Type 0
SoundIsLed = (a c : Content) → IsSoundWith a c → IsLedFrom a c

-- where none of these has a key that was left in the archive, the other way round too
abbrev pub LedIsSound : Type 0
LedIsSound = (a c : Content) (goes : IsLedFrom a c) → NoneSentAgain goes.left (arrivals_of goes.newer) → IsSoundWith a c

-- where the archive is sound, both together are
abbrev pub AuditsWithArchive : Type 0
AuditsWithArchive = (a c : Content) (goes : IsSoundWith a c) → IsSound a → IsSound (together goes.left c)

-- where it was itself carried over, and is sound with its archive, all three are, no request being sent again that this one has
abbrev pub AuditsLinkByLink : Type 0
AuditsLinkByLink = (p : Archive) (a c : Content) (goes : IsSoundWith a c) → IsSound (together p a) → NoneSentAgain p (arrivals_of goes.newer)
    → IsSound (together (joined p goes.left) c)

-- a content that is sound, by itself or with its archive, keeps to time
abbrev pub SoundStandsInTime : Type 0
SoundStandsInTime = (p : Archive) (a : Content) → IsSound (together p a) → StandsInTime a
