-- The finding of an audit of a desk.
use Rattle.std.specs.Prelude.{◌≡◌, ℕ, Bool, true, false, ⊤, List, ◌∷◌, [], ◌++◌, length, codes, decimal, if◌then◌else◌, Result, IfOk}
use Rattle.acd_book.specs.Content.{Content}
use Rattle.acd_book.specs.Order.{IsOrdered}
use Rattle.acd_book.specs.State.{IfHonest}
use Rattle.acd_book.specs.declared.book.Book.{Ghosts}
use Rattle.acd_desk.specs.Audits.Audit.{IsFirstDifference}
use Rattle.acd_desk.specs.declared.desk.Desk.{Desk}
use Rattle.acd_desk.specs.Desks.DeskState.{DeskState, InStep, state_of}
use Rattle.acd_desk.specs.Contents.SoundContent.{IsSound}
use Rattle.acd_log.specs.declared.ending.Ending.{Ending}
use Rattle.acd_log.specs.declared.ending.Ending.TheVariants.{Plain, Early, Headless}
use Rattle.acd_program.specs.declared.auditing.Finding.{Finding}
use Rattle.acd_program.specs.declared.auditing.Finding.TheVariants.{Sound, Counted, SentAgain, SentAgainCounted, Differs}
use Rattle.acd_program.specs.declared.outcome.Cut.{Cut}
use Rattle.acd_program.specs.declared.outcome.Pruning.{Pruning}
use Rattle.acd_program.specs.declared.outcome.Pruning.TheVariants as prune
use Rattle.acd_sessions.specs.Output.{number_text, number_line}

-- it is the audit of a content that is in order; a desk that is in step with it counts its kept records. Without an archive it is not known which request was sent again
abbrev pub IsFinding : DeskState → Finding → Type 0
IsFinding s Sound = IsOrdered s.book.content → IsSound s.book.content
IsFinding s (Counted count) = IsOrdered s.book.content → IsSound s.book.content × (InStep s → count ≡ length s.book.content.kept)
IsFinding s (SentAgain stamp) = ⊥
IsFinding s (SentAgainCounted stamp count) = ⊥
IsFinding s (Differs place) = IsOrdered s.book.content → IsFirstDifference s.book.content place

-- an audit of a desk finds it
abbrev pub AuditsDesk : {B F : Type 0} → Ghosts B → Desk B → Desk B → Result Finding F → Type 0
AuditsDesk book old new result = IfHonest (state_of book old).book (state_of book new).book (IfOk result (λ (found : Finding). IsFinding (state_of book old) found))

-- the content is sound, with so many kept records; or it isn't, and this is the first difference
abbrev pub IsFindingOf : Content → Finding → Type 0
IsFindingOf c Sound = IsSound c
IsFindingOf c (Counted count) = IsSound c × (count ≡ length c.kept)
IsFindingOf c (SentAgain stamp) = ⊥
IsFindingOf c (SentAgainCounted stamp count) = ⊥
IsFindingOf c (Differs place) = IsFirstDifference c place × (¬ IsSound c)

-- a sound content has a count where one is asked for
abbrev pub HasCount : Bool → Finding → Type 0
HasCount counts Sound = counts ≡ false
HasCount counts (Counted count) = counts ≡ true
HasCount counts (SentAgain stamp) = counts ≡ false
HasCount counts (SentAgainCounted stamp count) = counts ≡ true
HasCount counts (Differs place) = ⊤

-- the line of a sound content, by how the log of its file ended
abbrev pub sound_line : Ending → List ℕ
sound_line Plain = codes "sound\n"
sound_line Early = codes "sound, but its log ends early\n"
sound_line Headless = codes "sound, but the head of its log can't be read\n"

-- the line of a content that is sound but for a request that was sent again; a log that ends early comes first
abbrev pub again_line : Ending → ℕ → List ℕ
again_line Plain stamp = number_text (codes "sound, but request ") stamp (codes " was sent again\n")
again_line Early stamp = sound_line Early
again_line Headless stamp = sound_line Headless

-- as it is printed
abbrev pub finding_line : Ending → Finding → List ℕ
finding_line ending Sound = sound_line ending
finding_line ending (Counted count) = sound_line ending ++ (codes "executed " ++ (decimal count ++ 10 ∷ []))
finding_line ending (SentAgain stamp) = again_line ending stamp
finding_line ending (SentAgainCounted stamp count) = again_line ending stamp ++ (codes "executed " ++ (decimal count ++ 10 ∷ []))
finding_line ending (Differs place) = codes "differs at request " ++ (decimal place ++ 10 ∷ [])

-- the lines of a sound content of which so many requests were executed
abbrev pub counted_line : Ending → ℕ → List ℕ
counted_line ending count = finding_line ending (Counted count)

-- and of one that is sound but for a request that was sent again
abbrev pub again_counted_line : Ending → ℕ → ℕ → List ℕ
again_counted_line ending stamp count = finding_line ending (SentAgainCounted stamp count)

-- ---- of a prune

-- the line of one that went so far
abbrev pub cut_line : Cut → List ℕ
cut_line cut = if cut.is_part then number_text (codes "pruned up to request ") cut.stamp (codes ", more to go\n") else number_line (codes "pruned up to request ") cut.stamp

-- of one that found nothing to prune; a quiet one says nothing
abbrev pub nothing_line : Bool → List ℕ
nothing_line true = []
nothing_line false = codes "nothing to prune\n"

-- and of any: where an audit refused it, that is the line of the audit
abbrev pub pruning_line : Bool → Pruning → List ℕ
pruning_line quiet (prune.Refused found ending) = finding_line ending found
pruning_line quiet prune.Nothing = nothing_line quiet
pruning_line quiet (prune.UpTo cut) = cut_line cut
