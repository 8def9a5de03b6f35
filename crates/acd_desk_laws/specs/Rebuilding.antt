-- A run rebuilt from pages of executed requests.
use Rattle.std.specs.Prelude.{◌≡◌, ◌⊎◌, ℕ, List, [], ◌∷◌, ◌++◌, length, drop}
use Rattle.acd_terms.specs.declared.rows.Limits.{Limits}
use Rattle.acd_terms.specs.declared.command.Arrival.{Arrival}
use Rattle.acd_book.specs.declared.kept.Kept.{Kept}
use Rattle.acd_book.specs.Content.{Content}
use Rattle.acd_desk.specs.Contents.AbstractDesk.{desk_run}
use Rattle.acd_desk.specs.Contents.SoundContent.{arrivals_of, IsSound, ran_after}
use Rattle.acd_desk.specs.Reads.ReadAnswers.{requests_page}

-- the stamp of the last request that was read, or 0 where none was
abbrev pub last_read : List Kept → ℕ
last_read [] = 0
last_read (k ∷ []) = k.stamp
last_read (_ ∷ k ∷ kept) = last_read (k ∷ kept)

-- pages that were read while the desk continued: each page is one of what the desk held then, from the stamp of the last request before
pub data IsReadInPages : Content → List Kept → Type 0 where
  nothing : (c : Content) → IsSound c → IsReadInPages c []
  page : (c : Content) (read : List Kept) (more : List Arrival) → IsReadInPages c read → IsReadInPages (ran_after c more) (read ++ requests_page (ran_after c more) (last_read read))

-- a further page is empty, or the last stamp that was read is the last one of all
abbrev pub IsAllRead : Content → List Kept → Type 0
IsAllRead c read = (requests_page c (last_read read) ≡ []) ⊎ (last_read read ≡ c.rows.last_stamp)

-- the result of these requests at their moments
abbrev pub made_of : Limits → List Kept → Content
made_of limits read = desk_run limits (arrivals_of read)

-- the pages make a beginning of the run
pub record Rebuilds (c : Content) (read : List Kept) : Type 0 where
  pub sound : IsSound (made_of c.rows.limits read)
  -- with the same stamps, moments and replies
  pub kept : (made_of c.rows.limits read).kept ≡ read
  -- from which the requests that weren't read lead on
  pub leads : c ≡ ran_after (made_of c.rows.limits read) (arrivals_of (drop (length read) c.kept))
  -- and where all were read, it is the whole
  pub whole : IsAllRead c read → made_of c.rows.limits read ≡ c

-- page by page, the reads of a sound content rebuild it
abbrev pub PagesRebuild : Type 0
PagesRebuild = (c : Content) (read : List Kept) → IsReadInPages c read → Rebuilds c read
