-- What a book remembers beside its database.
use Rattle.std.specs.Prelude.{◌≡◌, [], None}
use Rattle.acd_book.specs.Content.{Content}
use Rattle.acd_book.specs.State.{BookState}
use Rattle.acd_sqlbook.specs.RecordsAhead.{IsAhead}
use Rattle.acd_sqlbook.specs.Counters.{AreCounters}
use Rattle.acd_sqlbook.specs.EventIndex.{IsIndexOf}
use Rattle.acd_sqlbook.specs.declared.cache.Cache.{Cache}

-- nothing is remembered
pub record IsBlank (n : Cache) : Type 0 where
  pub index : n.index ≡ None
  pub ahead : n.ahead.records.items ≡ []
  pub counters : n.counters ≡ None

-- what is remembered is of this content
pub record AreOf (n : Cache) (c : Content) : Type 0 where
  pub index : IsIndexOf n.index c.events
  pub ahead : IsAhead n.ahead c.kept
  pub counters : AreCounters n.counters c

-- its tables are as they were made, and what is remembered is of the content that it holds
abbrev pub SoundWith : Cache → BookState → Type 0
SoundWith n b = b.is_sound × (b.is_open → AreOf n b.content)

-- a book with what is remembered of it
abbrev pub followed : Cache → BookState → BookState
followed n b = record b { is_sound = SoundWith n b }
