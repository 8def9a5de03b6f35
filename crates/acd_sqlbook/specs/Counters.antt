-- The limits and the counters of its last commit, which a book holds.
use Rattle.std.specs.Prelude.{◌≡◌, Option, None, Some, ⊤}
use Rattle.acd_book.specs.Content.{Content}
use Rattle.acd_sql_columns.specs.Relations.{meta_of}
use Rattle.acd_sql_columns.specs.declared.meta.Meta.{Meta}

-- where any are held, they are those of this content
abbrev pub AreCounters : Option Meta → Content → Type 0
AreCounters None c = ⊤
AreCounters (Some m) c = m ≡ meta_of c.rows

-- it stops at this, on a content of which they are held
abbrev pub StopsOn : Option Meta → (Content → Type 0) → Content → Type 0
StopsOn held Stops c = AreCounters held c → Stops c
