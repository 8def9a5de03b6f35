-- A book's content without its oldest records.
use Rattle.std.specs.Prelude.{⊤, ℕ, nat_lt, filter}
use Rattle.acd_terms.specs.declared.event.Event.{Event}
use Rattle.acd_book.specs.Content.{Content, Commit}
use Rattle.acd_book.specs.declared.kept.Kept.{Kept}

-- without the kept records up to a stamp and the events up to a number: all else is as it was, the counters too
abbrev pub pruned : ℕ → ℕ → Content → Content
pruned stamp number c = record c {
  events = filter (λ (e : Event). nat_lt number e.number) c.events;
  kept = filter (λ (k : Kept). nat_lt stamp k.stamp) c.kept;
}

-- a commit that takes them away, which follows any content
abbrev pub prune_by : ℕ → ℕ → Commit
prune_by stamp number = record { Follows = λ _. ⊤; after = pruned stamp number }
