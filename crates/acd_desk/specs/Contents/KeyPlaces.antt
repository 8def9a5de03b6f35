-- Places of keys.
use Rattle.std.specs.Prelude.{◌≡◌, ℕ, ◌+◌, ◌*◌, ◌%◌, Bool, true, List, slice_index_or}
use Rattle.std.specs.List.{fold}
use Rattle.acd_terms.specs.declared.command.Request.{Request}
use Rattle.acd_desk.specs.declared.seen_keys.SeenKeys.{SeenKeys}

-- characters go on from a number as its digits, and the lowest of all are kept
abbrev pub place_from : ℕ → List ℕ → ℕ
place_from start characters = fold (λ (place byte : ℕ). (place * 33 + byte) % 2097152) start characters

-- the place of a request's key
unfoldable pub place_of : Request → ℕ
place_of r = place_from r.invoke r.requester

-- it was seen, or there is no such place
abbrev pub is_seen_key : SeenKeys → Request → Bool
is_seen_key keys r = slice_index_or keys.places.items (place_of r) true

abbrev pub IsSeenKey : SeenKeys → Request → Type 0
IsSeenKey keys r = is_seen_key keys r ≡ true
