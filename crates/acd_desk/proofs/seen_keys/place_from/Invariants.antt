use Rattle.std.proofs.Common.{◌≡◌, ◌<◌, ◌^◌, drop}
use Rattle.acd_desk.specs.Contents.KeyPlaces.{place_from}
use Rattle.acd_desk.proofs.seen_keys.place_from.Given as goal

abbrev pub invariant-loop-byte : goal.invariant-loop-byte
invariant-loop-byte l = record {
  same : place_from l.place (drop l.byte-index l.characters) ≡ place_from l.start l.characters;
  small : l.place < 2 ^ 32;
}
