use Rattle.std.proofs.Common.{◌≡◌, ◌++◌, string_bytes, drop}
use Rattle.acd_desk.specs.Reads.RequestPages.{further_texts}
use Rattle.acd_desk.proofs.request_pages.put_further.Given as goal

abbrev pub invariant-loop-next : goal.invariant-loop-next
invariant-loop-next l = string_bytes l.page ++ further_texts (drop l.next-index l.kept) ≡ string_bytes l.initial.page ++ further_texts l.kept
