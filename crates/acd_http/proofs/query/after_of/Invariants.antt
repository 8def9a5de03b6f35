use Rattle.std.proofs.Common.{◌≡◌, length}
use Rattle.form_urlencoded.specs.Parse.{raw_pairs_left}
use Rattle.acd_http.specs.Query.{after_from, after_of}
use Rattle.acd_http.proofs.query.after_of.Given as goal

abbrev pub invariant-loop-name : goal.invariant-loop-name
invariant-loop-name l = after_from l.found (raw_pairs_left l.pairs) ≡ after_of l.query

abbrev pub decreases-loop-name : goal.decreases-loop-name
decreases-loop-name l = length (raw_pairs_left l.pairs)
