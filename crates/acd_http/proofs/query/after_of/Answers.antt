use Rattle.std.proofs.Common.{ap, sym, ◌∙◌}
use Rattle.form_urlencoded.specs.Parse.{raw_pairs_left}
use Rattle.acd_http.specs.Query.{after_from}
use Rattle.acd_http.proofs.query.after_of.Goals as goal

pub loop-name-preserved : goal.loop-name-preserved
unfolding after_from
loop-name-preserved c = ap (λ f. after_from f (raw_pairs_left c.next.new.self)) c.in_ok-found.ensures ∙ (sym (ap (after_from c.loop-name.found) c.in-Some.ensures.steps) ∙ c.loop-name.invariant)

pub returns : goal.returns
unfolding after_from
returns c = c.unwrap_or.ensures ∙ (sym (ap (after_from c.loop-name.found) c.in_default.ensures.steps.0) ∙ c.loop-name.invariant)
