use Rattle.std.proofs.Common.{◌∙◌, ap, sym}
use Rattle.acd_terms.specs.declared.command.Request.{Request}
use Rattle.acd_desk.specs.Contents.Replies.{same_request}
use Rattle.acd_desk.proofs.Contents.Keys.{same_itself}
use Rattle.acd_desk.proofs.Contents.SameRequests.{same_true}
use Rattle.acd_desk.proofs.requests.is_same.Goals as goal

pub returns-clause-same : goal.returns-clause-same
unfolding same_request
returns-clause-same c = (
  (λ holds. same_true c.args.a.now c.args.b.now (sym c.eq.ensures ∙ holds)),
  (λ same. c.eq.ensures ∙ ap (λ (r : Request). same_request r c.args.b.now) same ∙ same_itself c.args.b.now),
)
