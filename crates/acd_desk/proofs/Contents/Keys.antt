-- Keys of requests, and when two requests are the same.
use Rattle.std.proofs.Common.{◌≡◌, true}
use Rattle.acd_terms.specs.declared.command.Request.{Request}
use Rattle.acd_terms.specs.contracts.command.RequestEq.TheImpl.Laws.{laws-law}
use Rattle.acd_desk.specs.Contents.Replies.{same_request}

-- a request is the same as itself
pub same_itself : (r : Request) → same_request r r ≡ true
unfolding same_request
same_itself r = laws-law.refl r
