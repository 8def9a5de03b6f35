-- Requests that compare equal are equal.
use Rattle.std.proofs.Common.{◌≡◌, ℕ, true, List, sym, ap, ◌∙◌, eqb-true}
use Rattle.std.specs.Cmp.Lexicographic.{same_text}
use Rattle.acd_terms.specs.declared.command.Command.{Command}
use Rattle.acd_terms.specs.declared.command.Request.{Request}
use Rattle.acd_desk.specs.Contents.Replies.{same_request}
use Rattle.acd_lemmas.proofs.EqualParts.{two}
use Rattle.acd_lemmas.proofs.SameCommands.{same_command}

joined : (a b : Request) → a.requester ≡ b.requester → a.invoke ≡ b.invoke → a.command ≡ b.command → a ≡ b
joined a b e1 e2 e3 =
    let whole : List ℕ → ℕ → Command → Request = λ r i c. record { requester = r; invoke = i; command = c } in
    ap (λ (r : List ℕ). whole r a.invoke a.command) e1 ∙ ap (λ (i : ℕ). whole b.requester i a.command) e2 ∙ ap (λ (c : Command). whole b.requester b.invoke c) e3

pub same_true : (a b : Request) → same_request a b ≡ true → a ≡ b
unfolding same_request
same_true a b h =
    let first = two h in
    let rest = two first.1 in
    joined a b (same_text a.requester b.requester (sym first.0)) (eqb-true a.invoke b.invoke rest.0) (same_command a.command b.command rest.1)
