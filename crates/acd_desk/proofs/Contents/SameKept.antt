-- Kept requests that compare equal are equal.
use Rattle.std.proofs.Common.{◌≡◌, Bool, sym, ap, ◌∙◌, true, eqb-true}
use Rattle.std.specs.Bool.{Decides}
use Rattle.acd_book.specs.declared.kept.Kept.{Kept}
use Rattle.acd_book.specs.contracts.kept.KeptPartialEq.TheImpl as kept
use Rattle.acd_book.specs.contracts.kept.KeptEq.TheImpl.Laws as kept_laws
use Rattle.acd_desk.specs.Contents.Replies.{same_request}
use Rattle.acd_lemmas.proofs.EqualParts.{two, numbers}
use Rattle.acd_desk.proofs.Contents.SameRequests.{same_true}

pub same_kept : (a b : Kept) → (kept.eq-value).it a b ≡ true → a ≡ b
unfolding same_request
same_kept a b h =
    let stamp = two h in
    let moment = two stamp.1 in
    let request = two moment.1 in
    let status = two request.1 in
    λ i. record {
      stamp = eqb-true a.stamp b.stamp stamp.0 i;
      moment = eqb-true a.moment b.moment moment.0 i;
      request = same_true a.request b.request request.0 i;
      status = eqb-true a.status b.status status.0 i;
      body = numbers a.body b.body status.1 i;
    }

pub kept_decided : (a b : Kept) (r : Bool) → r ≡ (kept.eq-value).it a b → Decides r (a ≡ b)
kept_decided a b r h = (λ holds. same_kept a b (sym h ∙ holds), λ same. h ∙ ap (λ (x : Kept). (kept.eq-value).it x b) same ∙ (kept_laws.laws-law).refl b)
