use Rattle.std.proofs.Common.{rules, ◌∙◌, sym, ap}
use Rattle.std.specs.Option.{option_copied}
use Rattle.acd_book.specs.Memory.{same_key}
use Rattle.acd_book.proofs.Places.{unkept, kept_at}
use Rattle.acd_book.proofs.replies.Replies.under.Goals as goal

pub returns-in_err-place : goal.returns-in_err-place
unfolding same_key
returns-in_err-place c =
    let s = c.args.self.now in
    ap option_copied c.from_residual.ensures
    ∙ sym (unkept s.places s.records.items c.args.requester.now c.args.invoke s.placed (sym c.get.ensures.value ∙ ap option_copied c.in_err-place.was))

pub returns : goal.returns
unfolding same_key
returns c =
    let s = c.args.self.now in
    let at =
    kept_at s.places s.records.items c.args.requester.now c.args.invoke c.in_ok-place.field-0.now s.placed
    (sym c.get.ensures.value ∙ ap option_copied c.in_ok-place.was) in
    search (rules, at)
