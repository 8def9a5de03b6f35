use Rattle.std.proofs.Common.{option_map, sym, ap, ◌∙◌}
use Rattle.acd_lines.proofs.Moments.{moment_none, moment_split}
use Rattle.acd_lines.proofs.moment.moment_of.Goals as goal

pub returns-in_err-front : goal.returns-in_err-front
returns-in_err-front c = rw c.from_residual.ensures (sym (moment_none c.args.text.now c.in_err-front.ensures))

pub returns-in_err-moment : goal.returns-in_err-moment
returns-in_err-moment c =
    let split = c.in_ok-front.ensures in
    let none = sym c.moment_of_digits.ensures ∙ c.in_err-moment.was in
    rw c.from_residual-in_err-moment.ensures (sym (moment_split c.args.text.now c.in_ok-front.front.now c.in_ok-front.json.now split.0 split.1 ∙ ap (option_map (λ n. (n, c.in_ok-front.json.now))) none))

pub returns : goal.returns
returns c =
    let split = c.in_ok-front.ensures in
    let some = sym c.moment_of_digits.ensures ∙ c.in_ok-moment.was in
    sym (moment_split c.args.text.now c.in_ok-front.front.now c.in_ok-front.json.now split.0 split.1 ∙ ap (option_map (λ n. (n, c.in_ok-front.json.now))) some)
