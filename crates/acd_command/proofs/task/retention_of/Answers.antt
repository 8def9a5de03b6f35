use Rattle.std.proofs.Common.{rules, codes, sym, true≢false, ◌∙◌}
use Rattle.clap.specs.Matches.{found_of}
use Rattle.clap.specs.Words.{rows_of}
use Rattle.acd_command.proofs.CommandLines.{no_retention, number_read, number_unread, option_read, unnumbered}
use Rattle.acd_files.proofs.Ends.{match_none}
use Rattle.acd_command.proofs.task.retention_of.Goals as goal

pub returns-then-contains_id-2 : goal.returns-then-contains_id-2
returns-then-contains_id-2 c =
    let f = found_of c.args.options.now in
    let keep = option_read f (codes "keep") c.contains_id.result c.contains_id.ensures ∙ c.if-contains_id.true in
    let days = option_read f (codes "days") c.contains_id-then-contains_id.result c.contains_id-then-contains_id.ensures ∙ c.if-contains_id-2.true in
    no_retention (rows_of f) (λ n number none. true≢false (sym keep ∙ none)) (λ n number none. true≢false (sym days ∙ none))

pub returns-then-contains_id : goal.returns-then-contains_id
returns-then-contains_id c =
    let f = found_of c.args.options.now in (
      number_read 32 f (codes "keep") c.in_ok-get_one.field-0 c.in_ok-get_one.ensures.none (λ t e. (c.in_ok-get_one.ensures.value t e).0),
      option_read f (codes "days") c.contains_id-then-contains_id.result c.contains_id-then-contains_id.ensures ∙ c.if-contains_id-2.false,
    )

pub returns-in_err-get_one : goal.returns-in_err-get_one
returns-in_err-get_one c =
    let f = found_of c.args.options.now in
    let keep = option_read f (codes "keep") c.contains_id.result c.contains_id.ensures ∙ c.if-contains_id.true in
    match_none c.from_residual.result _ _ (search rules)
    (no_retention (rows_of f) (λ n number none. true≢false (sym keep ∙ none)) (λ n number none. number_unread 32 f (codes "keep") (λ t e. (c.in_err-get_one.ensures.value t e).1.0) n number))

pub returns : goal.returns
returns c =
    let f = found_of c.args.options.now in (
      number_read 32 f (codes "days") c.in_ok-get_one-2.field-0 c.in_ok-get_one-2.ensures.none (λ t e. (c.in_ok-get_one-2.ensures.value t e).0),
      option_read f (codes "keep") c.contains_id.result c.contains_id.ensures ∙ c.if-contains_id.false,
    )

pub returns-in_err-get_one-2 : goal.returns-in_err-get_one-2
returns-in_err-get_one-2 c =
    let f = found_of c.args.options.now in
    let keep = option_read f (codes "keep") c.contains_id.result c.contains_id.ensures ∙ c.if-contains_id.false in
    match_none c.from_residual-in_err-get_one-2.result _ _ (search rules)
    (no_retention (rows_of f) (λ n number none. number_unread 32 f (codes "days") (λ t e. (c.in_err-get_one-2.ensures.value t e).1.0) n number)
    (λ n number none. unnumbered 32 (codes "keep") (rows_of f) n keep number))
