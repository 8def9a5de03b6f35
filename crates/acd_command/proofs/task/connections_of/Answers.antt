use Rattle.std.proofs.Common.{rules, codes, sym, true≢false, ◌∙◌}
use Rattle.clap.specs.Matches.{found_of}
use Rattle.clap.specs.Words.{rows_of}
use Rattle.acd_command.proofs.CommandLines.{no_connections, number_read, number_unread, option_read, unnumbered}
use Rattle.acd_files.proofs.Ends.{match_none}
use Rattle.acd_command.proofs.task.connections_of.Goals as goal

pub returns-then-endless : goal.returns-then-endless
returns-then-endless c = (option_read (found_of c.args.options.now) (codes "connections") c.contains_id.result c.contains_id.ensures ∙ c.if-not-contains_id.true, sym c.is_given-endless.ensures ∙ c.if-endless.true)

pub returns-else-endless : goal.returns-else-endless
returns-else-endless c =
    let none = option_read (found_of c.args.options.now) (codes "connections") c.contains_id.result c.contains_id.ensures ∙ c.if-not-contains_id.true in
    no_connections (rows_of (found_of c.args.options.now)) (λ n number given. unnumbered 32 (codes "connections") (rows_of (found_of c.args.options.now)) n none number)
    (λ has given. true≢false (sym given ∙ sym c.is_given-endless.ensures ∙ c.if-endless.false))

pub returns-then-endless-2 : goal.returns-then-endless-2
returns-then-endless-2 c =
    let has = option_read (found_of c.args.options.now) (codes "connections") c.contains_id.result c.contains_id.ensures ∙ c.if-not-contains_id.false in
    no_connections (rows_of (found_of c.args.options.now)) (λ n number given. true≢false (sym c.if-endless-2.true ∙ c.is_given-endless.ensures ∙ given)) (λ none given. true≢false (sym has ∙ none))

pub returns-in_err-get_one : goal.returns-in_err-get_one
returns-in_err-get_one c =
    let has = option_read (found_of c.args.options.now) (codes "connections") c.contains_id.result c.contains_id.ensures ∙ c.if-not-contains_id.false in
    match_none c.from_residual.result _ _ (search rules)
    (no_connections (rows_of (found_of c.args.options.now)) (λ n number given. number_unread 32 (found_of c.args.options.now) (codes "connections") (λ t e. (c.in_err-get_one.ensures.value t e).1.0) n number)
    (λ none given. true≢false (sym has ∙ none)))

pub returns : goal.returns
returns c = (
  number_read 32 (found_of c.args.options.now) (codes "connections") c.in_ok-get_one.field-0 c.in_ok-get_one.ensures.none (λ t e. (c.in_ok-get_one.ensures.value t e).0),
  sym c.is_given-endless.ensures ∙ c.if-endless-2.false,
)
