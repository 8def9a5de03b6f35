use Rattle.std.proofs.Common.{rules, None, codes, sym, true≢false, ◌∙◌}
use Rattle.clap.specs.Matches.{found_of}
use Rattle.clap.specs.Words.{rows_of}
use Rattle.acd_command.proofs.CommandLines.{no_address, number_read, number_unread, option_read, some_text, text_read, value_read}
use Rattle.acd_files.proofs.Ends.{match_none}
use Rattle.acd_command.proofs.task.address_of.Goals as goal

pub returns-in_ok-get_one-in-None : goal.returns-in_ok-get_one-in-None
returns-in_ok-get_one-in-None c =
    let f = found_of c.args.options.now in
    (number_read 16 f (codes "port") c.in_ok-get_one-in-None.field-0 c.in_ok-get_one-in-None.ensures.none (λ t e. (c.in_ok-get_one-in-None.ensures.value t e).0), value_read f (codes "socket") None c.in-None.ensures)

pub returns-in_err-get_one-in-None : goal.returns-in_err-get_one-in-None
returns-in_err-get_one-in-None c =
    let f = found_of c.args.options.now in
    match_none c.from_residual.result _ _ (search rules)
    (no_address (rows_of f) (λ n number none. number_unread 16 f (codes "port") (λ t e. (c.in_err-get_one-in-None.ensures.value t e).1.0) n number)
    (λ path text none. some_text (rows_of f) (codes "socket") path (value_read f (codes "socket") None c.in-None.ensures) text))

pub returns-then-contains_id : goal.returns-then-contains_id
returns-then-contains_id c =
    let f = found_of c.args.options.now in
    let has = option_read f (codes "port") c.contains_id.result c.contains_id.ensures ∙ c.if-contains_id.true in
    no_address (rows_of f) (λ n number none. some_text (rows_of f) (codes "socket") c.in-Some.path none (text_read f (codes "socket") c.in-Some.path c.in-Some.ensures))
    (λ path text none. true≢false (sym has ∙ none))

pub returns-else-contains_id : goal.returns-else-contains_id
returns-else-contains_id c =
    let f = found_of c.args.options.now in
    (text_read f (codes "socket") c.in-Some.path c.in-Some.ensures, option_read f (codes "port") c.contains_id.result c.contains_id.ensures ∙ c.if-contains_id.false)
