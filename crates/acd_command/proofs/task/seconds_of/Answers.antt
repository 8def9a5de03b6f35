use Rattle.std.proofs.Common.{rules, ℕ, ◌*◌, ap, sym, true≢false, ◌∙◌}
use Rattle.clap.specs.Matches.{found_of}
use Rattle.clap.specs.Words.{rows_of}
use Rattle.acd_command.proofs.CommandLines.{no_seconds, number_read, number_unread, option_read}
use Rattle.acd_files.proofs.Ends.{match_none}
use Rattle.acd_command.proofs.task.seconds_of.Goals as goal

pub returns-then-not-contains_id : goal.returns-then-not-contains_id
returns-then-not-contains_id c = option_read (found_of c.args.options.now) c.args.name.now c.contains_id.result c.contains_id.ensures ∙ c.if-not-contains_id.true

pub returns-in_err-seconds : goal.returns-in_err-seconds
returns-in_err-seconds c =
    let f = found_of c.args.options.now in
    let has = option_read f c.args.name.now c.contains_id.result c.contains_id.ensures ∙ c.if-not-contains_id.false in
    match_none c.from_residual.result _ _ (search rules)
    (no_seconds c.args.name.now (rows_of f) (λ n number. number_unread 16 f c.args.name.now (λ t e. (c.in_err-seconds.ensures.value t e).1.0) n number) (λ none. true≢false (sym has ∙ none)))

pub returns : goal.returns
returns c = (
  c.in_ok-seconds.seconds,
  number_read 16 (found_of c.args.options.now) c.args.name.now c.in_ok-seconds.seconds c.in_ok-seconds.ensures.none (λ t e. (c.in_ok-seconds.ensures.value t e).0),
  c.from_secs.ensures ∙ ap (λ (k : ℕ). k * 1000000000) c.from.ensures,
)
