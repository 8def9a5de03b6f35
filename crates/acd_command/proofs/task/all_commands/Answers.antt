use Rattle.std.proofs.Common.{true, [], codes, ap, ◌∙◌}
use Rattle.clap.specs.Simple.{app_of_fields, new_shape, on_top}
use Rattle.clap.specs.Words.{App, Shape, with_subcommand}
use Rattle.clap.specs.declared.builder.Command.{Command}
use Rattle.clap.specs.declared.builder.command.Command.TheOpen.{Command-F}
use Rattle.acd_command.specs.CommandLine.{HasApp, lines_shape, serve_shape, standby_shape, import_shape, report_shape, export_shape, audit_shape, prune_shape}
use Rattle.acd_command.proofs.task.all_commands.Goals as goal

abbrev alone : Shape → App
alone s = record { top = s; subs = [] }

abbrev none : App
none = alone (record (new_shape (codes "acd")) { has_version = true; subcommand_required = true })

abbrev one : App
one = with_subcommand none lines_shape

abbrev two : App
two = with_subcommand one serve_shape

abbrev three : App
three = with_subcommand two standby_shape

abbrev four : App
four = with_subcommand three import_shape

abbrev five : App
five = with_subcommand four report_shape

abbrev six : App
six = with_subcommand five export_shape

abbrev seven : App
seven = with_subcommand six audit_shape

abbrev needs : Command-F Command → Command-F Command
needs f = record f { subcommand_required = true }

pub returns : goal.returns
returns c =
    let begun : HasApp none c.subcommand_required-acd.result = record {
      app = ap app_of_fields c.subcommand_required-acd.ensures
          ∙ ap (λ (f : Command-F Command). app_of_fields (needs f)) c.about.ensures
          ∙ ap (λ (f : Command-F Command). app_of_fields (needs f)) c.version.ensures
          ∙ ap (on_top (λ (s : Shape). record s { has_version = true; subcommand_required = true })) c.new.ensures.app;
      local = ap (λ (f : Command-F Command). f.has_globals) c.subcommand_required-acd.ensures
          ∙ ap (λ (f : Command-F Command). f.has_globals) c.about.ensures
          ∙ ap (λ (f : Command-F Command). f.has_globals) c.version.ensures
          ∙ c.new.ensures.local;
    } in
    let first = c.with-acd.ensures none (alone lines_shape) begun c.lines_command.ensures in
    let second = c.with-acd-2.ensures one (alone serve_shape) first c.serve_command.ensures in
    let third = c.with-acd-3.ensures two (alone standby_shape) second c.standby_command.ensures in
    let fourth = c.with-acd-4.ensures three (alone import_shape) third c.import_command.ensures in
    let fifth = c.with-acd-5.ensures four (alone report_shape) fourth c.report_command.ensures in
    let sixth = c.with-acd-6.ensures five (alone export_shape) fifth c.export_command.ensures in
    let seventh = c.with-acd-7.ensures six (alone audit_shape) sixth c.audit_command.ensures in
    c.with.ensures seven (alone prune_shape) seventh c.prune_command.ensures
