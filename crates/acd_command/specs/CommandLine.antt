-- The commands with their options, and the task that the words of a command line name.
use Rattle.std.specs.Prelude.{◌≡◌, ◌≢◌, ◌⊎◌, ◌<◌, ◌^◌, ◌*◌, ℕ, ◌∷◌, [], Bool, true, false, List, Option, Some, None, Result, IfOk, MatchOption, is_some, find, map, codes, option_map}
use Rattle.std.specs.Option.{option_map_or}
use Rattle.std.specs.Str.{bytes_eq}
use Rattle.std.specs.Str.Parse.{IsNumeral, digits_value, without_leading_plus}
use Rattle.std.specs.Borrow.{Bor}
use Rattle.clap.specs.Simple.{new_shape}
use Rattle.clap.specs.Words.{App, Row, Rule, Shape, Text, all_of, app_of, first_of, new_rule, one_of, rule_of, subcommand_of, takes, with_subcommand}
use Rattle.clap.specs.declared.builder.Arg.{Arg}
use Rattle.clap.specs.declared.builder.Command.{Command}
use Rattle.clap.specs.declared.builder.Command.TheViews.{out-Command as fields_of}
use Rattle.clap.specs.declared.builder.action.ArgAction.TheVariants.{Set, Append, SetTrue}
use Rattle.clap.specs.declared.builder.value_parser.ValueParser.TheVariants.{Unsigned}
use Rattle.clap.specs.declared.error.kind.ErrorKind.{ErrorKind}
use Rattle.clap.specs.declared.error.kind.ErrorKind.TheVariants.{OutOfMemory, DisplayHelp, DisplayVersion}
use Rattle.std.specs.Duration.{as_nanos}
use Rattle.std.specs.declared.time.Duration.{Duration}
use Rattle.acd_http.specs.declared.serving.Span.{Span}
use Rattle.acd_log.specs.declared.ending.Ending.TheVariants.{Plain}
use Rattle.acd_command.specs.declared.asked.Work.{Work}
use Rattle.acd_command.specs.declared.asked.Work.TheVariants as kind
use Rattle.acd_command.specs.declared.asked.Printout.TheVariants.{Report, Export}
use Rattle.acd_command.specs.declared.asked.Address.{Address}
use Rattle.acd_command.specs.declared.asked.Address.TheVariants.{Port, Socket}
use Rattle.acd_command.specs.declared.asked.Retention.{Retention}
use Rattle.acd_command.specs.declared.asked.Retention.TheVariants.{Days, Records}
use Rattle.acd_command.specs.declared.asked.Task.{Task}
use Rattle.acd_command.specs.declared.asked.Task.TheVariants.{Lines, Serve, Standby, Import, AuditWhole, AuditWithArchive, Prune, ExportWithArchives, Read}

-- help or the version was asked for
abbrev pub IsHelp : ErrorKind → Type 0
IsHelp kind = (kind ≡ DisplayHelp) ⊎ (kind ≡ DisplayVersion)

-- ---- the commands

-- an option with one value
abbrev pub option_rule : Text → Rule
option_rule name = record (new_rule name) { long = Some name; value_names = 1; action = Some Set }

-- the same, which may be given again
abbrev pub repeated : Rule → Rule
repeated rule = record rule { action = Some Append }

abbrev pub required : Rule → Rule
required rule = record rule { required = true }

-- one for a number from 1 on
abbrev pub number_rule : Text → ℕ → Rule
number_rule name most = record (option_rule name) { parser = Some (Unsigned 1 most) }

abbrev pub flag_rule : Text → Rule
flag_rule name = record (new_rule name) { long = Some name; action = Some SetTrue }

abbrev pub file_rule : Rule
file_rule = option_rule (codes "file")

abbrev pub with_rules : Text → List Rule → Shape
with_rules name rules = record (new_shape name) { rules = rules }

abbrev pub lines_shape : Shape
lines_shape = with_rules (codes "lines") (file_rule ∷ flag_rule (codes "reads") ∷ flag_rule (codes "end-on-store-fault") ∷ [])

abbrev pub serve_shape : Shape
serve_shape = with_rules (codes "serve")
    (required file_rule ∷ number_rule (codes "port") 65535 ∷ option_rule (codes "socket") ∷ number_rule (codes "connections") 1000000 ∷ flag_rule (codes "endless")
    ∷ number_rule (codes "tick") 3600 ∷ number_rule (codes "patience") 3600 ∷ [])

abbrev pub standby_shape : Shape
standby_shape = with_rules (codes "standby")
    (required file_rule ∷ number_rule (codes "port") 65535 ∷ option_rule (codes "socket") ∷ flag_rule (codes "endless") ∷ number_rule (codes "tick") 3600
    ∷ number_rule (codes "patience") 3600 ∷ [])

abbrev pub import_shape : Shape
import_shape = with_rules (codes "import") (required file_rule ∷ required (option_rule (codes "plan")) ∷ [])

abbrev pub report_shape : Shape
report_shape = with_rules (codes "report") (required file_rule ∷ [])

abbrev pub export_shape : Shape
export_shape = with_rules (codes "export") (required file_rule ∷ repeated (option_rule (codes "archive")) ∷ [])

abbrev pub audit_shape : Shape
audit_shape = with_rules (codes "audit")
    (required file_rule ∷ option_rule (codes "archive") ∷ flag_rule (codes "count") ∷ flag_rule (codes "whole") ∷ [])

abbrev pub prune_shape : Shape
prune_shape = with_rules (codes "prune")
    (required file_rule ∷ required (option_rule (codes "archive")) ∷ number_rule (codes "days") 36500 ∷ number_rule (codes "keep") 1000000000
    ∷ flag_rule (codes "quiet") ∷ [])

-- the program with its commands
abbrev pub acd : App
acd = record {
  top = record (new_shape (codes "acd")) { has_version = true; subcommand_required = true; is_leaf = false };
  subs = lines_shape ∷ serve_shape ∷ standby_shape ∷ import_shape ∷ report_shape ∷ export_shape ∷ audit_shape ∷ prune_shape ∷ [];
}

-- a parse reads just this of the command, and of the option
pub record HasApp (a : App) (c : Command) : Type 0 where
  pub app : app_of c ≡ a
  pub local : (fields_of c).has_globals ≡ false

pub record HasRule (r : Rule) (a : Arg) : Type 0 where
  pub rule : rule_of a ≡ r
  pub local : a.global ≡ false

-- ---- the task

-- the option was given, or it has a default
abbrev pub has_option : Text → List Row → Bool
has_option name options = is_some (find (λ (r : Row). bytes_eq r.id name) options)

-- the flag was given
abbrev pub is_given : Text → List Row → Bool
is_given name options = option_map_or (λ (text : Text). bytes_eq text (codes "true")) (one_of name options) false

-- so it was, or wasn't
abbrev pub IsFlag : Text → List Row → Bool → Type 0
IsFlag name options given = given ≡ is_given name options

-- the option has this text
abbrev pub IsOptionText : Text → List Row → Bor Text → Type 0
IsOptionText name options text = first_of name options ≡ Some text.now

-- the file, where one was given
abbrev pub IsFileIfGiven : List Row → Option (Bor Text) → Type 0
IsFileIfGiven options file = option_map (λ (f : Bor Text). f.now) file ≡ first_of (codes "file") options

-- the option was not given
abbrev pub IsNotGiven : Text → List Row → Type 0
IsNotGiven name options = first_of name options ≡ None

-- the option was given with these texts, in their order
abbrev pub AreOptionTexts : Text → List Row → Bor (List (Bor Text)) → Type 0
AreOptionTexts name options texts = all_of name options ≡ Some (map (λ (t : Bor Text). t.now) texts.now)

-- the option has a text that is this number, of so many bits at most
abbrev pub IsNumber : ℕ → Text → List Row → ℕ → Type 0
IsNumber bits name options n =
    (text : Text) × (one_of name options ≡ Some text) × IsNumeral 10 (without_leading_plus text) × (digits_value 10 (without_leading_plus text) ≡ n) × (n < 2 ^ bits)

-- the address of a port or, where a path is named, that of a socket: one of both was asked for
abbrev pub IsAddress : List Row → Address → Type 0
IsAddress options (Port n) = IsNumber 16 (codes "port") options n × IsNotGiven (codes "socket") options
IsAddress options (Socket path) = IsOptionText (codes "socket") options path × (has_option (codes "port") options ≡ false)

-- so many connections or, where none is named, no end of them: one of both was asked for
abbrev pub IsConnections : List Row → Option ℕ → Type 0
IsConnections options (Some n) = IsNumber 32 (codes "connections") options n × (is_given (codes "endless") options ≡ false)
IsConnections options None = (has_option (codes "connections") options ≡ false) × (is_given (codes "endless") options ≡ true)

-- the option has a text that is so many seconds, or it was not given
abbrev pub IsOptionSeconds : Text → List Row → Option Duration → Type 0
IsOptionSeconds name options (Some time) = (n : ℕ) × IsNumber 16 name options n × (as_nanos time ≡ n * 1000000000)
IsOptionSeconds name options None = has_option name options ≡ false

-- so many connections, a look each time that `--tick` names, and the patience that is asked for
abbrev pub IsSpan : List Row → Span → Type 0
IsSpan options span = IsConnections options span.connections × IsOptionSeconds (codes "tick") options span.step × IsOptionSeconds (codes "patience") options span.patience

-- no end is asked for by its word, a look each time that `--tick` names, and the patience that is asked for
abbrev pub IsEndless : List Row → Option Duration → Option Duration → Type 0
IsEndless options step patience = IsFlag (codes "endless") options true × IsOptionSeconds (codes "tick") options step × IsOptionSeconds (codes "patience") options patience

-- what a prune leaves, of so many days or so many records: one of both was asked for
abbrev pub IsRetention : List Row → Retention → Type 0
IsRetention options (Days n) = IsNumber 32 (codes "days") options n × (has_option (codes "keep") options ≡ false)
IsRetention options (Records n) = IsNumber 32 (codes "keep") options n × (has_option (codes "days") options ≡ false)

-- a prune by an archive: what stays, and whether nothing is printed if nothing goes
abbrev pub IsPruneBy : List Row → Bor Text → Retention → Bool → Type 0
IsPruneBy options archive retention quiet = IsOptionText (codes "archive") options archive × IsRetention options retention × IsFlag (codes "quiet") options quiet

-- the work that reads a file
abbrev pub IsWork : Text → List Row → Work → Type 0
IsWork command options (kind.Print Report) = command ≡ codes "report"
IsWork command options (kind.Print Export) = (command ≡ codes "export") × IsNotGiven (codes "archive") options
IsWork command options (kind.Audit counts ending) =
    (command ≡ codes "audit") × IsNotGiven (codes "archive") options × IsFlag (codes "count") options counts × IsFlag (codes "whole") options false × (ending ≡ Plain)
IsWork command options (kind.Import requests) = ⊥

-- the audit of a file, with a count or without, and with a look at its log or without
abbrev pub IsAuditOf : Text → List Row → Bor Text → Bool → Bool → Type 0
IsAuditOf command options file counts whole = (command ≡ codes "audit") × IsOptionText (codes "file") options file × IsFlag (codes "count") options counts × IsFlag (codes "whole") options whole

-- the task of a command with these options
abbrev pub IsTaskWith : Text → List Row → Task → Type 0
IsTaskWith command options (Lines file reads ends) =
    (command ≡ codes "lines") × IsFileIfGiven options file × IsFlag (codes "reads") options reads × IsFlag (codes "end-on-store-fault") options ends
IsTaskWith command options (Serve file address span) =
    (command ≡ codes "serve") × IsOptionText (codes "file") options file × IsAddress options address × IsSpan options span
IsTaskWith command options (Standby file address step patience) =
    (command ≡ codes "standby") × IsOptionText (codes "file") options file × IsAddress options address × IsEndless options step patience
IsTaskWith command options (Import file plan) = (command ≡ codes "import") × IsOptionText (codes "file") options file × IsOptionText (codes "plan") options plan
IsTaskWith command options (AuditWhole file counts) = IsAuditOf command options file counts true × IsNotGiven (codes "archive") options
IsTaskWith command options (AuditWithArchive file archive counts whole) = IsAuditOf command options file counts whole × IsOptionText (codes "archive") options archive
IsTaskWith command options (Prune file archive retention quiet) =
    (command ≡ codes "prune") × IsOptionText (codes "file") options file × IsPruneBy options archive retention quiet
IsTaskWith command options (ExportWithArchives file archives) =
    (command ≡ codes "export") × IsOptionText (codes "file") options file × AreOptionTexts (codes "archive") options archives
IsTaskWith command options (Read file work) = IsOptionText (codes "file") options file × IsWork command options work

abbrev pub IsTaskIn : Option (Text × List Row) → Task → Type 0
IsTaskIn None task = ⊥
IsTaskIn (Some matches) task = IsTaskWith matches.0 matches.1 task

-- the words, of which the first is the program's name, name the task
abbrev pub IsTaskOf : List Text → Task → Type 0
IsTaskOf words = IsTaskIn (subcommand_of acd words)

-- the words aren't a command line of the program
abbrev pub IsUntaken : List Text → Type 0
IsUntaken words = takes acd words ≢ true

-- they name no task
abbrev pub NamesNoTask : List Text → Type 0
NamesNoTask words = (task : Task) → ¬ IsTaskOf words task

-- they are refused: they aren't a command line of the program, or name no task
abbrev pub IsRefused : List Text → Type 0
IsRefused words = IsUntaken words ⊎ NamesNoTask words

-- ---- of a call

-- where a command and one to go below it were made, it is made of both
abbrev pub AddsCommand : {F : Type 0} → Result Command F → Result Command F → Result Command F → Type 0
AddsCommand command added result = (above below : App) → IfOk command (HasApp above) → IfOk added (HasApp below) → IfOk result (HasApp (with_subcommand above below.top))

-- the task of a command with these options was found, or there is none
abbrev pub FindsTask : Text → List Row → Option Task → Type 0
FindsTask command options found = MatchOption found ((task : Task) → ¬ IsTaskWith command options task) (IsTaskWith command options)

-- the same of what the words name
abbrev pub FindsTaskIn : Option (Text × List Row) → Option Task → Type 0
FindsTaskIn matches found = MatchOption found ((task : Task) → ¬ IsTaskIn matches task) (IsTaskIn matches)

-- and of what a prune leaves
abbrev pub FindsRetention : List Row → Option Retention → Type 0
FindsRetention options found = MatchOption found ((retention : Retention) → ¬ IsRetention options retention) (IsRetention options)

-- and of an address, of how many connections are asked for, of a time, and of all that says how long a service lasts and waits
abbrev pub FindsAddress : List Row → Option Address → Type 0
FindsAddress options found = MatchOption found ((address : Address) → ¬ IsAddress options address) (IsAddress options)

abbrev pub FindsConnections : List Row → Option (Option ℕ) → Type 0
FindsConnections options found = MatchOption found ((many : Option ℕ) → ¬ IsConnections options many) (IsConnections options)

abbrev pub FindsSeconds : Text → List Row → Option (Option Duration) → Type 0
FindsSeconds name options found = MatchOption found ((time : Option Duration) → ¬ IsOptionSeconds name options time) (IsOptionSeconds name options)

abbrev pub FindsSpan : List Row → Option Span → Type 0
FindsSpan options found = MatchOption found ((span : Span) → ¬ IsSpan options span) (IsSpan options)

-- there is no task, with an error of this kind: there was no memory; or the words aren't a command line, as where help is asked for; or they name no task
abbrev pub IsRefusedBy : List Text → ErrorKind → Type 0
IsRefusedBy words kind = (kind ≡ OutOfMemory) ⊎ (IsUntaken words ⊎ ((¬ IsHelp kind) × NamesNoTask words))
