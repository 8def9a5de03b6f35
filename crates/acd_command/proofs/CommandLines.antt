-- The task read from the matches of a command line, and the commands that the builders make.
use Rattle.std.proofs.Common.{◌≡◌, ◌≢◌, ◌<◌, ◌^◌, ℕ, Bool, true, false, ◌||◌, List, Option, None, Some, Result, Ok, IfOk, inl, inr, refl, ap, ap₂, sym, subst, ◌∙◌, codes, true≢false}
use Rattle.std.specs.Prelude.{find, is_some, map, option_and_then, option_map, slice_get, unwrap_or}
use Rattle.std.specs.Option.{option_map_or}
use Rattle.std.specs.Borrow.{Bor}
use Rattle.std.specs.Str.{bytes_eq}
use Rattle.std.specs.Str.Parse.{IsNumeral, ParsesBool, digits_value, true_text, without_leading_plus}
use Rattle.std.proofs.lemmas.Slice.Eq.{bytes_eq-Decides}
use Rattle.std.specs.declared.time.Duration.{Duration}
use Rattle.clap.specs.Matches.{ReadsOne, first_value, matched_of, one_text, raw_values}
use Rattle.clap.specs.Built.{AddsArg, AddsSubcommand}
use Rattle.clap.specs.Walk.{row_text}
use Rattle.clap.specs.Words.{App, HasMatchesOf, Row, Rule, Text, app_of, first_of, is_simple, new_app, rows_of, rule_of, subcommand_of, subcommand_rows_of, takes, with_rule, with_subcommand}
use Rattle.clap.specs.declared.builder.Arg.{Arg}
use Rattle.clap.specs.declared.builder.Command.{Command}
use Rattle.clap.specs.declared.builder.command.Command.TheOpen.{Command-F}
use Rattle.clap.specs.declared.builder.Command.TheViews.{out-Command as fields_of}
use Rattle.clap.specs.Simple.{app_of_fields}
use Rattle.clap.specs.declared.error.kind.ErrorKind.{ErrorKind}
use Rattle.clap.specs.declared.error.kind.ErrorKind.TheVariants.{ArgumentConflict, MissingRequiredArgument, OutOfMemory}
use Rattle.clap.specs.declared.parser.matches.ArgMatches.{ArgMatches}
use Rattle.clap.specs.declared.parser.matches.Found.{Found}
use Rattle.clap.proofs.WalkLemmas.{first_value-rows, one_text-rows, raw_values-rows, find_row}
use Rattle.acd_http.specs.declared.serving.Span.{Span}
use Rattle.acd_log.specs.declared.ending.Ending.TheVariants.{Plain}
use Rattle.acd_command.specs.CommandLine.{HasApp, IsNotGiven, HasRule, IsAddress, IsConnections, IsNumber, IsRefusedBy, IsRetention, IsOptionSeconds, IsSpan, AreOptionTexts, IsTaskIn, IsTaskWith, IsOptionText, NamesNoTask, acd, has_option, is_given, required, IsHelp}
use Rattle.acd_command.specs.declared.asked.Address.{Address}
use Rattle.acd_command.specs.declared.asked.Address.TheVariants.{Port, Socket}
use Rattle.acd_command.specs.declared.asked.Retention.{Retention}
use Rattle.acd_command.specs.declared.asked.Retention.TheVariants.{Days, Records}
use Rattle.acd_command.specs.declared.asked.Task.{Task}
use Rattle.acd_command.specs.declared.asked.Task.TheVariants.{Lines, Serve, Standby, Import, AuditWhole, AuditWithArchive, Prune, ExportWithArchives, Read}
use Rattle.acd_command.specs.declared.asked.Printout.TheVariants.{Report, Export}
use Rattle.acd_command.specs.declared.asked.Work.TheVariants as kind

-- ---- commands

pub rule_required : (r : Rule) (a b : Arg) → HasRule r a → b ≡ record a { required = true } → HasRule (required r) b
rule_required r a b h e = record { rule = ap rule_of e ∙ ap required h.rule; local = ap (λ (x : Arg). x.global) e ∙ h.local }

-- texts are set, which no parse reads
pub app_begun : (name : Text) (new described helped : Command) (a h : Option (Bor Text)) → app_of new ≡ new_app name → (fields_of new).has_globals ≡ false → fields_of described ≡ record (fields_of new) { about = a }
    → fields_of helped ≡ record (fields_of described) { after_help = h } → HasApp (new_app name) helped
app_begun name new described helped a h is local describes helps = record {
  app = ap app_of_fields helps ∙ ap app_of_fields describes ∙ is;
  local = ap (λ (f : Command-F Command). f.has_globals) helps ∙ ap (λ (f : Command-F Command). f.has_globals) describes ∙ local;
}

pub app_used : (a : App) (old new : Command) (u : Option (Bor Text)) → HasApp a old → fields_of new ≡ record (fields_of old) { usage_str = u } → HasApp a new
app_used a old new u h e = record { app = ap app_of_fields e ∙ h.app; local = ap (λ (f : Command-F Command). f.has_globals) e ∙ h.local }

pub ok_is : {T E : Type 0} (P : T → Type 0) (r : Result T E) (x : T) → r ≡ Ok x → IfOk r P → P x
ok_is P r x is h = subst (λ (o : Result _ _). IfOk o P) is h

pub app_more : (a : App) (r : Rule) (old new : Command) (arg : Arg) → HasApp a old → HasRule r arg → AddsArg old arg new → HasApp (with_rule a r) new
app_more a r old new arg h k adds = record { app = adds.shape k.local ∙ ap₂ with_rule h.app k.rule; local = adds.globals ∙ ap₂ (λ (x y : Bool). x || y) h.local k.local }

pub app_with : (a b : App) (above below new : Command) → HasApp a above → HasApp b below → AddsSubcommand above below new → HasApp (with_subcommand a b.top) new
app_with a b above below new h k adds = record {
  app = adds.shape k.local ∙ ap₂ with_subcommand h.app (ap (λ (x : App). x.top) k.app);
  local = adds.globals ∙ ap₂ (λ (x y : Bool). x || y) h.local k.local;
}

acd_is_simple : is_simple acd ≡ true
acd_is_simple = refl

-- the matches are those of the words
pub matches_are : (a : App) (words : List Text) (m : ArgMatches) → a ≡ acd → HasMatchesOf a words m → subcommand_rows_of m ≡ subcommand_of acd words
matches_are a words m is matches = (subst (λ (x : App). HasMatchesOf x words m) is matches acd_is_simple).1

-- for accepted words a parse fails for want of memory alone
pub refused_by : (kind : ErrorKind) (a : App) (words : List Text) → a ≡ acd → (takes a words ≡ true → kind ≡ OutOfMemory) → IsRefusedBy words kind
refused_by kind a words is passes = by (takes acd words) refl
  where
    by : (b : Bool) → takes acd words ≡ b → IsRefusedBy words kind
    by true taken = inl (passes (subst (λ (x : App). takes x words ≡ true) (sym is) taken))
    by false untaken = inr (inl (λ taken. true≢false (sym taken ∙ untaken)))

-- the task of the matches is that of the words, and where they name none, the words don't
pub none_named : (matches : Option (Text × List Row)) (words : List Text) → matches ≡ subcommand_of acd words → ((task : Task) → ¬ IsTaskIn matches task) → NamesNoTask words
none_named matches words is none = λ task named. none task (subst (λ (m : Option (Text × List Row)). IsTaskIn m task) (sym is) named)

-- ---- options

pub value_read : (f : Found) (id : Text) (value : Option Text) → value ≡ first_value f id → first_of id (rows_of f) ≡ value
value_read f id value read = sym (read ∙ first_value-rows f id)

pub text_read : (f : Found) (id : Text) (text : Bor Text) → Some text.now ≡ first_value f id → first_of id (rows_of f) ≡ Some text.now
text_read f id text = value_read f id (Some text.now)

not_equal : (t : Text) → t ≢ true_text → bytes_eq t true_text ≡ false
not_equal t other = by (bytes_eq t true_text) refl
  where
    by : (b : Bool) → bytes_eq t true_text ≡ b → bytes_eq t true_text ≡ false
    by true e = absurd (other ((bytes_eq-Decides t true_text).0 e))
    by false e = e

is_true : (E : Type 0) (t : Text) (r : Option Bool) → ReadsOne {E = E} ParsesBool t r → unwrap_or r false ≡ bytes_eq t true_text
is_true E t (Some true) reads = sym (ap (λ (x : Text). bytes_eq x true_text) reads)
is_true E t (Some false) reads = sym (ap (λ (x : Text). bytes_eq x true_text) reads)
is_true E t None reads = sym (not_equal t reads.1.0)

pub flag_read : (E : Type 0) (f : Found) (id : Text) (r : Option Bool) → ((one_text f id ≡ None) → r ≡ None) → ((t : Text) → one_text f id ≡ Some t → ReadsOne {E = E} ParsesBool t r) → unwrap_or r false ≡ is_given id (rows_of f)
flag_read E f id r none reads = by (one_text f id) refl ∙ ap (λ (o : Option Text). option_map_or (λ (text : Text). bytes_eq text true_text) o false) (one_text-rows f id)
  where
    by : (o : Option Text) → one_text f id ≡ o → unwrap_or r false ≡ option_map_or (λ (text : Text). bytes_eq text true_text) (one_text f id) false
    by None e = ap (λ (x : Option Bool). unwrap_or x false) (none e) ∙ sym (ap (λ (o : Option Text). option_map_or (λ (text : Text). bytes_eq text true_text) o false) e)
    by (Some t) e = is_true E t r (reads t e) ∙ sym (ap (λ (o : Option Text). option_map_or (λ (text : Text). bytes_eq text true_text) o false) e)

pub number_read : (bits : ℕ) (f : Found) (id : Text) (n : ℕ) → ((one_text f id ≡ None) → Some n ≡ None)
    → ((t : Text) → one_text f id ≡ Some t → (IsNumeral 10 (without_leading_plus t) × (digits_value 10 (without_leading_plus t) < 2 ^ bits)) × (n ≡ digits_value 10 (without_leading_plus t))) → IsNumber bits id (rows_of f) n
number_read bits f id n none reads = by (one_text f id) refl
  where
    by : (o : Option Text) → one_text f id ≡ o → IsNumber bits id (rows_of f) n
    by None e = absurd (let no = none e in cc (no))
    by (Some t) e = let read = reads t e in (t, sym (one_text-rows f id) ∙ e, read.0.0, sym read.1, subst (λ (m : ℕ). m < 2 ^ bits) (sym read.1) read.0.1)

-- no number was read
pub number_unread : (bits : ℕ) (f : Found) (id : Text) → ((t : Text) → one_text f id ≡ Some t → ¬ (IsNumeral 10 (without_leading_plus t) × (digits_value 10 (without_leading_plus t) < 2 ^ bits))) → (n : ℕ) → ¬ IsNumber bits id (rows_of f) n
number_unread bits f id none n h = none h.0 (one_text-rows f id ∙ h.1) (h.2, subst (λ (m : ℕ). m < 2 ^ bits) (sym h.3) h.4)

same_some : {A B C : Type 0} (g : A → B) (h : A → C) (o : Option A) → is_some (option_map g o) ≡ is_some (option_map h o)
same_some g h None = refl
same_some g h (Some x) = refl

pub option_read : (f : Found) (id : Text) (b : Bool) → b ≡ is_some (matched_of f id) → has_option id (rows_of f) ≡ b
option_read f id b read = ap is_some (find_row f.entries.items id) ∙ same_some _ _ (find (λ e. bytes_eq e.0.now id) f.entries.items) ∙ sym read

-- an audit without an archive
pub audit_read : (options : List Row) (file : Bor Text) (counts whole : Bool) (asked : Task) → (whole ≡ true → asked ≡ AuditWhole file counts) → (whole ≡ false → asked ≡ Read file (kind.Audit counts Plain))
    → IsOptionText (codes "file") options file → IsNotGiven (codes "archive") options → counts ≡ is_given (codes "count") options → whole ≡ is_given (codes "whole") options → IsTaskWith (codes "audit") options asked
audit_read options file counts true asked whole plain text none counted looked = subst (IsTaskWith (codes "audit") options) (sym (whole refl)) ((refl, text, counted, looked), none)
audit_read options file counts false asked whole plain text none counted looked = subst (IsTaskWith (codes "audit") options) (sym (plain refl)) (text, (refl, none, counted, looked, refl))

-- all texts of an option
pub texts_read : (f : Found) (id : Text) (texts : Bor (List (Bor Text))) → Some (map (λ (t : Bor Text). t.now) texts.now) ≡ option_map raw_values (matched_of f id) → AreOptionTexts id (rows_of f) texts
texts_read f id texts read = sym (read ∙ raw_values-rows f id)

-- none of an option that wasn't given
pub texts_unread : (f : Found) (id : Text) → ◌≡◌ {A = Option (List Text)} None (option_map raw_values (matched_of f id)) → IsNotGiven id (rows_of f)
texts_unread f id none = no_first (find (λ (r : Row). bytes_eq r.id id) (rows_of f)) (none ∙ raw_values-rows f id)
  where
    no_first : (o : Option Row) → ◌≡◌ {A = Option (List Text)} None (option_map (λ (r : Row). r.values) o) → option_and_then (λ (r : Row). slice_get r.values 0) o ≡ None
    no_first None e = refl
    no_first (Some r) e = absurd (cc e)

-- no text was read
pub text_unread : (f : Found) (id : Text) → ◌≡◌ {A = Option Text} None (first_value f id) → (text : Bor Text) → ¬ IsOptionText id (rows_of f) text
text_unread f id none text h = none_is_some (none ∙ first_value-rows f id ∙ h)
  where
    none_is_some : ◌≡◌ {A = Option Text} None (Some text.now) → ⊥
    none_is_some e = cc

-- ---- no task

-- two words that differ
apart : (a b : Text) → bytes_eq a b ≡ false → a ≢ b
apart a b differ same = true≢false (sym ((bytes_eq-Decides a b).1 same) ∙ differ)

module _ (options : List Row) where
  pub no_service : ((file : Bor Text) (address : Address) (span : Span) → IsOptionText (codes "file") options file → IsAddress options address → IsSpan options span → ⊥)
      → (task : Task) → ¬ IsTaskWith (codes "serve") options task
  no_service none (Serve file address span) h = none file address span h.1 h.2 h.3
  no_service none (Standby file address step patience) h = apart (codes "serve") (codes "standby") refl h.0
  no_service none (Lines file reads ends) h = apart (codes "serve") (codes "lines") refl h.0
  no_service none (Import file plan) h = apart (codes "serve") (codes "import") refl h.0
  no_service none (AuditWhole file counts) h = apart (codes "serve") (codes "audit") refl h.0.0
  no_service none (AuditWithArchive file archive counts whole) h = apart (codes "serve") (codes "audit") refl h.0.0
  no_service none (Prune file archive retention quiet) h = apart (codes "serve") (codes "prune") refl h.0
  no_service none (ExportWithArchives file archives) h = apart (codes "serve") (codes "export") refl h.0
  no_service none (Read file (kind.Print Report)) h = apart (codes "serve") (codes "report") refl h.1
  no_service none (Read file (kind.Print Export)) h = apart (codes "serve") (codes "export") refl h.1.0
  no_service none (Read file (kind.Audit counts ending)) h = apart (codes "serve") (codes "audit") refl h.1.0
  no_service none (Read file (kind.Import requests)) h = h.1

  pub no_standby : ((file : Bor Text) (address : Address) (step patience : Option Duration) → IsOptionText (codes "file") options file → IsAddress options address → true ≡ is_given (codes "endless") options
      → IsOptionSeconds (codes "tick") options step → IsOptionSeconds (codes "patience") options patience → ⊥) → (task : Task) → ¬ IsTaskWith (codes "standby") options task
  no_standby none (Standby file address step patience) h = none file address step patience h.1 h.2 h.3.0 h.3.1 h.3.2
  no_standby none (Lines file reads ends) h = apart (codes "standby") (codes "lines") refl h.0
  no_standby none (Serve file address span) h = apart (codes "standby") (codes "serve") refl h.0
  no_standby none (Import file plan) h = apart (codes "standby") (codes "import") refl h.0
  no_standby none (AuditWhole file counts) h = apart (codes "standby") (codes "audit") refl h.0.0
  no_standby none (AuditWithArchive file archive counts whole) h = apart (codes "standby") (codes "audit") refl h.0.0
  no_standby none (Prune file archive retention quiet) h = apart (codes "standby") (codes "prune") refl h.0
  no_standby none (ExportWithArchives file archives) h = apart (codes "standby") (codes "export") refl h.0
  no_standby none (Read file (kind.Print Report)) h = apart (codes "standby") (codes "report") refl h.1
  no_standby none (Read file (kind.Print Export)) h = apart (codes "standby") (codes "export") refl h.1.0
  no_standby none (Read file (kind.Audit counts ending)) h = apart (codes "standby") (codes "audit") refl h.1.0
  no_standby none (Read file (kind.Import requests)) h = h.1

  pub no_import : ((file plan : Bor Text) → IsOptionText (codes "file") options file → IsOptionText (codes "plan") options plan → ⊥) → (task : Task) → ¬ IsTaskWith (codes "import") options task
  no_import none (Import file plan) h = none file plan h.1 h.2
  no_import none (Lines file reads ends) h = apart (codes "import") (codes "lines") refl h.0
  no_import none (Serve file address span) h = apart (codes "import") (codes "serve") refl h.0
  no_import none (Standby file address step patience) h = apart (codes "import") (codes "standby") refl h.0
  no_import none (AuditWhole file counts) h = apart (codes "import") (codes "audit") refl h.0.0
  no_import none (AuditWithArchive file archive counts whole) h = apart (codes "import") (codes "audit") refl h.0.0
  no_import none (Prune file archive retention quiet) h = apart (codes "import") (codes "prune") refl h.0
  no_import none (ExportWithArchives file archives) h = apart (codes "import") (codes "export") refl h.0
  no_import none (Read file (kind.Print Report)) h = apart (codes "import") (codes "report") refl h.1
  no_import none (Read file (kind.Print Export)) h = apart (codes "import") (codes "export") refl h.1.0
  no_import none (Read file (kind.Audit counts ending)) h = apart (codes "import") (codes "audit") refl h.1.0
  no_import none (Read file (kind.Import requests)) h = h.1

  pub no_prune : ((file archive : Bor Text) (retention : Retention) → IsOptionText (codes "file") options file → IsOptionText (codes "archive") options archive → IsRetention options retention → ⊥)
      → (task : Task) → ¬ IsTaskWith (codes "prune") options task
  no_prune none (Prune file archive retention quiet) h = none file archive retention h.1 h.2.0 h.2.1
  no_prune none (Lines file reads ends) h = apart (codes "prune") (codes "lines") refl h.0
  no_prune none (Serve file address span) h = apart (codes "prune") (codes "serve") refl h.0
  no_prune none (Standby file address step patience) h = apart (codes "prune") (codes "standby") refl h.0
  no_prune none (Import file plan) h = apart (codes "prune") (codes "import") refl h.0
  no_prune none (AuditWhole file counts) h = apart (codes "prune") (codes "audit") refl h.0.0
  no_prune none (AuditWithArchive file archive counts whole) h = apart (codes "prune") (codes "audit") refl h.0.0
  no_prune none (ExportWithArchives file archives) h = apart (codes "prune") (codes "export") refl h.0
  no_prune none (Read file (kind.Print Report)) h = apart (codes "prune") (codes "report") refl h.1
  no_prune none (Read file (kind.Print Export)) h = apart (codes "prune") (codes "export") refl h.1.0
  no_prune none (Read file (kind.Audit counts ending)) h = apart (codes "prune") (codes "audit") refl h.1.0
  no_prune none (Read file (kind.Import requests)) h = h.1

  -- a printout, or an audit, of no file
  pub no_file : ((file : Bor Text) → ¬ IsOptionText (codes "file") options file) → (command : Text) → bytes_eq command (codes "lines") ≡ false → (task : Task) → ¬ IsTaskWith command options task
  no_file none command other (Lines file reads ends) h = apart command (codes "lines") other h.0
  no_file none command other (Serve file address span) h = none file h.1
  no_file none command other (Standby file address step patience) h = none file h.1
  no_file none command other (Import file plan) h = none file h.1
  no_file none command other (AuditWhole file counts) h = none file h.0.1
  no_file none command other (AuditWithArchive file archive counts whole) h = none file h.0.1
  no_file none command other (Prune file archive retention quiet) h = none file h.1
  no_file none command other (ExportWithArchives file archives) h = none file h.1
  no_file none command other (Read file work) h = none file h.0

-- a number is that of an option which was given
number_given : (bits : ℕ) (id : Text) (options : List Row) (n : ℕ) → IsNumber bits id options n → has_option id options ≡ true
number_given bits id options n h = by (find (λ (r : Row). bytes_eq r.id id) options) refl
  where
    by : (o : Option Row) → find (λ (r : Row). bytes_eq r.id id) options ≡ o → has_option id options ≡ true
    by (Some r) e = ap is_some e
    by None e = absurd (none_some h.0 (sym (ap (option_and_then row_text) e) ∙ h.1))
      where
        none_some : (t : Text) → ◌≡◌ {A = Option Text} None (Some t) → ⊥
        none_some t e = cc

-- an option that has no text has none
pub some_text : (options : List Row) (id : Text) (text : Bor Text) → IsNotGiven id options → ¬ IsOptionText id options text
some_text options id text none some = apart_options (sym none ∙ some)
  where
    apart_options : ◌≡◌ {A = Option Text} None (Some text.now) → ⊥
    apart_options e = cc

-- neither of both is named, or both are
pub no_address : (options : List Row) → ((n : ℕ) → IsNumber 16 (codes "port") options n → IsNotGiven (codes "socket") options → ⊥)
    → ((path : Bor Text) → IsOptionText (codes "socket") options path → has_option (codes "port") options ≡ false → ⊥) → (address : Address) → ¬ IsAddress options address
no_address options port socket (Port n) h = port n h.0 h.1
no_address options port socket (Socket path) h = socket path h.0 h.1

pub no_retention : (options : List Row) → ((n : ℕ) → IsNumber 32 (codes "days") options n → has_option (codes "keep") options ≡ false → ⊥)
    → ((n : ℕ) → IsNumber 32 (codes "keep") options n → has_option (codes "days") options ≡ false → ⊥) → (retention : Retention) → ¬ IsRetention options retention
no_retention options days keep (Days n) h = days n h.0 h.1
no_retention options days keep (Records n) h = keep n h.0 h.1

-- neither of both is asked for, or both are
pub no_connections : (options : List Row) → ((n : ℕ) → IsNumber 32 (codes "connections") options n → is_given (codes "endless") options ≡ false → ⊥)
    → (has_option (codes "connections") options ≡ false → is_given (codes "endless") options ≡ true → ⊥) → (many : Option ℕ) → ¬ IsConnections options many
no_connections options number endless (Some n) h = number n h.0 h.1
no_connections options number endless None h = endless h.0 h.1

-- neither a time is given nor none
pub no_seconds : (id : Text) (options : List Row) → ((n : ℕ) → ¬ IsNumber 16 id options n) → (has_option id options ≡ false → ⊥) → (time : Option Duration) → ¬ IsOptionSeconds id options time
no_seconds id options number none (Some time) h = number h.0 h.1
no_seconds id options number none None h = none h

pub unnumbered : (bits : ℕ) (id : Text) (options : List Row) (n : ℕ) → has_option id options ≡ false → ¬ IsNumber bits id options n
unnumbered bits id options n none h = true≢false (sym (number_given bits id options n h) ∙ none)

-- a command that is none of the eight
pub no_other : (command : Text) (options : List Row) → command ≢ codes "lines" → command ≢ codes "serve" → command ≢ codes "standby" → command ≢ codes "import" → command ≢ codes "report" → command ≢ codes "export" → command ≢ codes "audit"
    → command ≢ codes "prune" → (task : Task) → ¬ IsTaskWith command options task
no_other command options a b s c d e f p (Lines file reads ends) h = a h.0
no_other command options a b s c d e f p (Serve file address span) h = b h.0
no_other command options a b s c d e f p (Standby file address step patience) h = s h.0
no_other command options a b s c d e f p (Import file plan) h = c h.0
no_other command options a b s c d e f p (AuditWhole file counts) h = f h.0.0
no_other command options a b s c d e f p (AuditWithArchive file archive counts whole) h = f h.0.0
no_other command options a b s c d e f p (Prune file archive retention quiet) h = p h.0
no_other command options a b s c d e f p (ExportWithArchives file archives) h = e h.0
no_other command options a b s c d e f p (Read file (kind.Print Report)) h = d h.1
no_other command options a b s c d e f p (Read file (kind.Print Export)) h = e h.1.0
no_other command options a b s c d e f p (Read file (kind.Audit counts ending)) h = f h.1.0
no_other command options a b s c d e f p (Read file (kind.Import requests)) h = h.1

-- a rule between options that is broken is no call for help
pub conflict_is_no_help : (kind : ErrorKind) → kind ≡ ArgumentConflict → ¬ IsHelp kind
conflict_is_no_help kind is (inl help) = absurd (cc (sym is ∙ help))
conflict_is_no_help kind is (inr version) = absurd (cc (sym is ∙ version))

pub missing_is_no_help : (kind : ErrorKind) → kind ≡ MissingRequiredArgument → ¬ IsHelp kind
missing_is_no_help kind is (inl help) = absurd (cc (sym is ∙ help))
missing_is_no_help kind is (inr version) = absurd (cc (sym is ∙ version))
