-- How a command ends, by its exit status.
use Rattle.std.proofs.Common.{◌≡◌, ◌⊎◌, ◌≤◌, ℕ, List, inl, inr, refl, sym, ap, subst, ◌∙◌, arith}
use Rattle.sqlite_disk.specs.declared.Disk.{Ghosts}
use Rattle.sqlite_disk.specs.declared.calls.Calls as calls
use Rattle.sqlite_disk.specs.declared.start.Start as start
use Rattle.sqlite_disk.specs.declared.modelled.Modelled.{Modelled}
use Rattle.sqlite_std_file.specs.declared.host.Host.{Host}
use Rattle.clap.specs.Words.{Text}
use Rattle.clap.specs.declared.error.kind.ErrorKind.{ErrorKind}
use Rattle.clap.specs.declared.error.kind.ErrorKind.TheVariants.{OutOfMemory}
use Rattle.acd_lines.specs.Lines.{Streams, Output}
use Rattle.acd_command.specs.CommandLine.{IsTaskOf, IsUntaken, IsRefused, IsRefusedBy, IsHelp}
use Rattle.acd_program.specs.Commands.FileTasks.{ExitsTask, DoneOrHelp, FaultEnded}
use Rattle.acd_program.specs.Statuses.{IsDone, EndsUnasked, IfDone, exit_number, fault_exit, look_exit, opening_exit, PrintsAtMostFaults, PrintsOnSuccess}
use Rattle.acd_command.specs.declared.asked.Task.{Task}
use Rattle.acd_files.specs.declared.fault.LookFault.{LookFault}
use Rattle.acd_files.specs.declared.fault.LookFault.TheVariants as look
use Rattle.acd_files.specs.declared.fault.OpeningFault.{OpeningFault}
use Rattle.acd_files.specs.declared.fault.OpeningFault.TheVariants as opening
use Rattle.acd_program.specs.declared.fault.ArchiveFault.TheVariants as archive
use Rattle.acd_program.specs.declared.fault.Fault.{Fault}
use Rattle.acd_program.specs.declared.fault.Fault.TheVariants as fault
use Rattle.acd_program.specs.declared.status.Status.{Status}
use Rattle.acd_program.specs.declared.status.Status.TheVariants.{Success, Differs, EndsEarly, SentAgain}
use Rattle.acd_program.specs.declared.status.Exit.{Exit}
use Rattle.acd_program.specs.declared.status.Exit.TheVariants.{Done, Failed, Refused, OpenElsewhere}

-- ---- by a fault

-- a fault is that another program has the file, or another one
abbrev Faulty : Exit → Type 0
Faulty e = (e ≡ Failed) ⊎ (e ≡ OpenElsewhere)

look_faulty : (why : LookFault) → Faulty (look_exit why)
look_faulty (look.OpenElsewhere path) = inr refl
look_faulty (look.Path why) = inl refl
look_faulty look.NoBytes = inl refl
look_faulty (look.Plan why) = inl refl

opening_faulty : (why : OpeningFault) → Faulty (opening_exit why)
opening_faulty (opening.Look why) = look_faulty why
opening_faulty (opening.Files why) = inl refl

faulty : (why : Fault) → Faulty (fault_exit why)
faulty (fault.Opening why) = opening_faulty why
faulty (fault.Work why) = inl refl
faulty (fault.Archive (archive.Opening why)) = opening_faulty why
faulty (fault.Archive (archive.Work why)) = inl refl

pub fault_undone : (why : Fault) (e : Exit) (Fact : Status → Type 0) → e ≡ fault_exit why → IfDone e Fact
fault_undone why e Fact is = elim (faulty why) [ inl failed ↦ subst (λ (x : Exit). IfDone x Fact) (sym (is ∙ failed)) tt | inr other ↦ subst (λ (x : Exit). IfDone x Fact) (sym (is ∙ other)) tt ]

other_done : (status : Status) → ◌≡◌ {A = Exit} (Done status) OpenElsewhere → ⊥
other_done status is = cc

pub done_elsewhere : (status : Status) (P : Type 0) → ◌≡◌ {A = Exit} (Done status) OpenElsewhere → P
done_elsewhere status P is = absurd (other_done status is)

-- ---- numbers

pub at_most_six : (n : ℕ) (e : Exit) → n ≡ exit_number e → n ≤ 6
at_most_six n (Done Success) is = omega (arith, is)
at_most_six n (Done Differs) is = omega (arith, is)
at_most_six n (Done EndsEarly) is = omega (arith, is)
at_most_six n (Done SentAgain) is = omega (arith, is)
at_most_six n Failed is = omega (arith, is)
at_most_six n Refused is = omega (arith, is)
at_most_six n OpenElsewhere is = omega (arith, is)

apart_three : ◌≡◌ {A = Status} Differs Success → ⊥
apart_three is = cc

apart_five : ◌≡◌ {A = Status} EndsEarly Success → ⊥
apart_five is = cc

apart_six : ◌≡◌ {A = Status} SentAgain Success → ⊥
apart_six is = cc

-- ---- a task

module _ (errors : Output) (n : ℕ) where
  pub task_success : (e : Exit) → n ≡ exit_number e → IfDone e (PrintsOnSuccess errors) → n ≡ 0 → PrintsAtMostFaults errors
  task_success (Done Success) is (inl unwritten) none = inl unwritten
  task_success (Done Success) is (inr prints) none = inr prints.1
  task_success (Done Differs) is printed none = absurd (omega (arith, is, none))
  task_success (Done EndsEarly) is printed none = absurd (omega (arith, is, none))
  task_success (Done SentAgain) is printed none = absurd (omega (arith, is, none))
  task_success Failed is printed none = absurd (omega (arith, is, none))
  task_success Refused is printed none = absurd (omega (arith, is, none))
  task_success OpenElsewhere is printed none = absurd (omega (arith, is, none))

  pub task_differs : (e : Exit) → n ≡ exit_number e → IfDone e (PrintsOnSuccess errors) → n ≡ 3 → errors.unwritten
  task_differs (Done Differs) is (inl unwritten) three = unwritten
  task_differs (Done Differs) is (inr prints) three = absurd (apart_three prints.0)
  task_differs (Done Success) is printed three = absurd (omega (arith, is, three))
  task_differs (Done EndsEarly) is printed three = absurd (omega (arith, is, three))
  task_differs (Done SentAgain) is printed three = absurd (omega (arith, is, three))
  task_differs Failed is printed three = absurd (omega (arith, is, three))
  task_differs Refused is printed three = absurd (omega (arith, is, three))
  task_differs OpenElsewhere is printed three = absurd (omega (arith, is, three))

  pub task_early : (e : Exit) → n ≡ exit_number e → IfDone e (PrintsOnSuccess errors) → n ≡ 5 → errors.unwritten
  task_early (Done EndsEarly) is (inl unwritten) five = unwritten
  task_early (Done EndsEarly) is (inr prints) five = absurd (apart_five prints.0)
  task_early (Done Success) is printed five = absurd (omega (arith, is, five))
  task_early (Done Differs) is printed five = absurd (omega (arith, is, five))
  task_early (Done SentAgain) is printed five = absurd (omega (arith, is, five))
  task_early Failed is printed five = absurd (omega (arith, is, five))
  task_early Refused is printed five = absurd (omega (arith, is, five))
  task_early OpenElsewhere is printed five = absurd (omega (arith, is, five))

  pub task_again : (e : Exit) → n ≡ exit_number e → IfDone e (PrintsOnSuccess errors) → n ≡ 6 → errors.unwritten
  task_again (Done SentAgain) is (inl unwritten) six = unwritten
  task_again (Done SentAgain) is (inr prints) six = absurd (apart_six prints.0)
  task_again (Done Success) is printed six = absurd (omega (arith, is, six))
  task_again (Done Differs) is printed six = absurd (omega (arith, is, six))
  task_again (Done EndsEarly) is printed six = absurd (omega (arith, is, six))
  task_again Failed is printed six = absurd (omega (arith, is, six))
  task_again Refused is printed six = absurd (omega (arith, is, six))
  task_again OpenElsewhere is printed six = absurd (omega (arith, is, six))

  pub task_elsewhere : (P : Type 0) (e : Exit) → n ≡ exit_number e → (e ≡ OpenElsewhere → P) → n ≡ 4 → P
  task_elsewhere P OpenElsewhere is h four = h refl
  task_elsewhere P (Done Success) is h four = absurd (omega (arith, is, four))
  task_elsewhere P (Done Differs) is h four = absurd (omega (arith, is, four))
  task_elsewhere P (Done EndsEarly) is h four = absurd (omega (arith, is, four))
  task_elsewhere P (Done SentAgain) is h four = absurd (omega (arith, is, four))
  task_elsewhere P Failed is h four = absurd (omega (arith, is, four))
  task_elsewhere P Refused is h four = absurd (omega (arith, is, four))

module _ {S : Type 0} {host : calls.Ghosts Host} {known : start.Ghosts S} (disk : Ghosts (Modelled Host S host known)) (words : List Text) (task : Task) (named : IsTaskOf words task) (io : Streams) (errors : Output) (n : ℕ) where
  -- no task is refused
  unrefused : (e : Exit) → e ≡ Refused → ExitsTask disk task io errors e → ⊥
  unrefused e is (inl h) = refused_done (sym is ∙ h.1)
    where
      refused_done : ◌≡◌ {A = Exit} Refused (Done h.0) → ⊥
      refused_done same = cc
  unrefused e is (inr h) = elim (faulty h.0) [ inl failed ↦ refused_failed (sym is ∙ h.2 ∙ failed) | inr other ↦ refused_other (sym is ∙ h.2 ∙ other) ]
    where
      refused_failed : ◌≡◌ {A = Exit} Refused Failed → ⊥
      refused_failed same = cc

      refused_other : ◌≡◌ {A = Exit} Refused OpenElsewhere → ⊥
      refused_other same = cc

  pub task_refused : (P : Type 0) (e : Exit) → n ≡ exit_number e → ExitsTask disk task io errors e → n ≡ 2 → P
  task_refused P Refused is h two = absurd (unrefused Refused refl h)
  task_refused P (Done Success) is h two = absurd (omega (arith, is, two))
  task_refused P (Done Differs) is h two = absurd (omega (arith, is, two))
  task_refused P (Done EndsEarly) is h two = absurd (omega (arith, is, two))
  task_refused P (Done SentAgain) is h two = absurd (omega (arith, is, two))
  task_refused P Failed is h two = absurd (omega (arith, is, two))
  task_refused P OpenElsewhere is h two = absurd (omega (arith, is, two))

  -- by a fault it isn't done, and without one it is
  undone : (why : Fault) → n ≡ exit_number (fault_exit why) → IsDone n → ⊥
  undone why is done = elim (faulty why) [ inl failed ↦ by (is ∙ ap exit_number failed) done | inr other ↦ other_by (is ∙ ap exit_number other) done ]
    where
      by : n ≡ 1 → IsDone n → ⊥
      by one (inl none) = omega (arith, one, none)
      by one (inr (inl three)) = omega (arith, one, three)
      by one (inr (inr (inl five))) = omega (arith, one, five)
      by one (inr (inr (inr six))) = omega (arith, one, six)

      other_by : n ≡ 4 → IsDone n → ⊥
      other_by four (inl none) = omega (arith, four, none)
      other_by four (inr (inl three)) = omega (arith, four, three)
      other_by four (inr (inr (inl five))) = omega (arith, four, five)
      other_by four (inr (inr (inr six))) = omega (arith, four, six)

  pub task_done : (e : Exit) → n ≡ exit_number e → ExitsTask disk task io errors e → DoneOrHelp disk words io errors n
  task_done e is (inl h) = λ done. inr (task, named, h.0, is ∙ ap exit_number h.1, h.2)
  task_done e is (inr h) = λ done. absurd (undone h.0 (is ∙ ap exit_number h.2) done)

  sound : (status : Status) → n ≡ exit_number (Done status) → (n ≡ 4) ⊎ (n ≡ 1) → ⊥
  sound Success is (inl four) = omega (arith, is, four)
  sound Success is (inr one) = omega (arith, is, one)
  sound Differs is (inl four) = omega (arith, is, four)
  sound Differs is (inr one) = omega (arith, is, one)
  sound EndsEarly is (inl four) = omega (arith, is, four)
  sound EndsEarly is (inr one) = omega (arith, is, one)
  sound SentAgain is (inl four) = omega (arith, is, four)
  sound SentAgain is (inr one) = omega (arith, is, one)

  pub task_ended : (e : Exit) → n ≡ exit_number e → ExitsTask disk task io errors e → FaultEnded disk words io errors.before n
  task_ended e is (inl h) = (λ four. absurd (sound h.0 (is ∙ ap exit_number h.1) (inl four)), λ one. absurd (sound h.0 (is ∙ ap exit_number h.1) (inr one)))
  task_ended e is (inr h) = (λ four. (task, named, h.1, h.0, h.3, is ∙ ap exit_number h.2), λ one. inr (task, named, h.1, h.0, h.3, is ∙ ap exit_number h.2))

-- ---- no task

module _ (words : List Text) (kind : ErrorKind) (refused : IsRefusedBy words kind) (io : Streams) (unread : io.unread)
    (out errors : Output) (same : out.unwritten → io.unwritten) (n : ℕ) where
  memory_is_no_help : kind ≡ OutOfMemory → IsHelp kind → ⊥
  memory_is_no_help memory (inl help) = absurd (cc (sym memory ∙ help))
  memory_is_no_help memory (inr version) = absurd (cc (sym memory ∙ version))

  helped : IsHelp kind → IsUntaken words
  helped help = elim refused [ inl memory ↦ absurd (memory_is_no_help memory help) | inr (inl untaken) ↦ untaken | inr (inr none) ↦ absurd (none.0 help) ]

  pub none_success : (e : Exit) → n ≡ exit_number e → EndsUnasked kind out errors e → n ≡ 0 → PrintsAtMostFaults errors
  none_success (Done status) is h none = inl h.2
  none_success Failed is h none = absurd (omega (arith, is, none))
  none_success Refused is h none = absurd (omega (arith, is, none))
  none_success OpenElsewhere is h none = absurd h

  -- a status of at most 2, or 4
  done_number : (status : Status) → status ≡ Success → n ≡ exit_number (Done status) → n ≡ 0
  done_number status success is = is ∙ ap (λ (s : Status). exit_number (Done s)) success

  pub none_odd : (P : Type 0) (e : Exit) → n ≡ exit_number e → EndsUnasked kind out errors e → (n ≡ 3) ⊎ ((n ≡ 5) ⊎ (n ≡ 6)) → P
  none_odd P (Done status) is h (inl three) = let none = done_number status h.0 is in absurd (omega (arith, none, three))
  none_odd P (Done status) is h (inr (inl five)) = let none = done_number status h.0 is in absurd (omega (arith, none, five))
  none_odd P (Done status) is h (inr (inr six)) = let none = done_number status h.0 is in absurd (omega (arith, none, six))
  none_odd P Failed is h (inl three) = absurd (omega (arith, is, three))
  none_odd P Failed is h (inr (inl five)) = absurd (omega (arith, is, five))
  none_odd P Failed is h (inr (inr six)) = absurd (omega (arith, is, six))
  none_odd P Refused is h (inl three) = absurd (omega (arith, is, three))
  none_odd P Refused is h (inr (inl five)) = absurd (omega (arith, is, five))
  none_odd P Refused is h (inr (inr six)) = absurd (omega (arith, is, six))
  none_odd P OpenElsewhere is h odd = absurd h

  pub none_refused : (e : Exit) → n ≡ exit_number e → EndsUnasked kind out errors e → n ≡ 2 → io.unread × out.unwritten
  none_refused Refused is h two = (unread, h.2)
  none_refused (Done status) is h two = let none = done_number status h.0 is in absurd (omega (arith, none, two))
  none_refused Failed is h two = absurd (omega (arith, is, two))
  none_refused OpenElsewhere is h two = absurd h

  pub none_untaken : (e : Exit) → n ≡ exit_number e → EndsUnasked kind out errors e → n ≡ 2 → IsRefused words
  none_untaken Refused is h two = elim refused [ inl memory ↦ absurd (h.0 memory) | inr (inl untaken) ↦ inl untaken | inr (inr none) ↦ inr none.1 ]
  none_untaken (Done status) is h two = let none = done_number status h.0 is in absurd (omega (arith, none, two))
  none_untaken Failed is h two = absurd (omega (arith, is, two))
  none_untaken OpenElsewhere is h two = absurd h

  pub none_done : {S : Type 0} {host : calls.Ghosts Host} {known : start.Ghosts S} (disk : Ghosts (Modelled Host S host known)) (e : Exit) → n ≡ exit_number e → EndsUnasked kind out errors e → DoneOrHelp disk words io errors n
  none_done disk (Done status) is h = λ done. inl (done_number status h.0 is, helped h.1, unread, h.2)
  none_done disk Failed is h = λ done. absurd (by done)
    where
      by : IsDone n → ⊥
      by (inl none) = omega (arith, is, none)
      by (inr (inl three)) = omega (arith, is, three)
      by (inr (inr (inl five))) = omega (arith, is, five)
      by (inr (inr (inr six))) = omega (arith, is, six)
  none_done disk Refused is h = λ done. absurd (by done)
    where
      by : IsDone n → ⊥
      by (inl none) = omega (arith, is, none)
      by (inr (inl three)) = omega (arith, is, three)
      by (inr (inr (inl five))) = omega (arith, is, five)
      by (inr (inr (inr six))) = omega (arith, is, six)
  none_done disk OpenElsewhere is h = absurd h

  pub none_ended : {S : Type 0} {host : calls.Ghosts Host} {known : start.Ghosts S} (disk : Ghosts (Modelled Host S host known)) (e : Exit) → n ≡ exit_number e → EndsUnasked kind out errors e → FaultEnded disk words io errors.before n
  none_ended disk (Done status) is h = let none = done_number status h.0 is in (λ four. absurd (omega (arith, none, four)), λ one. absurd (omega (arith, none, one)))
  none_ended disk Failed is (inl unwritten) = (λ four. absurd (omega (arith, is, four)), λ one. inl (unread, inl (same unwritten)))
  none_ended disk Failed is (inr help) = (λ four. absurd (omega (arith, is, four)), λ one. inl (unread, inr (helped help)))
  none_ended disk Refused is h = (λ four. absurd (omega (arith, is, four)), λ one. absurd (omega (arith, is, one)))
  none_ended disk OpenElsewhere is h = absurd h

  pub none_elsewhere : (P : Type 0) (e : Exit) → n ≡ exit_number e → EndsUnasked kind out errors e → n ≡ 4 → P
  none_elsewhere P (Done status) is h four = let none = done_number status h.0 is in absurd (omega (arith, none, four))
  none_elsewhere P Failed is h four = absurd (omega (arith, is, four))
  none_elsewhere P Refused is h four = absurd (omega (arith, is, four))
  none_elsewhere P OpenElsewhere is h four = absurd h
