-- A sound content as it was while an agent was in one group and groups had no priority, over the records of today; it is
-- sound still. The parts that have not changed since are shared: keys, first arrivals, limits, and the reply that an outcome
-- gives.
use Rattle.std.specs.Prelude.{◌≡◌, ◌≤◌, true, List, [], ◌∷◌, length}
use Rattle.acd_terms.specs.Lists.{Every}
use Rattle.acd_terms.specs.Limits.{limits_fit}
use Rattle.acd_terms.specs.declared.rows.Limits.{Limits}
use Rattle.acd_terms.specs.declared.rows.Rows.{Rows}
use Rattle.acd_terms.specs.declared.command.Arrival.{Arrival}
use Rattle.acd_terms.specs.declared.command.Requested.{Requested}
use Rattle.acd_terms.specs.declared.command.Requested.TheVariants as requested
use Rattle.acd_terms.specs.declared.command.Command.{Command}
use Rattle.acd_terms.specs.declared.command.Command.TheVariants.{SetAgentState, SetGroupPriority, RejectCall, ChangeGroup, ChangeAgent}
use Rattle.acd_model.specs.Step.{Stepped, executed_moment, next_stamp}
use Rattle.acd_book.specs.declared.kept.Kept.{Kept}
use Rattle.acd_book.specs.Content.{Content, empty_content, committed}
use Rattle.acd_desk.specs.Contents.AbstractDesk.{distinct_from, firsts, kept_at}
use Rattle.acd_desk.specs.Contents.SoundContent.{arrivals_of, IsSound}
use Rattle.acd_desk_laws.specs.OldStep.{old_step}

abbrev pub old_stepped : Rows → Arrival → Stepped
old_stepped s a = old_step s a.moment a.request.command

-- the record kept of an executed arrival: its stamp, its executed moment, and the reply
abbrev pub old_record_of : Rows → Arrival → Kept
old_record_of s a = kept_at (next_stamp s) (executed_moment s a.moment) a.request (old_stepped s a).outcome

-- one step, with its events and its reply kept
abbrev pub old_executed : Content → Arrival → Content
old_executed c a = committed (old_stepped c.rows a).rows (old_stepped c.rows a).events (old_record_of c.rows a) c

-- one arrival after the other
abbrev pub old_run_from : Content → List Arrival → Content
old_run_from c [] = c
old_run_from c (a ∷ rest) = old_run_from (old_executed c a) rest

-- the run over the first arrivals of a list, from the empty state
abbrev pub old_run : Limits → List Arrival → Content
old_run limits list = old_run_from (empty_content limits) (firsts limits.requests list)

-- a log-on names one group
abbrev pub IsOldRequested : Requested → Type 0
IsOldRequested (requested.LoggedOn device groups) = length groups ≡ 1
IsOldRequested (requested.State wanted) = Unit {0}

-- commands that could be sent: none of the services that came later, and no log-on in more groups than one
abbrev pub IsOldCommand : Command → Type 0
IsOldCommand (SetAgentState agent requested) = IsOldRequested requested
IsOldCommand (SetGroupPriority device priority) = ⊥
IsOldCommand (RejectCall call device) = ⊥
IsOldCommand (ChangeGroup device name ring wrap) = ⊥
IsOldCommand (ChangeAgent agent name) = ⊥
IsOldCommand _ = Unit {0}

-- the limits fit, the kept keys are distinct and not too many, each kept request could be asked for, and all that is kept is
-- the run of the kept requests
pub record IsOldSound (c : Content) : Type 0 where
  pub fits : limits_fit c.rows.limits ≡ true
  pub distinct : distinct_from [] (arrivals_of c.kept) ≡ arrivals_of c.kept
  pub few : length c.kept ≤ c.rows.limits.requests
  pub old : Every (λ (k : Kept). IsOldCommand k.request.command) c.kept
  pub replays : c ≡ old_run c.rows.limits (arrivals_of c.kept)

-- a content that was sound is sound
abbrev pub OldSoundIsSound : Type 0
OldSoundIsSound = (c : Content) → IsOldSound c → IsSound c
