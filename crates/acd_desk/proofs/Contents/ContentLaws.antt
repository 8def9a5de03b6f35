-- A sound content keeps the laws of runs.
use Rattle.std.proofs.Common.{◌≡◌, ℕ, zero, suc, take, List, [], ◌∷◌, ◌++◌, length, true, refl, sym, ap, subst, ◌∙◌, arith, append_assoc, append-nil, length-append}
use Rattle.acd_terms.specs.Lists.{Among}
use Rattle.acd_terms.specs.Rows.{empty_rows}
use Rattle.acd_terms.specs.declared.rows.Rows.{Rows}
use Rattle.acd_terms.specs.declared.rows.Limits.{Limits}
use Rattle.acd_terms.specs.Limits.{limits_fit}
use Rattle.acd_terms.specs.declared.command.Arrival.{Arrival}
use Rattle.acd_terms.specs.declared.event.Event.{Event}
use Rattle.acd_terms.specs.declared.record.GroupRecord.{GroupRecord}
use Rattle.acd_model.specs.Step.{step}
use Rattle.acd_model.specs.Run.{TimedCommand, AfterRun}
use Rattle.acd_model.specs.Run as terms
use Rattle.acd_model.specs.Rules.First.{BreaksNoRule}
use Rattle.acd_model.specs.Figures.{figures_of}
use Rattle.acd_model.specs.CallPlaces.{IsPlaced}
use Rattle.acd_model.specs.OneOffer.{HasOneOffer}
use Rattle.acd_model.specs.Watcher.{IsWatched}
use Rattle.acd_laws.specs.BalanceLaws.{IsBalanced}
use Rattle.acd_laws.specs.OfferLaws.{LeavesNoOffer}
use Rattle.acd_laws.specs.FigureLaws.{KeepsFigures}
use Rattle.acd_laws.specs.WatchedLaws.{ReportsNoMore}
use Rattle.acd_laws.proofs.Places.PlacedRuns.{run_is_placed}
use Rattle.acd_laws.proofs.Offers.OneOffer.{run_has_one_offer}
use Rattle.acd_laws.proofs.Watched.WatchedRuns.{run_is_watched, run_reports_no_more, run_is_balanced, run_leaves_no_offer}
use Rattle.acd_laws.proofs.Figures.FigureCounts.{run_keeps_figures, figures_kept}
use Rattle.acd_laws.proofs.Rules.RulesAll.{run_keeps_rules}
use Rattle.acd_book.specs.declared.kept.Kept.{Kept}
use Rattle.acd_book.specs.Content.{Content, empty_content, IsCounted}
use Rattle.acd_desk.specs.Contents.AbstractDesk.{executed, record_of, run_from}
use Rattle.acd_desk.specs.Contents.SoundContent.{arrivals_of, IsSound, commands_of}
use Rattle.acd_desk.specs.Laws.{KeepsLaws}
use Rattle.acd_desk.specs.Contents.Replies.{after}
use Rattle.acd_desk.proofs.Contents.SoundRuns.{sound_list, ran_sound}
use Rattle.acd_desk.proofs.Contents.CountersBound.{counted_run}
use Rattle.acd_desk.proofs.Contents.Steps.{step_stamp}
use Rattle.acd_desk.proofs.Contents.LongerLists.{ran_none, ran_push}

over : (P : Rows → List Event → Type 0) {s t : Rows} {es fs : List Event} → s ≡ t → es ≡ fs → P s es → P t fs
over P {s = s} {fs = fs} e f h = subst (λ (x : Rows). P x fs) e (subst (λ (x : List Event). P s x) f h)

-- the tables and events of a run of contents are those of the switch's run
rows_of_run : (l : List Arrival) (c : Content) → (run_from c l).rows ≡ (terms.run c.rows (commands_of l)).rows
unfolding terms.run
rows_of_run [] c = refl
rows_of_run (a ∷ l) c = rows_of_run l (executed c a)

events_of_run : (l : List Arrival) (c : Content) → (run_from c l).events ≡ c.events ++ (terms.run c.rows (commands_of l)).events
unfolding terms.run
events_of_run [] c = sym (append-nil c.events)
events_of_run (a ∷ l) c =
    let one = step c.rows a.moment a.request.command in
    events_of_run l (executed c a) ∙ append_assoc c.events one.events (terms.run one.rows (commands_of l)).events

pub sound_rows : (c : Content) → IsSound c → c.rows ≡ (terms.run (empty_rows c.rows.limits) (commands_of (arrivals_of c.kept))).rows
sound_rows c sound = ap (λ (x : Content). x.rows) (sound_list c sound) ∙ rows_of_run (arrivals_of c.kept) (empty_content c.rows.limits)

pub sound_events : (c : Content) → IsSound c → c.events ≡ (terms.run (empty_rows c.rows.limits) (commands_of (arrivals_of c.kept))).events
sound_events c sound = ap (λ (x : Content). x.events) (sound_list c sound) ∙ events_of_run (arrivals_of c.kept) (empty_content c.rows.limits)

-- a run from the empty state has kept one record for each stamp
one_each : (l : List Arrival) (c : Content) → length c.kept ≡ c.rows.last_stamp → length (run_from c l).kept ≡ (run_from c l).rows.last_stamp
one_each [] c h = h
one_each (a ∷ l) c h =
    let stamp = step_stamp c.rows a.moment a.request.command in
    one_each l (executed c a) (omega (arith, h, stamp, length-append c.kept (record_of c.rows a ∷ [])))

-- so has a sound content
pub sound_count : (c : Content) → IsSound c → c.rows.last_stamp ≡ length c.kept
sound_count c sound =
    sym (subst (λ (x : Content). length x.kept ≡ x.rows.last_stamp) (sym (sound_list c sound)) (one_each (arrivals_of c.kept) (empty_content c.rows.limits) refl))

length-commands : (ks : List Kept) → length (commands_of (arrivals_of ks)) ≡ length ks
length-commands [] = refl
length-commands (k ∷ ks) = let e = length-commands ks in omega (arith, e)

pub sound_rules : (c : Content) → IsSound c → BreaksNoRule c.rows
sound_rules c sound =
    let size = length-commands c.kept in
    subst BreaksNoRule (sym (sound_rows c sound))
    (run_keeps_rules c.rows.limits (commands_of (arrivals_of c.kept)) sound.fits (omega (arith, size, sound.few)))

-- a sound content keeps all laws of runs
pub sound_keeps_laws : (c : Content) → IsSound c → KeepsLaws c
sound_keeps_laws c sound =
    let commands : List TimedCommand = commands_of (arrivals_of c.kept) in
    let ran : AfterRun = terms.run (empty_rows c.rows.limits) commands in
    let rows : ran.rows ≡ c.rows = sym (sound_rows c sound) in
    let events : ran.events ≡ c.events = sym (sound_events c sound) in
    record {
      placed = over IsPlaced rows events (run_is_placed c.rows.limits commands);
      one_offer = subst HasOneOffer rows (run_has_one_offer c.rows.limits commands);
      balanced = over IsBalanced rows events (run_is_balanced c.rows.limits commands);
      no_offer = subst LeavesNoOffer rows (run_leaves_no_offer c.rows.limits commands);
      figures = over (λ (s : Rows) (es : List Event). (g : GroupRecord) → Among g s.groups → g.figures ≡ figures_of g.device es) rows events (run_keeps_figures c.rows.limits commands);
      rules = sound_rules c sound;
      watched = over IsWatched rows events (run_is_watched c.rows.limits commands);
    }

-- the events say no more than its rows, and its figures are those that they count
pub sound_reports_no_more : (c : Content) → IsSound c → ReportsNoMore c.rows c.events
sound_reports_no_more c sound = over ReportsNoMore (sym (sound_rows c sound)) (sym (sound_events c sound)) (run_reports_no_more c.rows.limits (commands_of (arrivals_of c.kept)))

pub sound_keeps_figures : (c : Content) → IsSound c → KeepsFigures c.rows c.events
sound_keeps_figures c sound = over KeepsFigures (sym (sound_rows c sound)) (sym (sound_events c sound)) (figures_kept c.rows.limits (commands_of (arrivals_of c.kept)))

pub sound_counted : (c : Content) → IsSound c → IsCounted c
sound_counted c sound = subst IsCounted (sym sound.replays) (counted_run c.rows.limits (arrivals_of c.kept))

-- one more arrival leaves a sound content
pub after_sound : (c : Content) (a : Arrival) → IsSound c → IsSound (after c a)
after_sound c a sound =
    subst IsSound (sym (ap (λ (x : Content). after x a) (ran_none c sound) ∙ ran_push c [] a)) (ran_sound c (a ∷ []) sound)

pub nothing_taken : (k : ℕ) → ◌≡◌ {A = List Arrival} [] (take k [])
nothing_taken zero = refl
nothing_taken (suc k) = refl

-- a new book's content
pub empty_sound : (n : Limits) → limits_fit n ≡ true → IsSound (empty_content n)
empty_sound n fits = record { fits = fits; distinct = refl; few = omega arith; replays = ap (run_from (empty_content n)) (nothing_taken n.requests) }
