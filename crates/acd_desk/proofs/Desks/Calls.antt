-- A call of a desk, by the calls of its book.
use Rattle.std.proofs.Common.{◌≡◌, false, Some, None, Ok, refl, sym, ap, subst, ◌∙◌, inl, inr}
use Rattle.acd_terms.specs.declared.rows.Rows.{Rows}
use Rattle.acd_terms.specs.declared.command.Request.{Request}
use Rattle.acd_terms.specs.declared.command.Arrival.{Arrival}
use Rattle.acd_book.specs.Content.{Content, IsCounted}
use Rattle.acd_book.specs.State.{BookState, BookStep, Reads}
use Rattle.acd_book.proofs.BookSteps.{no_step, step_so, step_then}
use Rattle.acd_desk.specs.declared.taken.Taken.{Taken}
use Rattle.acd_desk.specs.Contents.Replies.{answer_in, after}
use Rattle.acd_desk.specs.Desks.DeskState.{DeskState, InStep, with_new_key}
use Rattle.acd_desk.specs.Desks.DeskCalls.{Took}
use Rattle.acd_desk.specs.Reads.BookReads.{Reread}
use Rattle.acd_desk.specs.Contents.SoundContent.{IsNew}
use Rattle.acd_desk.proofs.Desks.DeskSteps.{rereads, desk_then}
use Rattle.acd_terms.proofs.Results.{ok_err}

-- ---- after a read ----

pub after_reread : (old mid new : DeskState) (a : Arrival) (t : Taken) → Reread old mid → Took mid a t new → Took old a t new
after_reread old mid new a t r took =
    let before : new.book.is_clean → mid.book.is_clean = took.step.clean in
    let sound_then : new.book.is_clean → old.book.is_sound → mid.book.is_sound = λ clean. r.step.sound (before clean) in
    let same : new.book.is_clean → old.book.is_sound → mid.book.content ≡ old.book.content = λ clean. r.same (before clean) in
    let opened : new.book.is_clean → old.book.is_sound → mid.book.is_open → old.book.is_open = λ clean sound up. (r.unchanged.same (before clean) sound up).0 in
    let in_step : new.book.is_clean → old.book.is_sound → InStep old → InStep mid = λ clean. r.in_step (before clean) in
    record {
      step = step_then r.step took.step (λ none. absurd none) (λ is. is);
      desk = desk_then old mid new r.step took.step (rereads old mid (λ none. none) r) took.desk (λ none. absurd none) (λ is. is) (λ is. inr is) (λ gone. gone) (λ working gone. r.loaded gone);
      shut = λ failed. took.shut (r.failed ∙ failed);
      up = λ fine clean sound. let both = took.up fine clean (sound_then clean sound) in (opened clean sound both.0, both.1);
      sent = λ fine clean sound step.
          let said = took.sent fine clean (sound_then clean sound) (in_step clean sound step) in
          (said.0 ∙ ap (λ (x : Content). answer_in (after x a) a.request) (same clean sound), said.1 ∙ ap (λ (x : Content). after x a) (same clean sound));
      unmoved = λ none clean sound up.
          let said = took.unmoved none clean (sound_then clean sound) up in
          (opened clean sound said.0, said.1 ∙ same clean sound);
      stops = λ clean sound step c at. elim (took.stops clean (sound_then clean sound) (in_step clean sound step) c at) [
        | inl old ↦ inl (r.unchanged.stops (before clean) sound c old)
        | inr made ↦ inr (sym r.failed ∙ made.0, opened clean sound made.1, made.2 ∙ ap (λ (x : Content). after x a) (same clean sound))
      ];
      unloads = λ working gone. elim (took.unloads working gone) [
        | inl old ↦ inl (r.loaded old)
        | inr now ↦ inr now
      ];
    }

-- the rows were read, and made a switch
pub loaded_rows : (b d : BookState) (rows switch : Rows) → Reads b d (Ok rows) (λ (c : Content) (found : Rows). found ≡ c.rows) → switch ≡ rows
    → Reread (record { book = b; switch = None; failed = false }) (record { book = d; switch = Some switch; failed = false })
loaded_rows b d rows switch reads is =
    let same : d.is_clean → b.is_sound → d.content ≡ b.content = λ clean sound. (reads.unchanged.same clean sound (reads.stays clean sound)).1 in
    record {
      step = step_so reads.step (λ is. absurd (ok_err is));
      unchanged = reads.unchanged;
      stays = λ clean sound up. reads.stays clean sound;
      same = same;
      in_step = λ clean sound step opened working.
          let holds = reads.value clean sound in (
            ap (λ (x : Content). x.rows) (same clean sound) ∙ sym holds.1 ∙ sym is,
            subst IsCounted (sym (same clean sound)) (step holds.0 refl).1,
          );
      failed = refl;
      loaded = λ gone. refl;
    }

-- an equation for the answer, and one for the desk
pub leaves : {D : Type 0} (stands : D → DeskState) (old : DeskState) (a : Arrival) (t u : Taken) (d e : D) → t ≡ u → d ≡ e → Took old a u (stands e) → Took old a t (stands d)
leaves stands old a t u d e said is took =
    subst (λ (x : Taken). Took old a x (stands d)) (sym said) (subst (λ (x : _). Took old a u (stands x)) (sym is) took)

-- a step is one where the key is new
pub step_new : {F G : Type 0} (s : DeskState) (q : Request) (d : BookState) → BookStep F s.book d → (F → G) → BookStep G (with_new_key s q).book d
step_new s q d step so = record { clean = step.clean; sound = λ clean sound. step.sound clean sound.0; quiet = λ none. step.quiet (λ failed. none (so failed)); counts = step.counts }

-- a statement on new keys holds of all
pub also_new : (s new : DeskState) (q : Request) (a : Arrival) (t : Taken) → Took s a t new → Took (with_new_key s q) a t new
also_new s new q a t took =
    let same : Reread (with_new_key s q) s = record {
      step = step_new s q s.book (no_step s.book) (λ none. none);
      unchanged = record { same = λ clean sound up. (up, refl); stops = λ clean sound c at. at };
      stays = λ clean sound up. up;
      same = λ clean sound. refl;
      in_step = λ clean sound step. step;
      failed = refl;
      loaded = λ gone. gone;
    } in
    after_reread (with_new_key s q) s new a t same took

-- a desk that holds what it read again, as long as the key is new
pub again_new : (old mid new : DeskState) (q : Request) (a : Arrival) (t : Taken) → Reread old mid → Took (with_new_key mid q) a t new → Took (with_new_key old q) a t new
again_new old mid new q a t r took = after_reread (with_new_key old q) (with_new_key mid q) new a t still took
  where
    still : Reread (with_new_key old q) (with_new_key mid q)
    still = record {
      step = record {
        clean = r.step.clean;
        sound = λ clean sound. (r.step.sound clean sound.0, r.stays clean sound.0 sound.1, subst (λ (c : Content). IsNew c q) (sym (r.same clean sound.0)) sound.2);
        quiet = r.step.quiet;
        counts = r.step.counts;
      };
      unchanged = record { same = λ clean sound. r.unchanged.same clean sound.0; stops = λ clean sound. r.unchanged.stops clean sound.0 };
      stays = λ clean sound. r.stays clean sound.0;
      same = λ clean sound. r.same clean sound.0;
      in_step = λ clean sound. r.in_step clean sound.0;
      failed = r.failed;
      loaded = r.loaded;
    }
