-- Opening a desk: what it leaves.
use Rattle.std.proofs.Common.{◌≡◌, Some, Ok, false, refl, sym, ap, subst, ◌∙◌}
use Rattle.acd_terms.specs.declared.rows.Rows.{Rows}
use Rattle.acd_terms.specs.declared.rows.Rule.{Rule}
use Rattle.acd_model.specs.Rules.First.{first_broken, BreaksNoRule}
use Rattle.acd_book.specs.Content.{Content, IsCounted}
use Rattle.acd_book.specs.State.{BookState, Reads}
use Rattle.acd_book.proofs.BookSteps.{step_so}
use Rattle.acd_switch.specs.RowFaults.{IsFaultOf}
use Rattle.acd_switch.specs.declared.row_fault.RowFault.{RowFault}
use Rattle.acd_switch.specs.declared.row_fault.RowFault.TheVariants as row
use Rattle.acd_desk.specs.declared.open_fault.OpenFault.{OpenFault}
use Rattle.acd_desk.specs.declared.open_fault.OpenFault.TheVariants as fault
use Rattle.acd_desk.specs.Contents.SoundContent.{IsSound}
use Rattle.acd_desk.specs.Contents.CarriedContent.{together}
use Rattle.acd_desk.specs.Desks.DeskState.{InStep}
use Rattle.acd_desk.specs.Desks.Opening.{by_rows, Opened, Refused}
use Rattle.acd_terms.proofs.Results.{ok_err}
use Rattle.acd_desk.proofs.Desks.Commits.{some_none}
use Rattle.acd_desk.proofs.Contents.ContentLaws.{sound_rules}
use Rattle.acd_desk.proofs.Contents.OlderRecords.{counted_alone}

rows_store : (rule : Rule) → fault.Rows rule ≡ fault.Store → ⊥
rows_store rule h = cc

memory_store : fault.NoMemory ≡ fault.Store → ⊥
memory_store h = cc

pub opens : (b d : BookState) (rows switch : Rows) → Reads b d (Ok rows) (λ (c : Content) (found : Rows). found ≡ c.rows) → switch ≡ rows → BreaksNoRule rows
    → Opened b (record { book = d; switch = Some switch; failed = false })
opens b d rows switch reads is rules =
    let same : d.is_clean → b.is_sound → d.content ≡ b.content = λ clean sound. (reads.unchanged.same clean sound (reads.stays clean sound)).1 in
    let loaded : d.is_clean → b.is_sound → b.content.rows ≡ switch = λ clean sound. sym (reads.value clean sound).1 ∙ sym is in
    let in_step : d.is_clean → b.is_sound → IsCounted b.content → InStep (record { book = d; switch = Some switch; failed = false })
    = λ clean sound counted opened working. (ap (λ (x : Content). x.rows) (same clean sound) ∙ loaded clean sound, subst IsCounted (sym (same clean sound)) counted) in
    record {
      step = step_so reads.step (λ is. absurd (ok_err is));
      opened = λ clean sound. ((reads.value clean sound).0, reads.stays clean sound, same clean sound, ap Some (sym (loaded clean sound)));
      working = refl;
      stops = reads.unchanged.stops;
      keeps = λ clean sound. reads.keeps clean sound (reads.stays clean sound);
      accepts = λ clean sound. subst BreaksNoRule (reads.value clean sound).1 rules;
      in_step = in_step;
      starts = λ p clean sound whole. (
        reads.step.sound clean sound,
        reads.stays clean sound,
        in_step clean sound (counted_alone p b.content whole),
        subst (λ (c : Content). IsSound (together p c)) (sym (same clean sound)) whole,
      );
    }

-- the rows were read, and make no switch
refuses : (b d : BookState) (rows : Rows) (f : RowFault) → Reads b d (Ok rows) (λ (c : Content) (found : Rows). found ≡ c.rows) → IsFaultOf rows f → Refused b (by_rows f) d
refuses b d rows (row.Broken rule) reads broken = record {
  step = step_so reads.step (λ is. absurd (ok_err is));
  unchanged = reads.unchanged;
  keeps = reads.keeps;
  refuses = λ clean sound.
      let holds = reads.value clean sound in
      (holds.0, reads.stays clean sound, (reads.unchanged.same clean sound (reads.stays clean sound)).1, subst (λ (s : Rows). first_broken s ≡ Some rule) holds.1 broken);
  well = λ p clean sound whole. some_none rule (sym (subst (λ (s : Rows). first_broken s ≡ Some rule) (reads.value clean sound).1 broken) ∙ sound_rules (together p b.content) whole);
  cause = λ h. absurd (rows_store rule h);
}
refuses b d rows row.NoMemory reads broken = record {
  step = step_so reads.step (λ is. absurd (ok_err is));
  unchanged = reads.unchanged;
  keeps = reads.keeps;
  refuses = λ clean sound. tt;
  well = λ p clean sound whole. tt;
  cause = λ h. absurd (memory_store h);
}

pub rows_refused : (b d : BookState) (rows : Rows) (f : RowFault) (o : OpenFault) → Reads b d (Ok rows) (λ (c : Content) (found : Rows). found ≡ c.rows) → IsFaultOf rows f → o ≡ by_rows f → Refused b o d
rows_refused b d rows f o reads broken is = subst (λ (x : OpenFault). Refused b x d) (sym is) (refuses b d rows f reads broken)
