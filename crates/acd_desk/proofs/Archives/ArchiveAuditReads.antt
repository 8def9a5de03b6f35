-- An audit of a desk with an archive: the desk's answer.
use Rattle.std.proofs.Common.{◌≡◌, false, Ok, Err, sym, subst, ◌∙◌, inl, inr, true≢false, refl}
use Rattle.acd_book.specs.Content.{Content, IsCounted}
use Rattle.acd_book.specs.State.{BookState}
use Rattle.acd_book.specs.declared.fault.BookFault.{BookFault}
use Rattle.acd_book.specs.declared.fault.BookFault.TheVariants as faults
use Rattle.acd_book.proofs.BookSteps.{step_so}
use Rattle.acd_desk.specs.declared.audit.ArchiveAudit.{ArchiveAudit}
use Rattle.acd_desk.specs.declared.fault.DeskFault.TheVariants.{NoMemory}
use Rattle.acd_desk.specs.declared.working.Working.{Working}
use Rattle.acd_desk.specs.declared.pair.PairFault.{PairFault}
use Rattle.acd_desk.specs.declared.pair.PairFault.TheVariants as pair
use Rattle.acd_desk.specs.Audits.ArchiveAudits.{desk_part, archived_part, pair_fault, left_by_pair, IsAuditedWith}
use Rattle.acd_desk.specs.Audits.Pairs.{ReadsBoth}
use Rattle.acd_desk.specs.Desks.Faults.{fault_of, left_by}
use Rattle.acd_desk.specs.Desks.DeskState.{switch_of, is_failed, Mirrors}
use Rattle.acd_desk.specs.Reads.DeskReads.{ReadDone}
use Rattle.acd_desk.specs.Audits.ReplayWith.{AuditsInOrder}
use Rattle.acd_book.specs.BookReads.{Anything, ReadsIfOpen}
use Rattle.acd_desk.proofs.Desks.DeskSteps.{works}
use Rattle.acd_desk.proofs.Pages.ReadsDone.{stands, without_memory, store_failed}
use Rattle.acd_terms.proofs.Results.{ok_err, same_error}

-- the audit found it
pub read_found : {T : Type 0} (b d : BookState) (w : Working) (x : T) → ReadsIfOpen {A = T} b d (Ok x) Anything → is_failed w ≡ false
    → ReadDone {A = T} (stands b w) (stands d w) (Ok x) Anything
read_found b d w x read working = record {
  step = step_so read.step (λ is. absurd (ok_err is));
  unchanged = read.unchanged;
  desk = works (stands b w) (stands d w) (λ h. ok_err h) working working (λ clean sound step opened still.
      let same = read.unchanged.same clean sound opened in
      subst (λ (c : Content). Mirrors (switch_of w) c.rows × IsCounted c) (sym same.1) (step same.0 working));
  value = λ clean sound step opened. tt;
  stays = λ clean sound opened. read.stays clean sound opened;
  shut = λ failed. absurd (true≢false (sym failed ∙ working));
  loads = λ working gone. gone;
}

-- the book answered nothing
pub read_failed : {T S : Type 0} (b d : BookState) (w : Working) (f : BookFault) → ReadsIfOpen {A = T} b d (Err f) Anything → is_failed w ≡ false
    → ReadDone {A = S} (stands b w) (stands d (left_by f w)) (Err (fault_of f)) Anything
read_failed {S = S} b d w faults.NoMemory read working =
    without_memory b d w (Anything {T = S}) read.step read.unchanged (λ h. (let same = same_error h in absurd cc)) working
read_failed {S = S} b d w faults.Store read working = store_failed b d w (Anything {T = S}) read.step read.unchanged (inl (inr (read.cause refl)))

-- the archive answered nothing
pub other_failed : {T S : Type 0} (b d : BookState) (w : Working) → ReadsIfOpen {A = T} b d (Err faults.NoMemory) Anything → is_failed w ≡ false
    → ReadDone {A = S} (stands b w) (stands d w) (Err NoMemory) Anything
other_failed {S = S} b d w read working = without_memory b d w (Anything {T = S}) read.step read.unchanged (λ h. (let same = same_error h in absurd cc)) working

-- neither answered anything: the consequence for the desk, and for the archive
pub both_failed : (a e b d : BookState) (w : Working) (f : PairFault) (P : Content → Content → ArchiveAudit → Type 0) → ReadsBoth a e b d (Err f) P
    → is_failed w ≡ false
    → ReadDone {A = ArchiveAudit} (stands b w) (stands d (left_by_pair f w)) (desk_part (Err (pair_fault f))) Anything
both_failed a e b d w (pair.Current f) P read working = read_failed {T = ArchiveAudit} b d w f read.current working
both_failed a e b d w (pair.Archive f) P read working = other_failed {T = ArchiveAudit} b d w read.current working

pub archive_neither : (a e b d : BookState) (f : PairFault) (P : Content → Content → ArchiveAudit → Type 0) → ReadsBoth a e b d (Err f) P
    → ReadsIfOpen {A = ArchiveAudit} a e (archived_part (Err (pair_fault f))) Anything
archive_neither a e b d (pair.Current f) P read = read.archive
archive_neither a e b d (pair.Archive f) P read = read.archive

-- the audit is that of both contents
pub audited_both : (a e b d : BookState) (answer : ArchiveAudit) → ReadsBoth a e b d (Ok answer) AuditsInOrder → IsAuditedWith a e b d (Ok answer)
audited_both a e b d answer read = λ clean sound current_clean current_sound opened current_opened stands ordered.
    read.value clean sound current_clean current_sound opened current_opened (record { archive = stands; current = ordered })
