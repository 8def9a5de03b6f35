use Rattle.std.proofs.Common.{◌≡◌, Ok, Err, rules, sym, subst, ◌∙◌}
use Rattle.acd_book.specs.Content.{Content}
use Rattle.acd_desk.specs.declared.audit.ArchiveAudit.{ArchiveAudit}
use Rattle.acd_desk.specs.declared.audit.AuditFault.{AuditFault}
use Rattle.acd_desk.specs.Audits.ArchiveAudits.{desk_part, archived_part, pair_fault, IsAuditedWith}
use Rattle.acd_book.specs.BookReads.{ReadsIfOpen}
use Rattle.acd_desk.specs.Desks.DeskState.{state_of}
use Rattle.acd_desk.specs.Reads.DeskReads.{ReadDone}
use Rattle.acd_desk.specs.Audits.ReplayWith.{AuditsInOrder}
use Rattle.acd_desk.proofs.Archives.ArchiveAuditReads.{read_found, both_failed, archive_neither, audited_both}
use Rattle.acd_desk.proofs.desk.Desk.audit_with.Goals as goal

pub returns-in-Ok-clause-read : goal.returns-in-Ok-clause-read
returns-in-Ok-clause-read g c = read_found (g.B.Book.state c.args.self.now.book) (g.B.Book.state c.audited.new.self.book.now) c.args.self.now.working c.in-Ok.audit c.in-Ok.ensures.read.current (sym c.has_failed.ensures ∙ c.if-has_failed.false)

pub returns-in-Ok-clause-archive : goal.returns-in-Ok-clause-archive
returns-in-Ok-clause-archive g c =
    let lent : c.archive-1.given.0 ≡ c.audited.new.self.archive.now = search rules in
    subst (λ (x : _). ReadsIfOpen {A = ArchiveAudit} (g.A.Book.state c.args.archive.now) (g.A.Book.state x) (Ok c.in-Ok.audit) (λ (k : Content) (found : ArchiveAudit). Unit {0})) (sym lent) c.in-Ok.ensures.read.archive

pub returns-in-Ok-clause-audited : goal.returns-in-Ok-clause-audited
returns-in-Ok-clause-audited g c =
    let lent : c.archive-1.given.0 ≡ c.audited.new.self.archive.now = search rules in
    subst (λ (x : _). IsAuditedWith (g.A.Book.state c.args.archive.now) (g.A.Book.state x) (g.B.Book.state c.args.self.now.book) (g.B.Book.state c.audited.new.self.book.now) (Ok c.in-Ok.audit)) (sym lent)
    (audited_both (g.A.Book.state c.args.archive.now) (g.A.Book.state c.audited.new.self.archive.now) (g.B.Book.state c.args.self.now.book) (g.B.Book.state c.audited.new.self.book.now) c.in-Ok.audit c.in-Ok.ensures.read)

pub returns-in-Err-clause-read : goal.returns-in-Err-clause-read
returns-in-Err-clause-read g c =
    subst (λ (x : AuditFault). ReadDone {A = ArchiveAudit} (state_of g.B.Book c.args.self.now) (state_of g.B.Book c.pair_failed.new.self) (desk_part (Err x)) (λ (k : Content) (found : ArchiveAudit). Unit {0})) (sym c.pair_failed.ensures.fault)
    (subst (λ (d : _). ReadDone {A = ArchiveAudit} (state_of g.B.Book c.args.self.now) (state_of g.B.Book d) (desk_part (Err (pair_fault c.in-Err.fault))) (λ (k : Content) (found : ArchiveAudit). Unit {0})) (sym c.pair_failed.ensures.left)
    (both_failed (g.A.Book.state c.args.archive.now) (g.A.Book.state c.audited.new.self.archive.now) (g.B.Book.state c.args.self.now.book) (g.B.Book.state c.audited.new.self.book.now) c.args.self.now.working c.in-Err.fault AuditsInOrder c.in-Err.ensures.read
    (sym c.has_failed.ensures ∙ c.if-has_failed.false)))

pub returns-in-Err-clause-archive : goal.returns-in-Err-clause-archive
returns-in-Err-clause-archive g c =
    let lent : c.archive-1.given.0 ≡ c.audited.new.self.archive.now = search rules in
    subst (λ (x : _). ReadsIfOpen {A = ArchiveAudit} (g.A.Book.state c.args.archive.now) (g.A.Book.state x) (archived_part (Err c.pair_failed.result)) (λ (k : Content) (found : ArchiveAudit). Unit {0})) (sym lent)
    (subst (λ (x : AuditFault). ReadsIfOpen {A = ArchiveAudit} (g.A.Book.state c.args.archive.now) (g.A.Book.state c.audited.new.self.archive.now) (archived_part (Err x)) (λ (k : Content) (found : ArchiveAudit). Unit {0})) (sym c.pair_failed.ensures.fault)
    (archive_neither (g.A.Book.state c.args.archive.now) (g.A.Book.state c.audited.new.self.archive.now) (g.B.Book.state c.args.self.now.book) (g.B.Book.state c.audited.new.self.book.now) c.in-Err.fault AuditsInOrder c.in-Err.ensures.read))
