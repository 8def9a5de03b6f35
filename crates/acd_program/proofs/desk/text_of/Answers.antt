use Rattle.std.proofs.Common.{◌≡◌, Some, sym, subst}
use Rattle.acd_book.specs.Content.{Content}
use Rattle.acd_desk.specs.Desks.DeskState.{state_of}
use Rattle.acd_desk.specs.Contents.SoundContent.{IsSound}
use Rattle.acd_desk.specs.Contents.CarriedContent.{Archive, together}
use Rattle.acd_desk.specs.Reads.DeskReads.{ReadDone}
use Rattle.acd_desk.specs.Reads.ReadAnswers.{text_read}
use Rattle.acd_desk.proofs.Pages.ReadsDone.{read_follows}
use Rattle.acd_command.specs.declared.asked.Printout.{Printout}
use Rattle.acd_program.specs.Commands.Work.{printout_text}
use Rattle.acd_program.proofs.Commands.Works.{export_text}
use Rattle.acd_program.proofs.desk.text_of.Goals as goal

pub returns-in-Export : goal.returns-in-Export
returns-in-Export g c =
    subst (λ (t : Printout). ReadDone (state_of g.B.Book c.args.desk.now) (state_of g.B.Book c.export.new.self) c.export.result (λ (x : Content) (text : _). (p : Archive) → IsSound (together p x) → text_read text ≡ Some (printout_text t x))) (sym c.in-Export.is)
    (read_follows (state_of g.B.Book c.args.desk.now) (state_of g.B.Book c.export.new.self) c.export.result _ _ (λ x text. export_text x text) c.export.ensures)
