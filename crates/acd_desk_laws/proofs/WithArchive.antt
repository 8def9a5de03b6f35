-- A content that continues a sound archive is sound with it.
use Rattle.std.proofs.Common.{List, sym, ap, subst, ◌∙◌}
use Rattle.acd_terms.specs.declared.command.Arrival.{Arrival}
use Rattle.acd_book.specs.Content.{Content}
use Rattle.acd_desk.specs.Contents.SoundContent.{arrivals_of, IsSound}
use Rattle.acd_desk.specs.Contents.CarriedContent.{Archive, together, joined, NoneSentAgain}
use Rattle.acd_desk.specs.Contents.WithArchive.{IsSoundWith}
use Rattle.acd_desk.proofs.Contents.RunsOfAnyContent.{sound_led}
use Rattle.acd_desk.proofs.Contents.SoundRuns.{ran_sound}
use Rattle.acd_desk.proofs.Contents.OlderRecords.{cut_again}
use Rattle.acd_desk_laws.proofs.CarriedRuns.{run_of_all}

pub audits_with_archive : (a c : Content) (goes : IsSoundWith a c) → IsSound a → IsSound (together goes.left c)
audits_with_archive a c goes sound =
    let list : List Arrival = arrivals_of goes.newer in
    subst IsSound (sym (goes.made ∙ sound_led a list sound)) (ran_sound a list sound)

pub audits_link_by_link : (p : Archive) (a c : Content) (goes : IsSoundWith a c) → IsSound (together p a) → NoneSentAgain p (arrivals_of goes.newer) → IsSound (together (joined p goes.left) c)
audits_link_by_link p a c goes sound new =
    subst IsSound (sym (ap (together p) goes.made) ∙ (cut_again p goes.left c).content) (run_of_all p a (arrivals_of goes.newer) sound new).sound
