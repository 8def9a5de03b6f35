-- Changes one after another, and those of moves.
use Rattle.std.proofs.Common.{◌≡◌, [], ◌∷◌, ◌++◌, List, refl, ap, ◌∙◌}
use Rattle.acd_terms.specs.declared.rows.Rows.{Rows}
use Rattle.acd_model.specs.declared.moves.Move.{Move}
use Rattle.acd_model.specs.declared.moves.Change.{Change}
use Rattle.acd_model.specs.declared.moves.Change.TheVariants.{Nothing}
use Rattle.acd_model.specs.Moves.{changed, moved}
use Rattle.acd_model.specs.Changes.{with_change, changes_of, changed_by}

pub changed_by_append : (s : Rows) (changes more : List Change) → changed_by s (changes ++ more) ≡ changed_by (changed_by s changes) more
changed_by_append s [] more = refl
changed_by_append s (one ∷ changes) more = changed_by_append (changed s one) changes more

pub with_change-append : (one : Change) (changes more : List Change) → with_change one (changes ++ more) ≡ with_change one changes ++ more
with_change-append Nothing changes more = refl
with_change-append _ changes more = refl

pub changed_with : (s : Rows) (one : Change) (changes : List Change) → changed_by s (with_change one changes) ≡ changed_by (changed s one) changes
changed_with s Nothing changes = refl
changed_with s _ changes = refl

pub changes_of_append : (moves more : List Move) → changes_of (moves ++ more) ≡ changes_of moves ++ changes_of more
changes_of_append [] more = refl
changes_of_append (one ∷ moves) more = ap (with_change one.change) (changes_of_append moves more) ∙ with_change-append one.change (changes_of moves) (changes_of more)

-- moves make of a state what their changes make of it
pub moved_by_changes : (s : Rows) (moves : List Move) → changed_by s (changes_of moves) ≡ moved s moves
moved_by_changes s [] = refl
moved_by_changes s (one ∷ moves) = changed_with s one.change (changes_of moves) ∙ moved_by_changes (changed s one.change) moves
