-- Why a prune takes nothing out of a content.
use Rattle.std.specs.Prelude.{◌⊎◌, ℕ, ◌∷◌, [], None}
use Rattle.acd_book.specs.Content.{Content}
use Rattle.acd_sql_columns.specs.Relations.{relations_of}
use Rattle.acd_sql_columns.specs.Transactions.{Fits}
use Rattle.acd_sql_columns.specs.Values.{id_value}
use Rattle.acd_sql_columns.specs.declared.tables.Log.TheVariants as log
use Rattle.acd_sql_statements.specs.WriteRefusals.{RefusesOn}
use Rattle.acd_sql_statements.specs.UpTo.{text_up_to, without_up_to}

-- no column can hold the stamp, or the number
abbrev pub IsUnfitPrune : ℕ → ℕ → Type 0
IsUnfitPrune stamp number = ¬ (Fits stamp × Fits number)

-- the store refuses to take out the kept records up to the stamp or, without them, the events up to the number
abbrev pub RefusesPrune : ℕ → ℕ → Content → Type 0
RefusesPrune stamp number c =
    RefusesOn (text_up_to log.Kept) (id_value stamp ∷ []) None (relations_of c)
    ⊎ RefusesOn (text_up_to log.Events) (id_value number ∷ []) None (without_up_to log.Kept stamp (relations_of c))

abbrev pub StopsPrune : ℕ → ℕ → Content → Type 0
StopsPrune stamp number c = IsUnfitPrune stamp number ⊎ RefusesPrune stamp number c
