-- For private clauses: a writer of CSV into memory.
use Rattle.std.specs.Prelude.{◌≡◌, ℕ, ◌++◌, ◌∷◌, [], List, false, Vec, Result, OnOk}
use Rattle.csv.specs.Records.{Row, fields_of}
use Rattle.csv.specs.Writing.{default_writer, fields_written, has_written, writer_pending, writer_setup, writer_under}
use Rattle.csv.specs.declared.writer.Writer.{Writer}

-- all that was written
abbrev pub all_written : {Z : Type 0} → Writer (Vec ℕ Z) → List ℕ
all_written w = (writer_under w).items ++ writer_pending w

-- the writer writes by default, and is between two records
pub record IsExportWriter {Z : Type 0} (w : Writer (Vec ℕ Z)) : Type 0 where
  pub setup : writer_setup w ≡ default_writer
  pub fields : fields_written w ≡ 0
  pub clean : has_written w ≡ false

-- a record that is being filled gets one more field, unless memory ran out
abbrev pub AddsField : {E : Type 0} → Result (Unit {0}) E → Row → Row → List ℕ → Type 0
AddsField r old new field = OnOk r (fields_of new ≡ fields_of old ++ (field ∷ []))

-- some text was written
pub record Adds {Z : Type 0} (old : Writer (Vec ℕ Z)) (text : List ℕ) (new : Writer (Vec ℕ Z)) : Type 0 where
  pub plain : IsExportWriter new
  pub adds : all_written new ≡ all_written old ++ text
