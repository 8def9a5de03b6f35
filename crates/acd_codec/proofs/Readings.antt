-- The request of a text, from what its reading gave.
use Rattle.std.proofs.Common.{◌≡◌, ℕ, List, Bool, true, false, Some, None, Err, refl, ◌∙◌}
use Rattle.std.specs.Option.{is_some}
use Rattle.std.specs.Str.{is_utf8, IsUtf8}
use Rattle.std.proofs.lemmas.Str.{IsUtf8-from_is_utf8, is_utf8-from_IsUtf8}
use Rattle.serde_json.specs.Data.{Data}
use Rattle.serde_json.specs.Read.{read}
use Rattle.serde_json.specs.Find.{as_object}
use Rattle.acd_codec.specs.declared.member.Member.TheVariants as member
use Rattle.acd_codec.specs.RequestReading.{reads_as, request_in, request_from}

pub reads_value : (bytes : List ℕ) (d : Data) → IsUtf8 bytes → read bytes ≡ Some d → reads_as bytes ≡ request_from (Some d)
unfolding reads_as
reads_value bytes d text e = rw (is_utf8-from_IsUtf8 bytes text, e) refl

pub reads_object : (bytes : List ℕ) (d : Data) → IsUtf8 bytes → read bytes ≡ Some d → is_some (as_object d) ≡ true → reads_as bytes ≡ request_in d
reads_object bytes d text e object = reads_value bytes d text e ∙ rw object refl

if_text : (bytes : List ℕ) (b : Bool) → is_utf8 bytes ≡ b → (IsUtf8 bytes → read bytes ≡ None) → reads_as bytes ≡ Err member.Json
unfolding reads_as
if_text bytes true text refused = rw (text, refused (IsUtf8-from_is_utf8 bytes text)) refl
if_text bytes false no_text refused = rw no_text refl

pub reads_none : (bytes : List ℕ) → (IsUtf8 bytes → read bytes ≡ None) → reads_as bytes ≡ Err member.Json
reads_none bytes refused = if_text bytes (is_utf8 bytes) refl refused
