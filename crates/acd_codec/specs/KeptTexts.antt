-- The request whose one text bytes are.
use Rattle.std.specs.Prelude.{ℕ, List, Option, Some, None, option_and_then, if◌then◌else◌}
use Rattle.std.specs.Result.{result_ok}
use Rattle.std.specs.Str.{bytes_eq}
use Rattle.acd_terms.specs.declared.command.Request.{Request}
use Rattle.acd_codec.specs.RequestReading.{reads_as}
use Rattle.acd_codec.specs.RequestTexts.{request_text}

-- the request, if these are the bytes of its text
abbrev pub if_written : List ℕ → Request → Option Request
if_written bytes request = if bytes_eq bytes (request_text request) then Some request else None

-- the bytes represent a request, and are the text that is written for it
unfoldable pub request_of_text : List ℕ → Option Request
request_of_text bytes = option_and_then (if_written bytes) (result_ok (reads_as bytes))
