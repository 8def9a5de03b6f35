-- Laws of what is asked and answered.
use Rattle.std.specs.Prelude.{◌≡◌, ◌≢◌, ℕ, List, [], ◌∷◌, ◌++◌, map, Some}
use Rattle.http.specs.StatusCode.{reason_phrase}
use Rattle.acd_http.specs.declared.web_request.WebRequest.{WebRequest}
use Rattle.acd_http.specs.declared.web_request.WebRequest.TheVariants.{Truncated}
use Rattle.acd_http.specs.WebRequests.{Asks}
use Rattle.acd_http.specs.ReplyBytes.{phrase_of}

abbrev pub AsksOneThing : Type 0
AsksOneThing = (input : List ℕ) (a b : WebRequest) → Asks input a → Asks input b → a ≡ b

abbrev pub AsksByABeginning : Type 0
AsksByABeginning = (input more : List ℕ) (asked : WebRequest) → Asks input asked → asked ≢ Truncated → Asks (input ++ more) asked

-- the statuses that the desk answers
abbrev pub statuses : List ℕ
statuses = 200 ∷ 400 ∷ 404 ∷ 405 ∷ 409 ∷ 411 ∷ 413 ∷ 422 ∷ 431 ∷ 501 ∷ 503 ∷ 507 ∷ []

abbrev pub PhrasesAreCanonical : Type 0
PhrasesAreCanonical = map reason_phrase statuses ≡ map (λ n. Some (phrase_of n)) statuses
