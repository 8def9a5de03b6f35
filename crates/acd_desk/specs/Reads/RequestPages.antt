-- A page of the requests that a desk has executed, as text.
use Rattle.std.specs.Prelude.{◌≡◌, ℕ, List, ◌++◌, codes, decimal, flat_map, String, string_bytes}
use Rattle.std.specs.List.{join_by}
use Rattle.acd_codec.specs.RequestTexts.{request_text}
use Rattle.acd_book.specs.declared.kept.Kept.{Kept}

-- the end of a request: its stamp and its status
abbrev pub stamp_text : Kept → List ℕ
stamp_text k = codes ",\"stamp\":" ++ (decimal k.stamp ++ (codes ",\"status\":" ++ (decimal k.status ++ codes "}")))

-- a request: its executed moment, its reply as it is kept, the request itself, its stamp and its status
unfoldable pub executed_text : Kept → List ℕ
executed_text k =
    codes "{\"moment\":" ++ (decimal k.moment
    ++ (codes ",\"reply\":" ++ (k.body
    ++ (codes ",\"request\":" ++ (request_text k.request ++ stamp_text k)))))

-- requests after another
abbrev pub further_texts : List Kept → List ℕ
further_texts kept = flat_map (λ (k : Kept). codes "," ++ executed_text k) kept

-- some requests, beside the stamp of the last one of all
unfoldable pub requests_text : List Kept → ℕ → List ℕ
requests_text kept last = codes "{\"last\":" ++ decimal last ++ codes ",\"requests\":[" ++ join_by executed_text (codes ",") kept ++ codes "]}"

-- a text is written after what was there
abbrev pub Writes : {Z : Type 0} → String Z → String Z → List ℕ → Type 0
Writes old new text = string_bytes new ≡ string_bytes old ++ text
