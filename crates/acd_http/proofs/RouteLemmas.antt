-- The route of a path, by reading it as text.
use Rattle.std.proofs.Common.{◌≡◌, ℕ, List, Bool, true, false, Option, None, refl, ap, ◌∙◌}
use Rattle.std.specs.Str.{is_utf8, IsUtf8}
use Rattle.std.proofs.lemmas.Str.{IsUtf8-from_is_utf8, is_utf8-from_IsUtf8}
use Rattle.acd_http.specs.declared.routes.Route.{Route}
use Rattle.acd_http.specs.Routing.{matched, route_of}

pub route_text : (path text : List ℕ) (r : Option Route) → text ≡ path → IsUtf8 path → r ≡ matched text → r ≡ route_of path
unfolding route_of
route_text path text r same utf8 e = rw (is_utf8-from_IsUtf8 path utf8) (e ∙ ap matched same)

no_text : (path : List ℕ) (b : Bool) → is_utf8 path ≡ b → (IsUtf8 path → ⊥) → None ≡ route_of path
unfolding route_of
no_text path true e other = absurd (other (IsUtf8-from_is_utf8 path e))
no_text path false e other = rw e refl

pub route_none : (path : List ℕ) → (IsUtf8 path → ⊥) → None ≡ route_of path
route_none path other = no_text path (is_utf8 path) refl other
