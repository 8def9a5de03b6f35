-- The path and the query of a request's target (RFC 9112, section 3.2).
use Rattle.std.specs.Prelude.{ℕ, List, [], ◌∷◌, map, take, drop, Bool, ◌||◌, ◌==◌, if◌then◌else◌, codes}
use Rattle.std.specs.Char.{to_ascii_lowercase}
use Rattle.std.specs.Str.{bytes_eq}

-- it begins with `http://`, whatever the case
abbrev pub is_absolute : List ℕ → Bool
is_absolute target = bytes_eq (map to_ascii_lowercase (take 7 target)) (codes "http://")

-- a slash or a question mark
abbrev pub begins_path : ℕ → Bool
begins_path x = (x == 47) || (x == 63)

-- the bytes from the first slash or question mark on
unfoldable pub from_path : List ℕ → List ℕ
from_path [] = []
from_path (x ∷ xs) = if begins_path x then x ∷ xs else from_path xs

-- the part before the first question mark
unfoldable pub before_mark : List ℕ → List ℕ
before_mark [] = []
before_mark (x ∷ xs) = if x == 63 then [] else x ∷ before_mark xs

-- the rest after it
unfoldable pub after_mark : List ℕ → List ℕ
after_mark [] = []
after_mark (x ∷ xs) = if x == 63 then xs else after_mark xs

abbrev pub or_root : List ℕ → List ℕ
or_root [] = 47 ∷ []
or_root (x ∷ xs) = x ∷ xs

-- an absolute target loses its scheme and authority, and its path is `/` where it has none
unfoldable pub path_of : List ℕ → List ℕ
path_of target = if is_absolute target then or_root (before_mark (from_path (drop 7 target))) else before_mark target

unfoldable pub query_of : List ℕ → List ℕ
query_of target = if is_absolute target then after_mark (from_path (drop 7 target)) else after_mark target
