-- Objects whose members are named, and may be missing.
use Rattle.std.specs.Prelude.{ℕ, List, [], ◌∷◌, codes, Option, Some, None, option_map}
use Rattle.serde_json.specs.Data.{Data, string, number, array, object, unsigned, Items, no_items, item, Members, member, no_members}
use Rattle.acd_terms.specs.Forms.{digits_of}

-- a name, and its value, if any
pub data Part : Type 0 where
  part : List ℕ → Option Data → Part

abbrev pub text_part : List ℕ → Option (List ℕ) → Part
text_part k t = part k (option_map string t)

abbrev pub number_part : List ℕ → Option ℕ → Part
number_part k n = part k (option_map (λ (x : ℕ). number (unsigned x)) n)

abbrev pub list_part : List ℕ → Items → Part
list_part k ds = part k (Some (array ds))

-- the members that are there, in the order of the parts, and the others after them
abbrev pub written_before : List Part → Members → Members
written_before [] more = more
written_before (part k None ∷ ps) more = written_before ps more
written_before (part k (Some d) ∷ ps) more = member k d (written_before ps more)

abbrev pub written_parts : List Part → Members
written_parts ps = written_before ps no_members

abbrev pub object_of : List Part → Data
object_of ps = object (written_parts ps)

-- one item each
abbrev pub items_of : {T : Type 0} → (T → Data) → List T → Items
items_of f [] = no_items
items_of f (x ∷ xs) = item (f x) (items_of f xs)

-- a device or an agent by its digits
abbrev pub digits_data : ℕ → Data
digits_data n = string (digits_of n)

abbrev pub digits_part : List ℕ → Option ℕ → Part
digits_part k n = text_part k (option_map digits_of n)

-- the groups of an agent: `group` where there is one, `groups` where there are more
abbrev pub groups_parts : List ℕ → List Part
groups_parts [] = []
groups_parts (g ∷ []) = digits_part (codes "group") (Some g) ∷ []
groups_parts (g ∷ h ∷ gs) = list_part (codes "groups") (items_of digits_data (g ∷ h ∷ gs)) ∷ []
