-- Bits.
use Rattle.std.specs.Prelude.{ℕ, Bool, true, false, not, ◌&&◌, nat_eq, nat_lt}

-- bits
abbrev pub writing_bits : Bool → Bool → ℕ
writing_bits true is_of_group = 0o200
writing_bits false true = 0o020
writing_bits false false = 0o022

-- a byte of a path that mounts show as it is: no blank, nothing below it, no backslash
abbrev pub is_shown_plain : ℕ → Bool
is_shown_plain byte = nat_lt 32 byte && not (nat_eq byte 92)
