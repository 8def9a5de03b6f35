-- Text held in place: the bytes of a list, and zeros after them.
use Rattle.std.specs.Prelude.{◌≡◌, ℕ, ◌≤◌, ◌-◌, ◌++◌, List, length, take, replicate, true}
use Rattle.std.specs.List.{list_all}
use Rattle.std.specs.Char.{is_ascii}
use Rattle.std.proofs.Common.{arith, length-take-le, sym}

-- the first len of size cells are characters of ASCII, and the others are 0
pub record IsHeld (size : ℕ) (cells : List ℕ) (len : ℕ) : Type 0 where
  pub fits : len ≤ size
  pub cells_are : cells ≡ take len cells ++ replicate (size - len) 0
  pub size_is : length cells ≡ size
  pub ascii : list_all is_ascii (take len cells) ≡ true

pub len-inverse : (size : ℕ) (cells : List ℕ) (len : ℕ) → IsHeld size cells len → length (take len cells) ≡ len
len-inverse size cells len h = length-take-le len cells (omega (arith, h.fits, h.size_is))

pub cells-inverse : (size : ℕ) (cells : List ℕ) (len : ℕ) → IsHeld size cells len → take len cells ++ replicate (size - length (take len cells)) 0 ≡ cells
cells-inverse size cells len h = rw (len-inverse size cells len h) (sym h.cells_are)
