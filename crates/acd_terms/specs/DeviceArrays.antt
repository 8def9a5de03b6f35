-- At most eight devices held in place: those of a list, and after them the device of the one digit 0.
use Rattle.std.specs.Prelude.{◌≡◌, ℕ, ◌≤◌, ◌-◌, ◌++◌, List, length, take, replicate}
use Rattle.std.proofs.Common.{arith, length-take-le, sym}

-- the first len of eight cells are held, and the others are 10
pub record AreHeld (cells : List ℕ) (len : ℕ) : Type 0 where
  pub fits : len ≤ 8
  pub cells_are : cells ≡ take len cells ++ replicate (8 - len) 10
  pub size_is : length cells ≡ 8

pub len-inverse : (cells : List ℕ) (len : ℕ) → AreHeld cells len → length (take len cells) ≡ len
len-inverse cells len h = length-take-le len cells (omega (arith, h.fits, h.size_is))

pub cells-inverse : (cells : List ℕ) (len : ℕ) → AreHeld cells len → take len cells ++ replicate (8 - length (take len cells)) 10 ≡ cells
cells-inverse cells len h = rw (len-inverse cells len h) (sym h.cells_are)
