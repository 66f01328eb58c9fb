-- Which manner is used by the calls that are given none, and what the two manners give. v and w are strap values.
use Rattle.std.specs.Prelude.{ℕ, ◌≡◌, Bool, false, not, ◌&&◌, ◌||◌, ltb, leb, eqb, Result, Ok, Err}
use Rattle.words.specs.Choice.{if}
use Rattle.words.specs.declared.refusal.Refusal.{Refusal}
use Rattle.words.specs.declared.refusal.Refusal.TheVariants.{StrapLong, StrapReserved}
use Rattle.boot_strap.specs.declared.Manner.TheVariants.{Strict, Lenient}
use Rattle.boot_strap.specs.declared.Strap.{Strap}
use Rattle.boot_strap.specs.Strap.{bits, is_set, is_device, strap_of, decode_as, numbers_as}
use Rattle.boot_strap.specs.Strap.{decode_short, numbers_short, same_of, same_answer, label_of, label_answer}

-- sub-mode 2 or 3 of device 0, which is always refused
abbrev pub refused_sub_mode : ℕ → Bool
refused_sub_mode v = is_device 0 v && leb 2 (bits 6 5 v)

-- a reserved bit is wrong: bits 9:8 of device 0 are not zero, bit 9 of PCIe is not zero,
-- or of passive I2C bit 9 is not one or bits 4:3 are not zero
abbrev pub wrong_bit : ℕ → Bool
wrong_bit v =
    if (is_device 0 v) (not (eqb (bits 9 8 v) 0))
    (if (is_device 4 v) (is_set 9 v)
    (if (is_device 5 v) (is_set 8 v && not (is_set 9 v && eqb (bits 4 3 v) 0))
    false))

-- 18 for a value over 8,191, 19 where the test holds, else the strap
abbrev pub decoded_unless : Bool → ℕ → Result Strap Refusal
decoded_unless test v =
    if (ltb 8191 v) (Err StrapLong)
    (if test (Err StrapReserved)
    (Ok (strap_of v)))

pub record EntryManners : Type 0 where
  -- for every value the short entry's answer is the strict manner's: it decodes exactly the values that the strict manner does
  pub short : (v : ℕ) → decode_short v ≡ decode_as Strict v
  pub numbers : (v : ℕ) → numbers_short v ≡ numbers_as Strict v
  -- the comparison and the label go by the answers of the lenient manner
  pub same : (v w : ℕ) → same_answer v w ≡ same_of (decode_as Lenient v) (decode_as Lenient w)
  pub label : (v : ℕ) → label_answer v ≡ label_of (decode_as Lenient v)
  -- the strict manner gives 19 for the two sub-modes and for a wrong reserved bit, the lenient one for the sub-modes alone
  pub strict : (v : ℕ) → decode_as Strict v ≡ decoded_unless (refused_sub_mode v || wrong_bit v) v
  pub lenient : (v : ℕ) → decode_as Lenient v ≡ decoded_unless (refused_sub_mode v) v
