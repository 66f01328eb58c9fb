-- The strap value: what its 13 bits select. v is a strap value.
use Rattle.std.specs.Prelude.{ℕ, ◌+◌, ◌-◌, ◌/◌, ◌%◌, ◌^◌, Bool, true, false, not, ◌&&◌, ◌||◌, List, [], ◌∷◌, ◌++◌, ltb, leb, eqb, take, replicate}
use Rattle.std.specs.Prelude.{Result, Ok, Err}
use mir.Val.{bool_byte}
use Rattle.words.specs.Choice.{if}
use Rattle.words.specs.declared.refusal.Refusal.{Refusal}
use Rattle.words.specs.declared.refusal.Refusal.TheVariants.{StrapLong, StrapReserved}
use Rattle.words.specs.Refusal.{strap_long_number, strap_reserved_number, number_of, place_of, not_open_number, address_of}
use Rattle.boot_strap.specs.declared.Manner.{Manner}
use Rattle.boot_strap.specs.declared.Manner.TheVariants.{Strict, Lenient}
use Rattle.boot_strap.specs.declared.Strap.{Strap}
use Rattle.boot_strap.specs.declared.Strap.TheVariants.{Sleep, Emif16, Link, Ethernet, Pcie, I2cMaster, I2cPassive, Spi}

-- the largest value of 13 bits
abbrev pub strap_limit : ℕ
strap_limit = 8191

-- ---- bits

-- bits high:low of a value, as a number
abbrev pub bits : ℕ → ℕ → ℕ → ℕ
bits high low v = v / 2 ^ low % 2 ^ (high - low + 1)

-- bit k of a value is one
abbrev pub is_set : ℕ → ℕ → Bool
is_set k v = eqb (bits k k v) 1

-- the device of a value is n
abbrev pub is_device : ℕ → ℕ → Bool
is_device n v = eqb (bits 2 0 v) n

-- ---- the table of kinds

-- which of the table's eight rows a value falls in: by the device; for device 0 by the sub-mode in bits 6:5, for device 5 by bit 8
abbrev pub by_row : {A : Type 0} → ℕ → A → A → A → A → A → A → A → A → A
by_row v sleep emif link ethernet pcie master passive spi =
    if (is_device 0 v) (if (eqb (bits 6 5 v) 0) sleep emif)
    (if (is_device 1 v || is_device 7 v) link
    (if (is_device 2 v || is_device 3 v) ethernet
    (if (is_device 4 v) pcie
    (if (is_device 5 v) (if (is_set 8 v) passive master)
    spi))))

-- the strap of a value: its kind, with the fields of that row
unfoldable pub strap_of : ℕ → Strap
strap_of v =
    by_row v
    (Sleep (bits 4 3 v) (is_set 7 v) (bits 12 10 v))
    (Emif16 (bits 4 3 v) (is_set 7 v) (bits 12 10 v))
    (Link (bits 2 0 v) (bits 9 3 v) (bits 12 10 v))
    (Ethernet (bits 2 0 v) (bits 9 8 v) (bits 7 6 v) (bits 5 3 v) (bits 12 10 v))
    (Pcie (bits 8 5 v) (bits 4 3 v) (bits 12 10 v))
    (I2cMaster (bits 12 3 v))
    (I2cPassive (bits 7 5 v))
    (Spi (bits 12 11 v) (is_set 10 v) (is_set 9 v) (bits 8 7 v) (bits 6 5 v) (bits 4 3 v))

-- the same in numbers: the kind's place in the table, and the fields in the table's order
unfoldable pub row_of : ℕ → List ℕ
row_of v =
    by_row v
    (0 ∷ bits 4 3 v ∷ bits 7 7 v ∷ bits 12 10 v ∷ [])
    (1 ∷ bits 4 3 v ∷ bits 7 7 v ∷ bits 12 10 v ∷ [])
    (2 ∷ bits 2 0 v ∷ bits 9 3 v ∷ bits 12 10 v ∷ [])
    (3 ∷ bits 2 0 v ∷ bits 9 8 v ∷ bits 7 6 v ∷ bits 5 3 v ∷ bits 12 10 v ∷ [])
    (4 ∷ bits 8 5 v ∷ bits 4 3 v ∷ bits 12 10 v ∷ [])
    (5 ∷ bits 12 3 v ∷ [])
    (6 ∷ bits 7 5 v ∷ [])
    (7 ∷ bits 12 11 v ∷ bits 10 10 v ∷ bits 9 9 v ∷ bits 8 7 v ∷ bits 6 5 v ∷ bits 4 3 v ∷ [])

-- ---- reserved values

-- the strict manner judges reserved bits, the lenient one ignores them
abbrev pub is_strict : Manner → Bool
is_strict Strict = true
is_strict Lenient = false

-- sub-modes 2 and 3 always; strictly also device 0 unless bits 9:8 are zero, PCIe unless bit 9 is zero,
-- and passive I2C unless bit 9 is one and bits 4:3 are zero
unfoldable pub is_reserved : Bool → ℕ → Bool
is_reserved strict v =
    if (is_device 0 v) (leb 2 (bits 6 5 v) || (strict && not (eqb (bits 9 8 v) 0)))
    (if (is_device 4 v) (strict && is_set 9 v)
    (if (is_device 5 v) (strict && is_set 8 v && not (is_set 9 v && eqb (bits 4 3 v) 0))
    false))

-- ---- decoding

-- the answer in a manner
unfoldable pub decode_as : Manner → ℕ → Result Strap Refusal
decode_as manner v =
    if (ltb strap_limit v) (Err StrapLong)
    (if (is_reserved (is_strict manner) v) (Err StrapReserved)
    (Ok (strap_of v)))

-- the same in numbers: a refusal's number and place, or zero for both and the row
unfoldable pub numbers_as : Manner → ℕ → List ℕ
numbers_as manner v =
    if (ltb strap_limit v) (strap_long_number ∷ 0 ∷ [])
    (if (is_reserved (is_strict manner) v) (strap_reserved_number ∷ 0 ∷ [])
    (0 ∷ 0 ∷ row_of v))

-- the entry that names no manner is strict
abbrev pub no_manner : Manner
no_manner = Strict

unfoldable pub decode_short : ℕ → Result Strap Refusal
decode_short v = decode_as no_manner v

unfoldable pub numbers_short : ℕ → List ℕ
numbers_short v = numbers_as no_manner v

-- ---- the cases of an answer in document 01's numbers

-- the kind's place in the table of kinds, 0 for sleep to 7 for SPI
unfoldable pub kind_of : Strap → ℕ
kind_of (Sleep sr wait clock) = 0
kind_of (Emif16 sr wait clock) = 1
kind_of (Link device number clock) = 2
kind_of (Ethernet device multiplier connection id clock) = 3
kind_of (Pcie bar sr clock) = 4
kind_of (I2cMaster number) = 5
kind_of (I2cPassive address) = 6
kind_of (Spi mode five_pin wide select table sr) = 7

-- the kind's fields in the table's order; yes is 1 and no is 0
unfoldable pub fields_of : Strap → List ℕ
fields_of (Sleep sr wait clock) = sr ∷ bool_byte wait ∷ clock ∷ []
fields_of (Emif16 sr wait clock) = sr ∷ bool_byte wait ∷ clock ∷ []
fields_of (Link device number clock) = device ∷ number ∷ clock ∷ []
fields_of (Ethernet device multiplier connection id clock) = device ∷ multiplier ∷ connection ∷ id ∷ clock ∷ []
fields_of (Pcie bar sr clock) = bar ∷ sr ∷ clock ∷ []
fields_of (I2cMaster number) = number ∷ []
fields_of (I2cPassive address) = address ∷ []
fields_of (Spi mode five_pin wide select table sr) = mode ∷ bool_byte five_pin ∷ bool_byte wide ∷ select ∷ table ∷ sr ∷ []

-- the address of a refusal that tells one
abbrev pub told_address : Refusal → List ℕ
told_address r = if (eqb (number_of r) not_open_number) (address_of r ∷ []) []

-- the number, the place, and for a strap its kind and fields. No refusal of a strap tells an address; with it the numbers tell
-- every answer.
unfoldable pub answer_numbers : Result Strap Refusal → List ℕ
answer_numbers (Err r) = number_of r ∷ place_of r ∷ told_address r
answer_numbers (Ok s) = 0 ∷ 0 ∷ kind_of s ∷ fields_of s

-- nine numbers: those of a list, and zero after
unfoldable pub nine : List ℕ → List ℕ
nine numbers = take 9 (numbers ++ replicate 9 0)

-- ---- the comparison and the board label, in the lenient manner

-- two lists of numbers are the same
unfoldable pub same_list : List ℕ → List ℕ → Bool
same_list [] [] = true
same_list [] (y ∷ ys) = false
same_list (x ∷ xs) [] = false
same_list (x ∷ xs) (y ∷ ys) = eqb x y && same_list xs ys

-- two straps have one kind and equal fields
unfoldable pub same_strap : Strap → Strap → Bool
same_strap s t = eqb (kind_of s) (kind_of t) && same_list (fields_of s) (fields_of t)

-- a comparison in numbers: a refusal's number and place, or whether the two are the same
pub record SameAnswer : Type 0 where
  pub number : ℕ
  pub place : ℕ
  pub same : Bool

abbrev pub same_refused : ℕ → ℕ → SameAnswer
same_refused number place = record { number = number; place = place; same = false }

-- the first value's refusal, the second's, or whether the two are the same
unfoldable pub same_of : Result Strap Refusal → Result Strap Refusal → SameAnswer
same_of (Err r) second = same_refused (number_of r) (place_of r)
same_of (Ok s) (Err r) = same_refused (number_of r) (place_of r)
same_of (Ok s) (Ok t) = record { number = 0; place = 0; same = same_strap s t }

-- the answer for two values, each taken leniently
unfoldable pub same_answer : ℕ → ℕ → SameAnswer
same_answer v w = same_of (decode_as Lenient v) (decode_as Lenient w)

-- what a comparison gives, in numbers
abbrev pub same_answer_of : Result Bool Refusal → SameAnswer
same_answer_of (Err r) = same_refused (number_of r) (place_of r)
same_answer_of (Ok same) = record { number = 0; place = 0; same = same }

-- a board label in numbers: a refusal's number and place, or the label's number
pub record LabelAnswer : Type 0 where
  pub number : ℕ
  pub place : ℕ
  pub label : ℕ

-- the board label's number: the kind's place in the table of kinds
unfoldable pub label_of : Result Strap Refusal → LabelAnswer
label_of (Err r) = record { number = number_of r; place = place_of r; label = 0 }
label_of (Ok s) = record { number = 0; place = 0; label = kind_of s }

-- the answer for a value, taken leniently
unfoldable pub label_answer : ℕ → LabelAnswer
label_answer v = label_of (decode_as Lenient v)

-- what a label gives, in numbers
abbrev pub label_answer_of : Result ℕ Refusal → LabelAnswer
label_answer_of (Err r) = record { number = number_of r; place = place_of r; label = 0 }
label_answer_of (Ok label) = record { number = 0; place = 0; label = label }
