-- The meaning of sections at an address.
use Rattle.std.specs.Prelude.{ℕ, ◌+◌, ◌-◌, List, [], ◌∷◌, Bool, ◌&&◌, length, get_or, leb, ltb}
use Rattle.std.proofs.Math.Option.{Option, none, some}
use Rattle.words.specs.Choice.{if}
use Rattle.boot_table.specs.Table.{Sect}

-- a section covers the addresses from its own on, as many as its data has bytes
unfoldable pub covers : Sect → ℕ → Bool
covers s a = leb s.address a && ltb a (s.address + length s.body)

-- how many of the sections cover the address: that is how often they store it
unfoldable pub times : List Sect → ℕ → ℕ
times [] a = 0
times (s ∷ ss) a = if (covers s a) 1 0 + times ss a

-- the byte that a section carries at an address that it covers
unfoldable pub byte_for : Sect → ℕ → ℕ
byte_for s a = get_or s.body (a - s.address) 0

-- the first where there is one, else the second
abbrev pub or_else : Option ℕ → Option ℕ → Option ℕ
or_else none b = b
or_else (some a) b = some a

-- the byte of the last section that covers the address
unfoldable pub last_byte : List Sect → ℕ → Option ℕ
last_byte [] a = none
last_byte (s ∷ ss) a = or_else (last_byte ss a) (if (covers s a) (some (byte_for s a)) none)
