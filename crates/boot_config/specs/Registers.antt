-- Registers that are lent: addresses xs and values vs.
use Rattle.std.specs.Prelude.{ℕ, suc, ◌+◌, ◌-◌, ◌^◌, ◌≤◌, ◌≡◌, ◌<◌, List, [], ◌∷◌, Bool, true, ◌&&◌, ltb, leb, eqb, length, Option, Some, None}
use Rattle.std.specs.Int.Bits.{bit_and, bit_or, bit_xor}
use Rattle.std.specs.Int.Count.{ones}
use Rattle.words.specs.Choice.{if}

-- how many registers are lent at most
abbrev pub most_registers : ℕ
most_registers = 1024

-- addresses that are strictly rising
unfoldable pub rising : List ℕ → Bool
rising [] = true
rising (x ∷ []) = true
rising (x ∷ y ∷ xs) = ltb x y && rising (y ∷ xs)

-- lists that are fit: of one length, at most `most_registers`, with addresses strictly rising
unfoldable pub fit : List ℕ → List ℕ → Bool
fit xs vs = eqb (length xs) (length vs) && leb (length xs) most_registers && rising xs

-- addresses that can be searched: at most `most_registers`, strictly rising
pub record Listed (xs : List ℕ) : Type 0 where
  pub few : length xs ≤ most_registers
  pub rise : rising xs ≡ true

-- the index of an address in a list, or the list's length where it is not there
unfoldable pub index_of : List ℕ → ℕ → ℕ
index_of [] a = 0
index_of (x ∷ xs) a = if (eqb x a) 0 (suc (index_of xs a))

-- a search for an address says its index, or that it is not there
abbrev pub IndexOf : List ℕ → ℕ → Option ℕ → Type 0
IndexOf xs a (Some i) = (i < length xs) × (index_of xs a ≡ i)
IndexOf xs a None = index_of xs a ≡ length xs

-- a register's new value: the old one with the clear bits removed and then the set bits put in
unfoldable pub masked : ℕ → ℕ → ℕ → ℕ
masked old put clear = bit_or (bit_and old (2 ^ 32 - 1 - clear)) put

-- the number of bits that differ, summed over all registers: the ones of old xor new, added over the lists
unfoldable pub changed_bits : List ℕ → List ℕ → ℕ
changed_bits [] new = 0
changed_bits (o ∷ old) [] = 0
changed_bits (o ∷ old) (n ∷ new) = ones (bit_xor o n) + changed_bits old new
