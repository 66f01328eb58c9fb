-- Which bytes of a table are pads, and tables that differ in these alone. What a pad holds is free. t and u are tables, o their byte order.
use Rattle.std.specs.Prelude.{ℕ, ◌+◌, ◌≡◌, List, [], ◌∷◌, Bool, false, ◌&&◌, ◌||◌, length, get_or, leb, ltb}
use Rattle.words.specs.declared.ByteOrder.{ByteOrder}
use Rattle.boot_table.specs.Table.{Sect, next_of, reading}

-- offset i stands in the pads of the section of size data bytes at offset at: after its data, and before what stands next
unfoldable pub in_pads : ℕ → ℕ → ℕ → Bool
in_pads at size i = leb (at + 8 + size) i && ltb i (next_of at size)

-- offset i stands in the pads of one of the sections from offset at on
unfoldable pub pad_from : ℕ → List Sect → ℕ → Bool
pad_from at [] i = false
pad_from at (s ∷ ss) i = in_pads at (length s.body) i || pad_from (next_of at (length s.body)) ss i

-- offset i of a table is a pad of one of its sections
abbrev pub is_pad : ByteOrder → List ℕ → ℕ → Bool
is_pad o t i = pad_from 4 (reading o t).sections i

-- t and u differ in pad bytes alone: they have one length, and the same byte at each offset that is no pad of t
pub record DifferInPads (o : ByteOrder) (t u : List ℕ) : Type 0 where
  pub long : length t ≡ length u
  pub same : (i : ℕ) → is_pad o t i ≡ false → get_or t i 0 ≡ get_or u i 0

-- a section without its pads
unfoldable pub bare : Sect → Sect
bare s = record { address = s.address; body = s.body; pads = [] }
