-- Which sections a table can hold.
use Rattle.std.specs.Prelude.{◌+◌, ◌^◌, ◌≤◌, ◌<◌, ◌≡◌, List, [], ◌∷◌, length}
use Rattle.words.specs.Word.{pad_count}
use Rattle.boot_table.specs.Table.{Sect}

-- what every section of a well-formed table has: data, a size and an address that fit a word, no address past the top,
-- and as many pads as lead to a multiple of four; what the pads hold is free
pub record Valid (s : Sect) : Type 0 where
  pub some : 1 ≤ length s.body
  pub small : length s.body < 2 ^ 32
  pub top : s.address + length s.body ≤ 2 ^ 32
  pub padded : length s.pads ≡ pad_count (length s.body)

-- every section of a list has the property P
pub data All (P : Sect → Type 0) : List Sect → Type 0 where
  none : All P []
  also : {s : Sect} {ss : List Sect} → P s → All P ss → All P (s ∷ ss)
