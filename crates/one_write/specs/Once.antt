-- Addresses that take one write in a load: the first section that stores one again. m is a map, t a table, o its byte order.
use Rattle.std.specs.Prelude.{ℕ, zero, suc, ◌≤◌, ◌≡◌, List, [], ◌∷◌, ◌++◌, Bool, true, false, ◌&&◌, ◌||◌, length, leb}
use Rattle.words.specs.declared.ByteOrder.{ByteOrder}
use Rattle.words.specs.Choice.{if}
use Rattle.region_map.specs.Map.{once}
use Rattle.boot_table.specs.Table.{Sect, next_of, reading}
use Rattle.boot_table.specs.Meaning.{times}
use Rattle.std.specs.Prelude.{Option, None, Some}

-- the address a takes one write, and one of the sections stores it
unfoldable pub written : List ℕ → List Sect → ℕ → Bool
written m ss a = once m a && leb 1 (times ss a)

-- one of the n addresses from a on takes one write, and an earlier section stores it
unfoldable pub repeats_from : List ℕ → List Sect → ℕ → ℕ → Bool
repeats_from m earlier zero a = false
repeats_from m earlier (suc n) a = written m earlier a || repeats_from m earlier n (suc a)

-- the first section that stores such an address again, of those from offset at on, which stand behind the earlier ones
unfoldable pub repeat_from : List ℕ → ℕ → List Sect → List Sect → Option ℕ
repeat_from m at earlier [] = None
repeat_from m at earlier (s ∷ ss) =
    if (repeats_from m earlier (length s.body) s.address) (Some at)
    (repeat_from m (next_of at (length s.body)) (earlier ++ s ∷ []) ss)

-- the first section of a table that does
unfoldable pub first_repeat : ByteOrder → List ℕ → List ℕ → Option ℕ
first_repeat o m t = repeat_from m 4 [] (reading o t).sections

-- the sections store no address of kind 3 twice
abbrev pub StoresOnce : List ℕ → List Sect → Type 0
StoresOnce m ss = (a : ℕ) → once m a ≡ true → times ss a ≤ 1

-- no address of kind 3 is stored by both
abbrev pub NoneInBoth : List ℕ → List Sect → List Sect → Type 0
NoneInBoth m xs ys = (a : ℕ) → once m a ≡ true → 1 ≤ times xs a → 1 ≤ times ys a → ⊥
