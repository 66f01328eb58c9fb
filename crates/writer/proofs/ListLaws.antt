-- Laws of a list of sections, gone through from its first on.
use Prim.Native.Nat.{ℕ, ◌+◌, ◌<◌}
use mathlib.Core.Path.{◌≡◌, refl}
use mathlib.Core.List.{List, [], ◌∷◌, ◌++◌}
use native.Mathlib.Numerals.{add-one}
use lib.ListN.{length, drop, get_or}
use lib.Seq.{drop-cons}
use Rattle.words.specs.declared.ByteOrder.{ByteOrder}
use Rattle.boot_table.specs.Table.{chunk, chunks}
use Rattle.writer.specs.declared.Section.{Section}
use Rattle.writer.specs.Write.{sect_of, sects_of, fault_of, Faultless, also}

-- what `get_or` answers past the end of a list, where nothing is read
abbrev pub no_section : Section
no_section = record { address = 0; start = 0; size = 0 }

-- what is left at an index begins with the section of the index
pub rest_cons : (xs : List Section) (i : ℕ) → i < length xs → drop i xs ≡ get_or xs i no_section ∷ drop (i + 1) xs
rest_cons xs i h = rw add-one (drop-cons xs i no_section h)

-- where no section has a fault, the first has none, and neither have the others
pub faultless_cons : {n : ℕ} {x : Section} {xs : List Section} → Faultless n (x ∷ xs) → (fault_of x n ≡ 0) × Faultless n xs
faultless_cons (also z s) = (z, s)

-- a list without sections has no bytes
pub sects_none : (o : ByteOrder) (d : List ℕ) → length (chunks o (sects_of [] d)) ≡ 0
unfolding chunks sects_of
sects_none o d = refl

-- the bytes of a list: those of its first section, and then those of the others
pub sects_cons : (o : ByteOrder) (x : Section) (xs : List Section) (d : List ℕ) → chunks o (sects_of (x ∷ xs) d) ≡ chunk o (sect_of d x) ++ chunks o (sects_of xs d)
unfolding chunks sects_of
sects_cons o x xs d = refl
