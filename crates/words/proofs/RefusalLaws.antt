-- The number, the place and the address of a refusal tell which it is.
use Prim.Native.Nat.{ℕ, ◌≤◌}
use mathlib.Core.Path.{◌≡◌, refl, sym, ◌∙◌}
use native.Mathlib.Omega.{arith}
use lib.Dec.{eqb}
use Rattle.words.specs.Choice.{if}
use Rattle.words.specs.declared.refusal.Refusal.{Refusal}
use Rattle.words.specs.declared.refusal.Refusal.TheVariants.{
  MapLength,
  MapRecord,
  MemoryLength,
  TableLong,
  TableCut,
  BytesAfter,
  PastTop,
  NotOpen,
  ResultLong,
  OutputShort,
  RegistersUnfit,
  ConfigLong,
  ConfigCut,
  ConfigAfter,
  NoRegister,
  Branch,
  StrapLong,
  StrapReserved,
  PastData,
  SizeZero,
  StoredTwice,
}
use Rattle.words.specs.Refusal.{not_open_number, number_of, place_of, address_of}

-- the refusal of a number, a place and an address
told : ℕ → ℕ → ℕ → Refusal
told n p a =
    if (eqb n 1) MapLength
    (if (eqb n 2) (MapRecord p)
    (if (eqb n 3) MemoryLength
    (if (eqb n 4) TableLong
    (if (eqb n 5) (TableCut p)
    (if (eqb n 7) (BytesAfter p)
    (if (eqb n 8) (PastTop p)
    (if (eqb n 9) (NotOpen p a)
    (if (eqb n 10) ResultLong
    (if (eqb n 11) OutputShort
    (if (eqb n 12) RegistersUnfit
    (if (eqb n 13) ConfigLong
    (if (eqb n 14) (ConfigCut p)
    (if (eqb n 15) (ConfigAfter p)
    (if (eqb n 16) (NoRegister p)
    (if (eqb n 17) (Branch p)
    (if (eqb n 18) StrapLong
    (if (eqb n 19) StrapReserved
    (if (eqb n 20) (PastData p)
    (if (eqb n 21) (SizeZero p)
    (StoredTwice p))))))))))))))))))))

told_back : (r : Refusal) → told (number_of r) (place_of r) (address_of r) ≡ r
unfolding told
told_back MapLength = refl
told_back (MapRecord place) = refl
told_back MemoryLength = refl
told_back TableLong = refl
told_back (TableCut place) = refl
told_back (BytesAfter place) = refl
told_back (PastTop place) = refl
told_back (NotOpen place address) = refl
told_back ResultLong = refl
told_back OutputShort = refl
told_back RegistersUnfit = refl
told_back ConfigLong = refl
told_back (ConfigCut place) = refl
told_back (ConfigAfter place) = refl
told_back (NoRegister place) = refl
told_back (Branch place) = refl
told_back StrapLong = refl
told_back StrapReserved = refl
told_back (PastData place) = refl
told_back (SizeZero place) = refl
told_back (StoredTwice place) = refl

-- refusals of equal numbers, places and addresses are equal
pub same_refusal : (r s : Refusal) → number_of r ≡ number_of s → place_of r ≡ place_of s → address_of r ≡ address_of s → r ≡ s
same_refusal r s n p a = sym (told_back r) ∙ rw (n, p, a) (told_back s)

-- no refusal has the number 0
pub number_least : (r : Refusal) → 1 ≤ number_of r
number_least MapLength = omega arith
number_least (MapRecord place) = omega arith
number_least MemoryLength = omega arith
number_least TableLong = omega arith
number_least (TableCut place) = omega arith
number_least (BytesAfter place) = omega arith
number_least (PastTop place) = omega arith
number_least (NotOpen place address) = omega arith
number_least ResultLong = omega arith
number_least OutputShort = omega arith
number_least RegistersUnfit = omega arith
number_least ConfigLong = omega arith
number_least (ConfigCut place) = omega arith
number_least (ConfigAfter place) = omega arith
number_least (NoRegister place) = omega arith
number_least (Branch place) = omega arith
number_least StrapLong = omega arith
number_least StrapReserved = omega arith
number_least (PastData place) = omega arith
number_least (SizeZero place) = omega arith
number_least (StoredTwice place) = omega arith

pub number_some : (r : Refusal) → number_of r ≡ 0 → ⊥
number_some r z = omega (arith, number_least r)

-- only an address that is not open is told
pub no_address : (r : Refusal) → (number_of r ≡ not_open_number → ⊥) → address_of r ≡ 0
no_address MapLength n = refl
no_address (MapRecord place) n = refl
no_address MemoryLength n = refl
no_address TableLong n = refl
no_address (TableCut place) n = refl
no_address (BytesAfter place) n = refl
no_address (PastTop place) n = refl
no_address (NotOpen place address) n = absurd (n refl)
no_address ResultLong n = refl
no_address OutputShort n = refl
no_address RegistersUnfit n = refl
no_address ConfigLong n = refl
no_address (ConfigCut place) n = refl
no_address (ConfigAfter place) n = refl
no_address (NoRegister place) n = refl
no_address (Branch place) n = refl
no_address StrapLong n = refl
no_address StrapReserved n = refl
no_address (PastData place) n = refl
no_address (SizeZero place) n = refl
no_address (StoredTwice place) n = refl
