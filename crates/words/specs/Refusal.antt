-- The refusals: their numbers ("Numbers given back"), their places, and the address of one that is not open.
use Rattle.std.specs.Prelude.{ℕ}
use Rattle.words.specs.declared.refusal.Refusal.{Refusal}
use Rattle.words.specs.declared.refusal.Refusal.TheVariants.{
  MapLength,
  MapRecord,
  MemoryLength,
  TableLong,
  TableCut,
  BytesAfter,
  PastTop,
  NotOpen,
  ResultLong,
  OutputShort,
  RegistersUnfit,
  ConfigLong,
  ConfigCut,
  ConfigAfter,
  NoRegister,
  Branch,
  StrapLong,
  StrapReserved,
  PastData,
  SizeZero,
  StoredTwice,
}

-- ---- numbers

-- the map's length is no multiple of 12, or over 768
abbrev pub map_length_number : ℕ
map_length_number = 1

-- a map record breaks a rule
abbrev pub map_record_number : ℕ
map_record_number = 2

-- the memory's length differs from the permitted sum
abbrev pub memory_length_number : ℕ
memory_length_number = 3

-- the boot table is over its limit
abbrev pub table_long_number : ℕ
table_long_number = 4

-- the boot table is cut short
abbrev pub table_cut_number : ℕ
table_cut_number = 5

-- 6 is withdrawn and not used again

-- bytes stand after the zero word
abbrev pub bytes_after_number : ℕ
bytes_after_number = 7

-- address plus size is over 2^32
abbrev pub past_top_number : ℕ
past_top_number = 8

-- an address is not open
abbrev pub not_open_number : ℕ
not_open_number = 9

-- the table that would be written is over the limit of a table
abbrev pub result_long_number : ℕ
result_long_number = 10

-- the output is shorter than the result
abbrev pub output_short_number : ℕ
output_short_number = 11

-- the register lists are unfit
abbrev pub registers_unfit_number : ℕ
registers_unfit_number = 12

-- the configuration table is over its limit
abbrev pub config_long_number : ℕ
config_long_number = 13

-- the configuration table ends before three zero words
abbrev pub config_cut_number : ℕ
config_cut_number = 14

-- bytes stand after the end entry
abbrev pub config_after_number : ℕ
config_after_number = 15

-- a register is not in the list
abbrev pub no_register_number : ℕ
no_register_number = 16

-- a branch is asked for
abbrev pub branch_number : ℕ
branch_number = 17

-- the strap value is over 8,191
abbrev pub strap_long_number : ℕ
strap_long_number = 18

-- the strap value is reserved
abbrev pub strap_reserved_number : ℕ
strap_reserved_number = 19

-- a section of the list has its start plus size past the data
abbrev pub past_data_number : ℕ
past_data_number = 20

-- a section of the list has size zero
abbrev pub size_zero_number : ℕ
size_zero_number = 21

-- an address that takes one write is stored twice
abbrev pub stored_twice_number : ℕ
stored_twice_number = 29

-- the number of a refusal
abbrev pub number_of : Refusal → ℕ
number_of MapLength = map_length_number
number_of (MapRecord place) = map_record_number
number_of MemoryLength = memory_length_number
number_of TableLong = table_long_number
number_of (TableCut place) = table_cut_number
number_of (BytesAfter place) = bytes_after_number
number_of (PastTop place) = past_top_number
number_of (NotOpen place address) = not_open_number
number_of ResultLong = result_long_number
number_of OutputShort = output_short_number
number_of RegistersUnfit = registers_unfit_number
number_of ConfigLong = config_long_number
number_of (ConfigCut place) = config_cut_number
number_of (ConfigAfter place) = config_after_number
number_of (NoRegister place) = no_register_number
number_of (Branch place) = branch_number
number_of StrapLong = strap_long_number
number_of StrapReserved = strap_reserved_number
number_of (PastData place) = past_data_number
number_of (SizeZero place) = size_zero_number
number_of (StoredTwice place) = stored_twice_number

-- ---- places and addresses

-- the place of a refusal, 0 where it has none
abbrev pub place_of : Refusal → ℕ
place_of MapLength = 0
place_of (MapRecord place) = place
place_of MemoryLength = 0
place_of TableLong = 0
place_of (TableCut place) = place
place_of (BytesAfter place) = place
place_of (PastTop place) = place
place_of (NotOpen place address) = place
place_of ResultLong = 0
place_of OutputShort = 0
place_of RegistersUnfit = 0
place_of ConfigLong = 0
place_of (ConfigCut place) = place
place_of (ConfigAfter place) = place
place_of (NoRegister place) = place
place_of (Branch place) = place
place_of StrapLong = 0
place_of StrapReserved = 0
place_of (PastData place) = place
place_of (SizeZero place) = place
place_of (StoredTwice place) = place

-- the lowest address that is not open, 0 of another refusal
abbrev pub address_of : Refusal → ℕ
address_of MapLength = 0
address_of (MapRecord place) = 0
address_of MemoryLength = 0
address_of TableLong = 0
address_of (TableCut place) = 0
address_of (BytesAfter place) = 0
address_of (PastTop place) = 0
address_of (NotOpen place address) = address
address_of ResultLong = 0
address_of OutputShort = 0
address_of RegistersUnfit = 0
address_of ConfigLong = 0
address_of (ConfigCut place) = 0
address_of (ConfigAfter place) = 0
address_of (NoRegister place) = 0
address_of (Branch place) = 0
address_of StrapLong = 0
address_of StrapReserved = 0
address_of (PastData place) = 0
address_of (SizeZero place) = 0
address_of (StoredTwice place) = 0
