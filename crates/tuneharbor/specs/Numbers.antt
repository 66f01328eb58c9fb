-- Answers as lists of numbers, in the order of the answer arrays.
use Rattle.std.specs.Prelude.{ℕ, List, [], ◌∷◌, Bool, true, false}
use mir.Val.{bool_byte}
use Rattle.words.specs.declared.ByteOrder.{ByteOrder}
use Rattle.words.specs.declared.ByteOrder.TheVariants.{HighFirst, LowFirst}
use Rattle.region_map.specs.Map.{MapAnswer}
use Rattle.loader.specs.Load.{Answer}
use Rattle.joiner.specs.Join.{JoinAnswer}
use Rattle.writer.specs.Write.{WriteAnswer}
use Rattle.query.specs.Find.{FindAnswer}
use Rattle.rescue.specs.Rescue.{RescueAnswer}
use Rattle.boot_config.specs.Config.{ConfigAnswer}
use Rattle.boot_strap.specs.declared.Manner.{Manner}
use Rattle.boot_strap.specs.declared.Manner.TheVariants.{Strict, Lenient}
use Rattle.boot_strap.specs.Strap.{SameAnswer, LabelAnswer}

-- number, place, permitted sum
unfoldable pub map_numbers : MapAnswer → List ℕ
map_numbers r = r.number ∷ r.place ∷ r.bytes ∷ []

-- number, place, address, entry, whether the entry is open, sections, bytes
unfoldable pub load_numbers : Answer → List ℕ
load_numbers r = r.number ∷ r.place ∷ r.address ∷ r.entry ∷ bool_byte r.entry_open ∷ r.sections ∷ r.bytes ∷ []

-- number, place, which table, length, sections
unfoldable pub join_numbers : JoinAnswer → List ℕ
join_numbers r = r.number ∷ r.place ∷ r.which ∷ r.length ∷ r.sections ∷ []

-- number, place, length, sections
unfoldable pub write_numbers : WriteAnswer → List ℕ
write_numbers r = r.number ∷ r.place ∷ r.length ∷ r.sections ∷ []

-- number, place, table, offset, length, bytes read
unfoldable pub find_numbers : FindAnswer → List ℕ
find_numbers r = r.number ∷ r.place ∷ r.table ∷ r.offset ∷ r.length ∷ r.read ∷ []

-- number, place, length, sections, bytes not used, whether the zero word was added
unfoldable pub rescue_numbers : RescueAnswer → List ℕ
rescue_numbers r = r.number ∷ r.place ∷ r.length ∷ r.sections ∷ r.unused ∷ bool_byte r.added ∷ []

-- number, place, entries, bits
unfoldable pub config_numbers : ConfigAnswer → List ℕ
config_numbers r = r.number ∷ r.place ∷ r.entries ∷ r.bits ∷ []

-- the byte order that the flag low_first asks for
abbrev pub order_of : Bool → ByteOrder
order_of true = LowFirst
order_of false = HighFirst

-- the manner that the flag strict asks for
abbrev pub manner_of : Bool → Manner
manner_of true = Strict
manner_of false = Lenient

-- number, place, same
unfoldable pub same_numbers : SameAnswer → List ℕ
same_numbers r = r.number ∷ r.place ∷ bool_byte r.same ∷ []

-- number, place, label
unfoldable pub label_numbers : LabelAnswer → List ℕ
label_numbers r = r.number ∷ r.place ∷ r.label ∷ []
