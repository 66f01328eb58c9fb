-- Writing and then loading: an accepted table stores the listed data, in the order of the list, and nothing else.
-- xs is a list of sections, d its data, t a table, o its byte order, m a map, mem memory.
use Rattle.std.specs.Prelude.{ℕ, ◌+◌, ◌^◌, ◌<◌, ◌≡◌, ◌↔◌, List, [], ◌∷◌, length}
use Rattle.words.specs.declared.ByteOrder.{ByteOrder}
use Rattle.region_map.specs.Map.{SoundMap, memory_size, is_open}
use Rattle.boot_table.specs.Valid.{All}
use Rattle.one_write.specs.Once.{StoresOnce}
use Rattle.loader.specs.Store.{store_bytes}
use Rattle.loader.specs.Load.{load_answer, load_memory, Opens}
use Rattle.writer.specs.declared.Section.{Section}
use Rattle.writer.specs.Write.{data_of, sects_of}
use Rattle.writer.specs.Trips.{Writable, written_in}

-- memory after the data of each section of the list was stored from its address on, in the order of the list
unfoldable pub store_listed : List ℕ → List ℕ → List ℕ → List Section → List ℕ
store_listed m mem d [] = mem
store_listed m mem d (x ∷ xs) = store_listed m (store_bytes m mem x.address (data_of d x)) d xs

-- how many bytes a list names
unfoldable pub listed_bytes : List Section → ℕ
listed_bytes [] = 0
listed_bytes (x ∷ xs) = x.size + listed_bytes xs

-- when what is written from a list is accepted: a sound map, memory of its size, every listed address open, and none of kind 3 listed twice
pub record ListAccepted (m : List ℕ) (xs : List Section) (d : List ℕ) (room : ℕ) : Type 0 where
  pub sound : SoundMap m
  pub size : room ≡ memory_size m
  pub opens : All (Opens m) (sects_of xs d)
  pub once : StoresOnce m (sects_of xs d)

-- loading t into mem: accepted exactly when the list is; then the answer has the entry and the list's counts, and memory is the listed data stored in turn
pub record LoadsListed (o : ByteOrder) (m : List ℕ) (entry : ℕ) (xs : List Section) (d mem t : List ℕ) : Type 0 where
  pub accepts : ((load_answer o m t (length mem)).number ≡ 0) ↔ (ListAccepted m xs d (length mem))
  pub answer : (load_answer o m t (length mem)).number ≡ 0 → load_answer o m t (length mem)
      ≡ record { number = 0; place = 0; address = 0; entry = entry; entry_open = is_open m entry; sections = length xs; bytes = listed_bytes xs }
  pub memory : (load_answer o m t (length mem)).number ≡ 0 → load_memory o m t mem ≡ store_listed m mem d xs

-- so in every order, wherever the table can be written, and for every map and memory
abbrev pub WrittenLoads : Type 0
WrittenLoads = (o : ByteOrder) (m : List ℕ) (entry : ℕ) (xs : List Section) (d out mem : List ℕ)
    → entry < 2 ^ 32 → Writable o entry xs d (length out) → LoadsListed o m entry xs d mem (written_in o entry xs d out)
