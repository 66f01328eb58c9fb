-- What a table means does not depend on its byte order. o and p are byte orders, t and u tables, m is a map, mem memory.
use Rattle.std.specs.Prelude.{ℕ, ◌^◌, ◌<◌, ◌≡◌, List}
use Rattle.words.specs.declared.ByteOrder.{ByteOrder}
use Rattle.words.specs.Word.{Bytes}
use Rattle.boot_table.specs.Table.{Sect, table_of, entry_of, reading}
use Rattle.boot_table.specs.Form.{WellFormed}
use Rattle.boot_table.specs.Valid.{Valid, All}
use Rattle.loader.specs.Load.{judge_answer, load_answer, load_memory}

-- t in the order o and u in the order p: judging and loading answer the same, and loading leaves the same memory, whatever the map and the memory
pub record SameLoads (o p : ByteOrder) (t u : List ℕ) : Type 0 where
  pub judged : (m : List ℕ) → judge_answer o m t ≡ judge_answer p m u
  pub loaded : (m : List ℕ) (room : ℕ) → load_answer o m t room ≡ load_answer p m u room
  pub memory : (m mem : List ℕ) → load_memory o m t mem ≡ load_memory p m u mem

pub record EitherOrder : Type 0 where
  -- an entry and sections that a table can hold, written in one order and in another
  pub written : (o p : ByteOrder) (entry : ℕ) (ss : List Sect) → entry < 2 ^ 32 → All Valid ss → SameLoads o p (table_of o entry ss) (table_of p entry ss)
  -- a well-formed table in one order, and its entry and sections written in another
  pub rewritten : (o p : ByteOrder) (t : List ℕ) → Bytes t → WellFormed o t → SameLoads o p t (table_of p (entry_of o t) (reading o t).sections)
