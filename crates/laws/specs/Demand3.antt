-- Demand 3: joining means loading in turn. A, B and C are a, b and c, lists of bytes; o is one byte order for all tables; m is a map, mem memory; out, ab, left, bc, right are outputs.
use Rattle.std.specs.Prelude.{ℕ, ◌+◌, ◌-◌, ◌≤◌, ◌≡◌, ◌↔◌, List, [], ◌∷◌, ◌++◌, true, length, take, drop}
use Rattle.words.specs.declared.ByteOrder.{ByteOrder}
use Rattle.words.specs.Word.{Bytes}
use Rattle.region_map.specs.Map.{SoundMap, memory_size}
use Rattle.boot_table.specs.Table.{Sect, table_of, entry_of, reading}
use Rattle.boot_table.specs.Form.{table_limit, WellFormed}
use Rattle.boot_table.specs.Meaning.{covers, byte_for}
use Rattle.one_write.specs.Once.{NoneInBoth}
use Rattle.loader.specs.Load.{Answer, load_answer, load_memory}
use Rattle.joiner.specs.Join.{JoinAnswer, join_output}
use Rattle.laws.specs.Calls.{join_in, TurnAnswers, turn_answers, ThreeAnswers, three_answers, swap_of, RearrangedAnswers, rearranged_answers}

-- ---- the demand's terms

-- a table is accepted when loading it gives an accepted answer
abbrev pub IsAccepted : Answer → Type 0
IsAccepted r = r.number ≡ 0

-- two sections carry equal bytes at every address that they share
abbrev pub Agree : Sect → Sect → Type 0
Agree x y = (a : ℕ) → covers x a ≡ true → covers y a ≡ true → byte_for x a ≡ byte_for y a

-- ---- side conditions

-- well-formed tables A and B whose join fits the length limit, and an output with room
pub record Joinable (o : ByteOrder) (a b out : List ℕ) : Type 0 where
  pub first : WellFormed o a
  pub second : WellFormed o b
  pub fits : length a + length b - 8 ≤ table_limit
  pub room : length a + length b - 8 ≤ length out

-- a sound map and memory of its size
pub record Fitting (m mem : List ℕ) : Type 0 where
  pub sound : SoundMap m
  pub size : length mem ≡ memory_size m

-- three well-formed tables whose full join fits, and an output with room for each of the four joins
pub record Joinable3 (o : ByteOrder) (a b c ab left bc right : List ℕ) : Type 0 where
  pub first : WellFormed o a
  pub second : WellFormed o b
  pub third : WellFormed o c
  pub fits : length a + length b + length c - 16 ≤ table_limit
  pub room_ab : length a + length b - 8 ≤ length ab
  pub room_left : length a + length b + length c - 16 ≤ length left
  pub room_bc : length b + length c - 8 ≤ length bc
  pub room_right : length a + length b + length c - 16 ≤ length right

-- an accepted table of just two sections, x and y
pub record TwoSections (o : ByteOrder) (t m mem : List ℕ) (x y : Sect) : Type 0 where
  pub accepted : IsAccepted (load_answer o m t (length mem))
  pub sections : (reading o t).sections ≡ x ∷ y ∷ []

-- ---- results, of the answers r and of what the lent buffers hold after the calls (written with a prime)

-- A was joined with B
pub record IsJoin (o : ByteOrder) (a b out : List ℕ) (r : JoinAnswer) (out' : List ℕ) : Type 0 where
  -- the call succeeds, and the join's length and count are document 01's
  pub answer : r
      ≡ record {
        number = 0;
        place = 0;
        which = 0;
        length = length a + length b - 8;
        sections = length (reading o a).sections + length (reading o b).sections;
      }
  -- its bytes are document 01's: B's entry, A's sections, B's sections, zero word
  pub bytes : take r.length out' ≡ table_of o (entry_of o b) ((reading o a).sections ++ (reading o b).sections)
  -- output bytes past the result are not touched
  pub past : drop r.length out' ≡ drop r.length out

-- A was joined with B and the join loaded, and A and then B were loaded into another memory that held the same bytes
pub record InTurn (o : ByteOrder) (m a b out : List ℕ) (r : TurnAnswers) (out' whole' turn' : List ℕ) : Type 0 where
  -- the join's bytes, length and count are document 01's
  pub joined : IsJoin o a b out r.joined out'
  -- the join is accepted exactly when A and B both are and no address of kind 3 is stored by both
  pub accepted : (IsAccepted r.whole)
      ↔ ((IsAccepted r.first) × (IsAccepted r.second) × (NoneInBoth m (reading o a).sections (reading o b).sections))
  -- once accepted it leaves, at every byte, what loading A and then B into the same memory leaves
  pub memory : IsAccepted r.whole → whole' ≡ turn'
  -- with B's entry, B's yes or no, and the summed counts
  pub answer : IsAccepted r.whole
      → r.whole
      ≡ record {
        number = 0;
        place = 0;
        address = 0;
        entry = r.second.entry;
        entry_open = r.second.entry_open;
        sections = r.first.sections + r.second.sections;
        bytes = r.first.bytes + r.second.bytes;
      }

-- A was joined with B and the result with C, and A with the join of B and C
pub record Associative (o : ByteOrder) (a b c ab left bc right : List ℕ) (r : ThreeAnswers) (ab' left' bc' right' : List ℕ) : Type 0 where
  -- each of the four joins is document 01's; one that is joined again is its output's first bytes, as many as it reported
  pub ab_joined : IsJoin o a b ab r.ab ab'
  pub left_joined : IsJoin o (take r.ab.length ab') c left r.left left'
  pub bc_joined : IsJoin o b c bc r.bc bc'
  pub right_joined : IsJoin o a (take r.bc.length bc') right r.right right'
  -- both ways give the same bytes
  pub bytes : take r.left.length left' ≡ take r.right.length right'
  -- and the same length and section count
  pub answer : r.left ≡ r.right

-- a table of the sections x and y, and the one with the two swapped, were loaded from the same bytes of memory
pub record Swapped (x y : Sect) (r : RearrangedAnswers) (original' swapped' : List ℕ) : Type 0 where
  -- swapping gives an accepted table
  pub accepted : IsAccepted r.rearranged
  -- with the same answer
  pub answer : r.rearranged ≡ r.original
  -- and it leaves the same memory exactly when the two carry equal bytes at every address they share
  pub memory : (swapped' ≡ original') ↔ (Agree x y)

-- ---- the demand

pub record Demand3 : Type 0 where
  -- any byte order, any well-formed tables A and B whose join fits, any output with room, any sound map, and any memory of its size, whatever bytes that holds
  pub two_tables : (o : ByteOrder) (a b out m mem : List ℕ) → Bytes a → Bytes b → Joinable o a b out → Fitting m mem
      → InTurn o m a b out (turn_answers o m a b out mem mem)
      (join_output o a b out) (load_memory o m (join_in o a b out) mem) (load_memory o m b (load_memory o m a mem))
  -- any byte order, any three well-formed tables whose full join fits, given output room
  pub three_tables : (o : ByteOrder) (a b c ab left bc right : List ℕ) → Bytes a → Bytes b → Bytes c → Joinable3 o a b c ab left bc right
      → Associative o a b c ab left bc right (three_answers o a b c ab left bc right)
      (join_output o a b ab) (join_output o (join_in o a b ab) c left) (join_output o b c bc) (join_output o a (join_in o b c bc) right)
  -- any byte order, any accepted table of just two sections
  pub two_swapped : (o : ByteOrder) (t m mem : List ℕ) (x y : Sect) → Bytes t → TwoSections o t m mem x y
      → Swapped x y (rearranged_answers o m t (swap_of o t x y) mem mem) (load_memory o m t mem) (load_memory o m (swap_of o t x y) mem)
