-- Request 11: any order, if nothing is shared. t is a table, u one with its sections rearranged; A and B are a and b, ab and ba outputs for their joins; o is one byte order for all tables; m is a map, mem memory.
use Rattle.std.specs.Prelude.{ℕ, ◌+◌, ◌≤◌, ◌≡◌, ◌↔◌, true, length}
use mathlib.Core.List.{List, [], ◌∷◌, Permᴰ}
use Rattle.words.specs.declared.ByteOrder.{ByteOrder}
use Rattle.words.specs.Word.{Bytes}
use Rattle.region_map.specs.Map.{is_open}
use Rattle.boot_table.specs.Table.{Sect, entry_of, reading}
use Rattle.boot_table.specs.Form.{total, WellFormed}
use Rattle.boot_table.specs.Meaning.{covers, times}
use Rattle.boot_table.specs.Valid.{All}
use Rattle.loader.specs.Load.{Answer, load_memory}
use Rattle.joiner.specs.Join.{join_output}
use Rattle.laws.specs.Calls.{join_in, rearranged_of, RearrangedAnswers, rearranged_answers, BothWays, both_ways}
use Rattle.laws.specs.Demand3.{IsAccepted, Joinable, IsJoin}

-- ---- the request's terms

-- the second list is a rearrangement of the first: the same sections, each as often, in any order
pub data Rearranged : List Sect → List Sect → Type 0 where
  nothing : Rearranged [] []
  -- the first section stays, and those behind it are rearranged
  stay : {s : Sect} {xs ys : List Sect} → Rearranged xs ys → Rearranged (s ∷ xs) (s ∷ ys)
  -- the first two sections change places
  swap : {x y : Sect} {ss : List Sect} → Rearranged (x ∷ y ∷ ss) (y ∷ x ∷ ss)
  -- rearranged once, and then again
  again : {xs ys zs : List Sect} → Rearranged xs ys → Rearranged ys zs → Rearranged xs zs

-- two sections share no address
abbrev pub ShareNone : Sect → Sect → Type 0
ShareNone x y = (a : ℕ) → covers x a ≡ true → covers y a ≡ true → ⊥

-- sections share no address with one another: the first shares none with any behind it, and so on
pub data AllShareNone : List Sect → Type 0 where
  empty : AllShareNone []
  more : {s : Sect} {ss : List Sect} → All (ShareNone s) ss → AllShareNone ss → AllShareNone (s ∷ ss)

-- the sections of one table share no address with those of another
abbrev pub TablesShareNone : List Sect → List Sect → Type 0
TablesShareNone xs ys = All (λ x. All (ShareNone x) ys) xs

-- u is t with its sections rearranged: it is well-formed, and has t's entry and t's sections in any order
pub record RearrangedTable (o : ByteOrder) (t u : List ℕ) : Type 0 where
  pub form : WellFormed o u
  pub entry : entry_of o u ≡ entry_of o t
  pub sections : Rearranged (reading o t).sections (reading o u).sections

-- t's entry and the sections ss make such a table: one of bytes, that reads as ss and is as long as t
pub record MakesTable (o : ByteOrder) (t : List ℕ) (ss : List Sect) : Type 0 where
  pub table : RearrangedTable o t (rearranged_of o t ss)
  pub bytes : Bytes (rearranged_of o t ss)
  pub sections : (reading o (rearranged_of o t ss)).sections ≡ ss
  pub size : length (rearranged_of o t ss) ≡ length t

-- ---- results, of the answers r and of what the lent buffers hold after the calls (written with a prime)

-- a table of the sections ss and one with them rearranged were loaded from the same bytes of memory
pub record LoadsAlike (ss : List Sect) (r : RearrangedAnswers) (original' rearranged' : List ℕ) : Type 0 where
  -- the rearranged table is accepted exactly where the original is
  pub accepted : (IsAccepted r.rearranged) ↔ (IsAccepted r.original)
  -- with the same answer: entry, yes or no for it, and counts
  pub answer : IsAccepted r.original → r.rearranged ≡ r.original
  -- and refused with the same number where that is refused
  pub number : r.rearranged.number ≡ r.original.number
  -- it leaves the same memory, at every byte, if the sections share no address with one another
  pub memory : AllShareNone ss → rearranged' ≡ original'

-- the answer for an accepted join of the sections xs and ys: the entry that is named, yes or no for it, and the summed counts
abbrev pub join_loaded : List ℕ → ℕ → List Sect → List Sect → Answer
join_loaded m entry xs ys = record {
  number = 0;
  place = 0;
  address = 0;
  entry = entry;
  entry_open = is_open m entry;
  sections = length xs + length ys;
  bytes = total xs + total ys;
}

-- A was joined with B, and B with A, and the joins were loaded from the same bytes of memory
pub record JoinsAlike (o : ByteOrder) (m a b ab ba : List ℕ) (r : BothWays) (ab' ba' abMemory' baMemory' : List ℕ) : Type 0 where
  -- each join is document 01's
  pub ab_joined : IsJoin o a b ab r.ab ab'
  pub ba_joined : IsJoin o b a ba r.ba ba'
  -- they have the same length and section count
  pub joined : r.ba ≡ r.ab
  -- the one is accepted exactly where the other is
  pub accepted : (IsAccepted r.ba_loaded) ↔ (IsAccepted r.ab_loaded)
  -- with the same counts, and each with the entry of its own second table
  pub ab_answer : IsAccepted r.ab_loaded → r.ab_loaded ≡ join_loaded m (entry_of o b) (reading o a).sections (reading o b).sections
  pub ba_answer : IsAccepted r.ab_loaded → r.ba_loaded ≡ join_loaded m (entry_of o a) (reading o a).sections (reading o b).sections
  -- and where the one is refused, so is the other, with the same number
  pub number : r.ba_loaded.number ≡ r.ab_loaded.number
  -- they leave the same memory, at every byte, if the two tables share no address
  pub memory : TablesShareNone (reading o a).sections (reading o b).sections → baMemory' ≡ abMemory'

-- ---- the request

pub record AnyOrder : Type 0 where
  -- the rearrangements of a list are its permutations, as the kit has them
  pub permutations : (xs ys : List Sect) → (Rearranged xs ys) ↔ (Permᴰ xs ys)
  -- sections share no address with one another exactly when no address is stored twice
  pub none_twice : (ss : List Sect) → (AllShareNone ss) ↔ ((a : ℕ) → times ss a ≤ 1)
  -- and those of two tables share none exactly when no address is stored by both
  pub none_by_both : (xs ys : List Sect) → (TablesShareNone xs ys) ↔ ((a : ℕ) → 1 ≤ times xs a → 1 ≤ times ys a → ⊥)
  -- two sections of which one ends where the other begins, or before it, share none: near and touching are not sharing
  pub near : (x y : Sect) → x.address + length x.body ≤ y.address → (ShareNone x y) × (ShareNone y x)
  -- every rearrangement of a well-formed table's sections makes a table with its entry
  pub tables : (o : ByteOrder) (t : List ℕ) (ss : List Sect) → Bytes t → WellFormed o t → Rearranged (reading o t).sections ss
      → MakesTable o t ss
  -- and there is no other
  pub only : (o : ByteOrder) (t u : List ℕ) → Bytes u → RearrangedTable o t u → u ≡ rearranged_of o t (reading o u).sections
  -- any byte order, any well-formed table and any rearrangement of it, any map, with records of kind 3 or without, and any memory, whatever bytes that holds
  pub loads : (o : ByteOrder) (t u m mem : List ℕ) → WellFormed o t → RearrangedTable o t u
      → LoadsAlike (reading o t).sections (rearranged_answers o m t u mem mem) (load_memory o m t mem) (load_memory o m u mem)
  -- any byte order, any well-formed tables A and B whose join fits, any outputs with room, any map, and any memory
  pub joins : (o : ByteOrder) (a b ab ba m mem : List ℕ) → Bytes a → Bytes b → Joinable o a b ab → Joinable o b a ba
      → JoinsAlike o m a b ab ba (both_ways o m a b ab ba mem mem)
      (join_output o a b ab) (join_output o b a ba) (load_memory o m (join_in o a b ab) mem) (load_memory o m (join_in o b a ba) mem)
