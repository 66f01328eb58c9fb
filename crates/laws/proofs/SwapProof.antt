-- Demand 3, the part about a table of two sections.
use Prim.Native.Nat.{ℕ}
use mathlib.Core.Path.{◌≡◌, sym, ◌∙◌, ap}
use mathlib.Core.List.{List, [], ◌∷◌}
use mathlib.Core.Bool.{true}
use mathlib.Core.Option
use mathlib.Core.Option.{Option, some}
use lib.ListN.{length, get_or}
use Rattle.words.specs.declared.ByteOrder.{ByteOrder}
use Rattle.words.specs.Word.{Bytes}
use Rattle.region_map.specs.Map.{is_open, place_of}
use Rattle.boot_table.specs.Table.{Sect, reading}
use Rattle.boot_table.specs.Meaning.{covers, byte_for, last_byte}
use Rattle.boot_table.specs.Valid.{All, none as All-none, also}
use Rattle.loader.specs.Load.{load_answer, load_memory, Opens, Accepted}
use Rattle.loader.proofs.LoadLaws.{accepted_iff, loaded_at}
use Rattle.laws.specs.Calls.{swap_of, rearranged_answers}
use Rattle.laws.specs.Demand3.{Agree, TwoSections, Swapped}
use Rattle.laws.specs.Rearranging.{Rearranged, swap, RearrangedTable, MakesTable}
use Rattle.laws.proofs.RearrangedLaws.{last_swap, makes_table, rearranged_accepted, rearranged_answer, rearranged_memory}

-- ---- the last byte of two sections

-- the second decides where it covers the address
last_second : (x y : Sect) (a : ℕ) → covers y a ≡ true → last_byte (x ∷ y ∷ []) a ≡ some (byte_for y a)
unfolding last_byte
last_second x y a c = rw c

-- ---- an accepted table of two sections, and at every address of the later one its byte

module _ (o : ByteOrder) (t m mem : List ℕ) (x y : Sect) (k : Accepted o m t (length mem)) (two : (reading o t).sections ≡ x ∷ y ∷ []) where
  open_second : (a : ℕ) → covers y a ≡ true → is_open m a ≡ true
  open_second = go (rw two at k.opens)
    where
      go : All (Opens m) (x ∷ y ∷ []) → (a : ℕ) → covers y a ≡ true → is_open m a ≡ true
      go (also p (also q All-none)) = q

  later_byte : (a : ℕ) → covers y a ≡ true → get_or (load_memory o m t mem) (place_of m a) 0 ≡ byte_for y a
  later_byte a c =
      loaded_at o m t mem k a (open_second a c)
      ∙ ap (λ (b : Option ℕ). Option.get_or b (get_or mem (place_of m a) 0)) (ap (λ (ss : List Sect). last_byte ss a) two ∙ last_second x y a c)

-- ---- the table with the two swapped

module _ (o : ByteOrder) (t m mem : List ℕ) (x y : Sect) (bytes : Bytes t) (s : TwoSections o t m mem x y) where
  k : Accepted o m t (length mem)
  k = (accepted_iff o m t (length mem)).0 s.accepted

  rearranged : Rearranged (reading o t).sections (y ∷ x ∷ [])
  rearranged = rw s.sections swap

  made : MakesTable o t (y ∷ x ∷ [])
  made = makes_table o t (y ∷ x ∷ []) bytes k.form rearranged

  table : RearrangedTable o t (swap_of o t x y)
  table = made.table

  sections_swapped : (reading o (swap_of o t x y)).sections ≡ y ∷ x ∷ []
  sections_swapped = made.sections

  -- it is accepted with the same answer
  k_swapped : Accepted o m (swap_of o t x y) (length mem)
  k_swapped = (rearranged_accepted o m t (swap_of o t x y) k.form table.form table.sections (length mem)).0 k

  same_answer : load_answer o m (swap_of o t x y) (length mem) ≡ load_answer o m t (length mem)
  same_answer = rearranged_answer o m t (swap_of o t x y) k.form table.form table.sections (length mem) table.entry k

  -- and leaves the same memory exactly when the two sections agree
  agree_same : Agree x y → load_memory o m (swap_of o t x y) mem ≡ load_memory o m t mem
  agree_same g =
      rearranged_memory o m t (swap_of o t x y) k.form table.form table.sections mem
      (λ a. rw (sections_swapped, s.sections) (last_swap x y [] a g))

  same_agree : load_memory o m (swap_of o t x y) mem ≡ load_memory o m t mem → Agree x y
  same_agree e a c d =
      sym (later_byte o (swap_of o t x y) m mem y x k_swapped sections_swapped a c)
      ∙ ap (λ (r : List ℕ). get_or r (place_of m a) 0) e
      ∙ later_byte o t m mem x y k s.sections a d

  pub swapped : Swapped x y (rearranged_answers o m t (swap_of o t x y) mem mem) (load_memory o m t mem) (load_memory o m (swap_of o t x y) mem)
  swapped = record { accepted = (accepted_iff o m (swap_of o t x y) (length mem)).1 k_swapped; answer = same_answer; memory = (same_agree, agree_same) }
