-- Laws of storing: runs, and which byte stands at a place afterwards.
use mathlib.Core.Path.{◌≡◌, refl, sym, ◌∙◌, ap}
use mathlib.Core.Logic.{◌≢◌}
use mathlib.Core.List.{List, [], ◌∷◌, ◌++◌}
use mathlib.Core.Bool.{Bool, true, false}
use mathlib.Core.Option
use mathlib.Core.Option.{Option, none, some}
use Prim.Native.Nat.{ℕ, zero, suc, ◌+◌, ◌-◌, ◌≤◌, ◌<◌}
use native.Mathlib.Omega.{arith}
use native.Mathlib.Nat.{add-zero, add-suc, suc-add, add-sub_cancel_left}
use lib.ListN.{length, get_or, set, take, drop, length-set, length-take, length-drop, take-append-drop}
use lib.Seq.{get_or-set_same, get_or-set_other, length-take-le, drop-drop, sets, sets-eq}
use Rattle.words.specs.declared.ByteOrder.{ByteOrder}
use Rattle.words.specs.Choice.{if}
use Rattle.words.specs.Run.{over}
use Rattle.words.proofs.ChoiceLaws.{both_ways}
use Rattle.region_map.specs.declared.places.Region.{Region}
use Rattle.region_map.specs.Search.{Places}
use Rattle.region_map.specs.Map.{SoundMap, is_open, memory_size, place_of}
use Rattle.region_map.proofs.PlaceLaws.{place_lt, place_inj}
use Rattle.boot_table.specs.Table.{Section, End, Sect, step_at, section_at, before, read_on}
use Rattle.boot_table.proofs.StepLaws.{IsSection, section_of, body_is, length_body}
use Rattle.boot_table.proofs.ReadLaws.{read_section, read_end}
use Rattle.boot_table.specs.Valid.{All, none as All-none, also}
use Rattle.boot_table.specs.Meaning.{covers, byte_for, last_byte}
use Rattle.boot_table.proofs.MeaningLaws.{covers_true, covers_in}
use Rattle.loader.specs.Store.{store_bytes, store_all}
use Rattle.loader.specs.Load.{Opens}

-- ---- storing in turn

pub store_append : (m xs ys mem : List ℕ) (a : ℕ) → store_bytes m mem a (xs ++ ys) ≡ store_bytes m (store_bytes m mem a xs) (a + length xs) ys
unfolding store_bytes
store_append m [] ys mem a = rw add-zero
store_append m (x ∷ xs) ys mem a =
    let e : a + suc (length xs) ≡ suc a + length xs = omega arith in
    rw e (store_append m xs ys (set mem (place_of m a) x) (suc a))

pub store_all_append : (m mem : List ℕ) (xs ys : List Sect) → store_all m mem (xs ++ ys) ≡ store_all m (store_all m mem xs) ys
unfolding store_all
store_all_append m mem [] ys = refl
store_all_append m mem (x ∷ xs) ys = store_all_append m (store_bytes m mem x.address x.body) xs ys

-- memory keeps its length
pub length_store_bytes : (m mem : List ℕ) (a : ℕ) (bs : List ℕ) → length (store_bytes m mem a bs) ≡ length mem
unfolding store_bytes
length_store_bytes m mem a [] = refl
length_store_bytes m mem a (b ∷ bs) = length_store_bytes m (set mem (place_of m a) b) (suc a) bs ∙ length-set mem (place_of m a) b

pub length_store_all : (m mem : List ℕ) (ss : List Sect) → length (store_all m mem ss) ≡ length mem
unfolding store_all
length_store_all m mem [] = refl
length_store_all m mem (s ∷ ss) = length_store_all m (store_bytes m mem s.address s.body) ss ∙ length_store_bytes m mem s.address s.body

-- ---- runs

-- bytes whose places stand in a row are stored as one run
store_row : (m xs mem : List ℕ) (a p : ℕ) → ((k : ℕ) → k < length xs → place_of m (a + k) ≡ p + k) → store_bytes m mem a xs ≡ sets mem p xs
unfolding store_bytes
store_row m [] mem a p row = refl
store_row m (x ∷ xs) mem a p row =
    let e : place_of m a ≡ p = ap (place_of m) (omega arith) ∙ row 0 (omega arith) ∙ omega arith in
    rw e
    (store_row m xs (set mem p x) (suc a) (suc p) (λ k l. ap (place_of m) (omega arith) ∙ row (suc k) (omega arith) ∙ omega arith))

pub store_run : (m xs mem : List ℕ) (a p : ℕ) → ((k : ℕ) → k < length xs → place_of m (a + k) ≡ p + k) → p + length xs ≤ length mem
    → over mem p xs ≡ store_bytes m mem a xs
unfolding over
store_run m xs mem a p row fits = sym (store_row m xs mem a p row ∙ sets-eq xs mem p fits)

-- the bytes that a region takes from an address on fit into the part of memory that begins at the address's place
pub run_fits : (mem body : List ℕ) (r : Region) (a n : ℕ) → r.first ≤ a → n ≤ r.end - a → r.place + (r.end - r.first) ≤ length mem
    → length (take n body) ≤ length (take (length mem - (r.place + (a - r.first))) (drop (r.place + (a - r.first)) mem))
run_fits mem body r a n l u h = rw (length-take, length-take, length-drop) (omega arith)

-- bytes that stand in a region are stored as one run
pub region_stored : (m mem xs : List ℕ) (a : ℕ) (r : Region) → Places m r → r.first ≤ a → a < r.end → length mem ≡ memory_size m → length xs ≤ r.end - a
    → over mem (r.place + (a - r.first)) xs ≡ store_bytes m mem a xs
region_stored m mem xs a r g low high size few =
    let i = g.inside in
    store_run m xs mem a (r.place + (a - r.first)) (λ k h. g.row (a + k) (omega arith) (omega arith) ∙ omega arith) (omega arith)

-- n bytes more of a section's data are stored
pub store_more : (m mem body z : List ℕ) (a d n : ℕ) → n ≤ length (drop d body) → z ≡ store_bytes m mem (a + d) (take n (drop d body))
    → store_bytes m mem (a + d) (drop d body) ≡ store_bytes m z (a + (d + n)) (drop (d + n) body)
store_more m mem body z a d n l e =
    let k : length (take n (drop d body)) ≡ n = length-take-le n (drop d body) l in
    let s : a + (d + n) ≡ a + d + length (take n (drop d body)) = omega arith in
    ap (λ (x : List ℕ). store_bytes m mem (a + d) x) (sym (take-append-drop n (drop d body)))
    ∙ store_append m (take n (drop d body)) (drop n (drop d body)) mem (a + d) ∙ rw (s, e, drop-drop)

-- ---- storing on a walk

-- the part of a table that is lent from a section's start on is its data
pub lent_body : (t : List ℕ) (start size : ℕ) → take (start + size - start) (drop start t) ≡ take size (drop start t)
lent_body t start size = rw add-sub_cancel_left

pub lent_length : (o : ByteOrder) (t : List ℕ) (at : ℕ) {address size start next : ℕ} → IsSection o t at address size start next
    → length (take (start + size - start) (drop start t)) ≡ size
lent_length o t at {address} {size} {start} {next} i = ap length (lent_body t start size ∙ sym (body_is o t at i)) ∙ length_body o t at i

module _ (o : ByteOrder) (m mem t : List ℕ) (at : ℕ) where
  pub walk_store : {address size start next : ℕ} → step_at o t at ≡ Section address size start next
      → store_all m mem (read_on o t at).sections ≡ store_all m (store_bytes m mem address (take size (drop start t))) (read_on o t next).sections
  unfolding store_all before section_at
  walk_store {address} {size} {start} {next} e =
      rw (read_section o t at e)
      (ap (λ (b : List ℕ). store_all m (store_bytes m mem address b) (read_on o t next).sections) (body_is o t at (section_of o t at e)))

  pub walk_stored : step_at o t at ≡ End → store_all m mem (read_on o t at).sections ≡ mem
  unfolding store_all
  walk_stored e = rw (read_end o t at e)

-- ---- which byte stands at a place

-- a place that no byte goes to keeps its byte
pub bytes_miss : (m mem : List ℕ) (a : ℕ) (bs : List ℕ) (p : ℕ) → ((i : ℕ) → i < length bs → p ≢ place_of m (a + i))
    → get_or (store_bytes m mem a bs) p 0 ≡ get_or mem p 0
unfolding store_bytes
bytes_miss m mem a [] p away = refl
bytes_miss m mem a (b ∷ bs) p away =
    bytes_miss m (set mem (place_of m a) b) (suc a) bs p (λ i h. rw (suc-add, ← (add-suc a i)) (away (suc i) (omega arith)))
    ∙ get_or-set_other mem (place_of m a) p b 0 (rw add-zero at (away 0 (omega arith)))

-- n addresses from a on are open
abbrev Span : List ℕ → ℕ → ℕ → Type 0
Span m a n = (i : ℕ) → i < n → is_open m (a + i) ≡ true

span_next : (m : List ℕ) (a n : ℕ) → Span m a (suc n) → Span m (suc a) n
span_next m a n o i h = rw (suc-add, ← (add-suc a i)) (o (suc i) (omega arith))

module _ (m : List ℕ) (sound : SoundMap m) where
  -- byte i of the data stands at the place of its address
  bytes_hit : (mem : List ℕ) (a : ℕ) (bs : List ℕ) → length mem ≡ memory_size m → Span m a (length bs)
      → (i : ℕ) → i < length bs → get_or (store_bytes m mem a bs) (place_of m (a + i)) 0 ≡ get_or bs i 0
  unfolding store_bytes
  bytes_hit mem a [] l o i h = absurd (omega arith)
  bytes_hit mem a (b ∷ bs) l o zero h =
      let pa : is_open m a ≡ true = rw add-zero at (o 0 (omega arith)) in
      let next : Span m (suc a) (length bs) = span_next m a (length bs) o in
      rw add-zero
      (bytes_miss m (set mem (place_of m a) b) (suc a) bs (place_of m a) (λ i k e. omega (arith, place_inj m sound a (suc a + i) pa (next i k) e))
      ∙ get_or-set_same mem (place_of m a) b 0 (omega (arith, place_lt m sound a pa)))
  bytes_hit mem a (b ∷ bs) l o (suc i) h =
      rw (add-suc, ← (suc-add a i))
      (bytes_hit (set mem (place_of m a) b) (suc a) bs (length-set mem (place_of m a) b ∙ l) (span_next m a (length bs) o) i (omega arith))

  -- a section whose addresses are open has a span of them
  opens_span : (s : Sect) → Opens m s → Span m s.address (length s.body)
  opens_span s o i h = o (s.address + i) (covers_in s (s.address + i) (omega arith) (omega arith))

  -- the byte at the place of an open address after one section
  store_at : (mem : List ℕ) (s : Sect) → length mem ≡ memory_size m → Opens m s → (a : ℕ) → is_open m a ≡ true
      → get_or (store_bytes m mem s.address s.body) (place_of m a) 0
      ≡ Option.get_or (if (covers s a) (some (byte_for s a)) none) (get_or mem (place_of m a) 0)
  unfolding byte_for
  store_at mem s l o a p = go (covers s a) refl
    where
      span : Span m s.address (length s.body)
      span = opens_span s o

      away : covers s a ≡ false → (i : ℕ) → i < length s.body → place_of m a ≢ place_of m (s.address + i)
      away e i h f =
          let q : a ≡ s.address + i = place_inj m sound a (s.address + i) p (span i h) f in
          both_ways (covers s a) (covers_in s a (omega arith) (omega arith)) e

      go : (c : Bool) → covers s a ≡ c → get_or (store_bytes m mem s.address s.body) (place_of m a) 0
          ≡ Option.get_or (if (covers s a) (some (byte_for s a)) none) (get_or mem (place_of m a) 0)
      go true e =
          let k : s.address + (a - s.address) ≡ a = omega (arith, covers_true s a e) in
          rw e (rw k at (bytes_hit mem s.address s.body l span (a - s.address) (omega (arith, covers_true s a e))))
      go false e = rw e (bytes_miss m mem s.address s.body (place_of m a) (away e))

  -- and after all: that of the last section that covers it, else the old one
  pub store_all_at : (mem : List ℕ) {ss : List Sect} → length mem ≡ memory_size m → All (Opens m) ss → (a : ℕ) → is_open m a ≡ true
      → get_or (store_all m mem ss) (place_of m a) 0 ≡ Option.get_or (last_byte ss a) (get_or mem (place_of m a) 0)
  unfolding store_all last_byte
  store_all_at mem l All-none a p = refl
  store_all_at mem l (also {s = s} {ss = ss} o os) a p =
      store_all_at (store_bytes m mem s.address s.body) (length_store_bytes m mem s.address s.body ∙ l) os a p ∙ go (last_byte ss a) refl
    where
      go : (b : Option ℕ) → last_byte ss a ≡ b
          → Option.get_or (last_byte ss a) (get_or (store_bytes m mem s.address s.body) (place_of m a) 0)
          ≡ Option.get_or (last_byte (s ∷ ss) a) (get_or mem (place_of m a) 0)
      go none e = rw e (store_at mem s l o a p)
      go (some b) e = rw e

-- a place that is no open address's keeps its byte
pub store_all_miss : (m mem : List ℕ) {ss : List Sect} → All (Opens m) ss → (p : ℕ) → ((a : ℕ) → is_open m a ≡ true → p ≢ place_of m a)
    → get_or (store_all m mem ss) p 0 ≡ get_or mem p 0
unfolding store_all
store_all_miss m mem All-none p away = refl
store_all_miss m mem (also {s = s} {ss = ss} o os) p away =
    store_all_miss m (store_bytes m mem s.address s.body) os p away
    ∙ bytes_miss m mem s.address s.body p (λ i h. away (s.address + i) (o (s.address + i) (covers_in s (s.address + i) (omega arith) (omega arith))))
