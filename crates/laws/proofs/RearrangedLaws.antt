-- Laws of rearranged sections: what a rearrangement keeps, and the tables and loads of rearranged sections.
use Prim.Native.Nat.{ℕ, ◌+◌, ◌-◌, ◌≤◌}
use mathlib.Core.Path.{◌≡◌, refl, sym, ◌∙◌, ap}
use mathlib.Core.Logic.{◌↔◌, by_cases}
use mathlib.Core.List.{List, [], ◌∷◌, ◌++◌, Permᴰ, append-nil}
use mathlib.Core.Bool.{Bool, true, false}
use mathlib.Core.Option.{Option, none, some}
use native.Mathlib.Decide.{dec_le}
use native.Mathlib.Omega.{arith}
use lib.ListN.{length, drop, length-append}
use Rattle.words.specs.declared.ByteOrder.{ByteOrder}
use Rattle.words.specs.Word.{Bytes}
use Rattle.words.specs.Header.{header_bytes}
use Rattle.words.proofs.WordLaws.{bytes_take, bytes_drop, bytes_append, bytes_parts}
use Rattle.words.proofs.HeaderLaws.{header_lt, written_bytes}
use Rattle.boot_table.specs.Table.{Sect, Reading, chunk, chunks, table_of, entry_of, reading}
use Rattle.boot_table.specs.Form.{total, WellFormed}
use Rattle.boot_table.specs.Meaning.{covers, times, last_byte}
use Rattle.boot_table.specs.Valid.{All, none as All-none, also}
use Rattle.boot_table.proofs.MeaningLaws.{covers_true, times_yes, times_no, times_first}
use Rattle.boot_table.proofs.RoundTrip.{length_table, length_read, read_middle, table_read, read_table, entry_table, valid_read}
use Rattle.one_write.specs.Once.{StoresOnce}
use Rattle.loader.specs.Load.{load_answer, load_memory, Opens, Accepted}
use Rattle.loader.proofs.AcceptLaws.{rules_accepted, rules_number, rules_answer, rules_memory}
use Rattle.laws.specs.Calls.{rearranged_of}
use Rattle.laws.specs.Demand3.{Agree}
use Rattle.laws.specs.Rearranging.{Rearranged, nothing, stay, swap, again, ShareNone, AllShareNone, empty, more, TablesShareNone, RearrangedTable, MakesTable}

-- ---- rearrangements

-- they are the kit's permutations
to_permutation : {xs ys : List Sect} → Rearranged xs ys → Permᴰ xs ys
to_permutation nothing = Permᴰ.nil
to_permutation (stay r) = Permᴰ.cons refl (to_permutation r)
to_permutation swap = Permᴰ.swap refl refl
to_permutation (again r q) = Permᴰ.trans (to_permutation r) (to_permutation q)

of_permutation : {xs ys : List Sect} → Permᴰ xs ys → Rearranged xs ys
of_permutation Permᴰ.nil = nothing
of_permutation (Permᴰ.cons e d) = rw e (stay (of_permutation d))
of_permutation (Permᴰ.swap e f) = rw (e, f) swap
of_permutation (Permᴰ.trans d e) = again (of_permutation d) (of_permutation e)

pub permutations : (xs ys : List Sect) → (Rearranged xs ys) ↔ (Permᴰ xs ys)
permutations xs ys = (to_permutation, of_permutation)

-- back to the first order
back : {xs ys : List Sect} → Rearranged xs ys → Rearranged ys xs
back nothing = nothing
back (stay r) = stay (back r)
back swap = swap
back (again r q) = again (back q) (back r)

-- the order that they have
as_it_is : (ss : List Sect) → Rearranged ss ss
as_it_is [] = nothing
as_it_is (s ∷ ss) = stay (as_it_is ss)

-- a section goes behind others
behind : (s : Sect) (xs ys : List Sect) → Rearranged (s ∷ (xs ++ ys)) (xs ++ (s ∷ ys))
behind s [] ys = as_it_is (s ∷ ys)
behind s (x ∷ xs) ys = again swap (stay (behind s xs ys))

-- and so do as many as one likes
pub turned : (xs ys : List Sect) → Rearranged (xs ++ ys) (ys ++ xs)
turned [] ys = rw (append-nil ys) (as_it_is ys)
turned (x ∷ xs) ys = again (stay (turned xs ys)) (behind x ys xs)

-- ---- what a rearrangement keeps

-- what every section has
pub all_rearranged : {P : Sect → Type 0} {xs ys : List Sect} → Rearranged xs ys → All P xs → All P ys
all_rearranged nothing h = h
all_rearranged (stay r) (also p ps) = also p (all_rearranged r ps)
all_rearranged swap (also p (also q ps)) = also q (also p ps)
all_rearranged (again r q) h = all_rearranged q (all_rearranged r h)

-- how often each address is stored
times_rearranged : {xs ys : List Sect} → Rearranged xs ys → (a : ℕ) → times ys a ≡ times xs a
unfolding times
times_rearranged nothing a = refl
times_rearranged (stay r) a = rw (times_rearranged r a)
times_rearranged swap a = omega arith
times_rearranged (again r q) a = times_rearranged q a ∙ times_rearranged r a

-- how many sections and data bytes there are, and how long they are as bytes
pub count_rearranged : {xs ys : List Sect} → Rearranged xs ys → length ys ≡ length xs
count_rearranged nothing = refl
count_rearranged (stay r) = let k = count_rearranged r in omega arith
count_rearranged swap = refl
count_rearranged (again r q) = count_rearranged q ∙ count_rearranged r

pub total_rearranged : {xs ys : List Sect} → Rearranged xs ys → total ys ≡ total xs
unfolding total
total_rearranged nothing = refl
total_rearranged (stay r) = rw (total_rearranged r)
total_rearranged swap = omega arith
total_rearranged (again r q) = total_rearranged q ∙ total_rearranged r

length_rearranged : (o : ByteOrder) {xs ys : List Sect} → Rearranged xs ys → length (chunks o ys) ≡ length (chunks o xs)
unfolding chunks
length_rearranged o nothing = refl
length_rearranged o (stay {s} {xs} {ys} r) = simp length-append (ap (λ (n : ℕ). length (chunk o s) + n) (length_rearranged o r))
length_rearranged o (swap {x} {y} {ss}) = simp length-append (omega arith)
length_rearranged o (again r q) = length_rearranged o q ∙ length_rearranged o r

-- that they are bytes
bytes_rearranged : (o : ByteOrder) {xs ys : List Sect} → Rearranged xs ys → Bytes (chunks o xs) → Bytes (chunks o ys)
unfolding chunks
bytes_rearranged o nothing b = b
bytes_rearranged o (stay {s} {xs} {ys} r) b =
    let p = bytes_parts (chunk o s) (chunks o xs) b in
    bytes_append (chunk o s) (chunks o ys) p.0 (bytes_rearranged o r p.1)
bytes_rearranged o (swap {x} {y} {ss}) b =
    let p = bytes_parts (chunk o x) (chunk o y ++ chunks o ss) b in
    let q = bytes_parts (chunk o y) (chunks o ss) p.1 in
    bytes_append (chunk o y) (chunk o x ++ chunks o ss) q.0 (bytes_append (chunk o x) (chunks o ss) p.0 q.1)
bytes_rearranged o (again r q) b = bytes_rearranged o q (bytes_rearranged o r b)

-- ---- sections that share no address

-- however near: one that ends where the other begins, or before it
pub near : (x y : Sect) → x.address + length x.body ≤ y.address → (ShareNone x y) × (ShareNone y x)
near x y h = (
  λ a c d. omega (arith, (covers_true x _ c).1, (covers_true y _ d).0),
  λ a c d. omega (arith, (covers_true y _ c).0, (covers_true x _ d).1),
)

-- a section shares none with others exactly when they do not store its addresses
module _ (s : Sect) where
  section_to_times : {ss : List Sect} → All (ShareNone s) ss → (a : ℕ) → covers s a ≡ true → times ss a ≡ 0
  unfolding times
  section_to_times All-none a c = refl
  section_to_times (also {s = y} {ss = ss} p ps) a c = go (covers y a) refl (section_to_times ps a c)
    where
      go : (d : Bool) → covers y a ≡ d → times ss a ≡ 0 → times (y ∷ ss) a ≡ 0
      go true d later = absurd (p a c d)
      go false d later = times_no y ss a d ∙ later

  times_to_section : (ss : List Sect) → ((a : ℕ) → covers s a ≡ true → times ss a ≡ 0) → All (ShareNone s) ss
  times_to_section [] none_in = All-none
  times_to_section (y ∷ ss) none_in =
      also (λ (a : ℕ) (c : covers s a ≡ true) (d : covers y a ≡ true). omega (arith, none_in a c, times_yes y ss a d))
      (times_to_section ss (λ a c. let n = none_in a c in omega (arith, times_first y ss a)))

-- with one another
all_to_times : {ss : List Sect} → AllShareNone ss → (a : ℕ) → times ss a ≤ 1
unfolding times
all_to_times empty a = omega arith
all_to_times (more {s} {ss} p ps) a = go (covers s a) refl (all_to_times ps a)
  where
    go : (c : Bool) → covers s a ≡ c → times ss a ≤ 1 → times (s ∷ ss) a ≤ 1
    go true c later = omega (arith, times_yes s ss a c, section_to_times s p a c)
    go false c later = omega (arith, times_no s ss a c)

times_to_all : (ss : List Sect) → ((a : ℕ) → times ss a ≤ 1) → AllShareNone ss
times_to_all [] few = empty
times_to_all (s ∷ ss) few =
    more (times_to_section s ss (λ a c. let n = few a in omega (arith, times_yes s ss a c)))
    (times_to_all ss (λ a. let n = few a in omega (arith, times_first s ss a)))

pub none_twice : (ss : List Sect) → (AllShareNone ss) ↔ ((a : ℕ) → times ss a ≤ 1)
none_twice ss = (all_to_times, times_to_all ss)

-- with those of another table
tables_to_times : {ys xs : List Sect} → TablesShareNone xs ys → (a : ℕ) → 1 ≤ times xs a → 1 ≤ times ys a → ⊥
unfolding times
tables_to_times All-none a h k = omega arith
tables_to_times {ys = ys} (also {s = x} {ss = xs} p ps) a h k = go (covers x a) refl (λ l. tables_to_times ps a l k)
  where
    go : (c : Bool) → covers x a ≡ c → (1 ≤ times xs a → ⊥) → ⊥
    go true c later = omega (arith, section_to_times x p a c)
    go false c later = later (omega (arith, times_no x xs a c))

times_to_tables : (xs ys : List Sect) → ((a : ℕ) → 1 ≤ times xs a → 1 ≤ times ys a → ⊥) → TablesShareNone xs ys
times_to_tables [] ys none_in = All-none
times_to_tables (x ∷ xs) ys none_in =
    also
    (times_to_section x ys
    (λ a c. by_cases (dec_le 1 (times ys a)) (λ k. absurd (none_in a (omega (arith, times_yes x xs a c)) k)) (λ k. omega arith)))
    (times_to_tables xs ys (λ a h k. none_in a (omega (arith, times_first x xs a)) k))

pub none_by_both : (xs ys : List Sect) → (TablesShareNone xs ys) ↔ ((a : ℕ) → 1 ≤ times xs a → 1 ≤ times ys a → ⊥)
none_by_both xs ys = (tables_to_times, times_to_tables xs ys)

-- ---- the last bytes of sections that share no address

-- a rearrangement keeps that they share none
share_none_rearranged : {xs ys : List Sect} → Rearranged xs ys → AllShareNone xs → AllShareNone ys
share_none_rearranged nothing h = h
share_none_rearranged (stay r) (more p ps) = more (all_rearranged r p) (share_none_rearranged r ps)
share_none_rearranged swap (more (also p ps) (more q qs)) = more (also (λ a c d. p a d c) q) (more ps qs)
share_none_rearranged (again r q) h = share_none_rearranged q (share_none_rearranged r h)

-- sections that share no address agree at all that they share
share_none_agree : (x y : Sect) → ShareNone x y → Agree x y
share_none_agree x y p a c d = absurd (p a c d)

-- the first two sections may change places where they agree
pub last_swap : (x y : Sect) (ss : List Sect) (a : ℕ) → Agree x y → last_byte (y ∷ x ∷ ss) a ≡ last_byte (x ∷ y ∷ ss) a
unfolding last_byte
last_swap x y ss a g = go (last_byte ss a) (covers x a) (covers y a) refl refl refl
  where
    go : (b : Option ℕ) (c d : Bool) → last_byte ss a ≡ b → covers x a ≡ c → covers y a ≡ d → last_byte (y ∷ x ∷ ss) a ≡ last_byte (x ∷ y ∷ ss) a
    go (some b) c d h e f = rw h
    go none true true h e f = rw (h, e, f) (ap {B = Option ℕ} some (g a e f))
    go none true false h e f = rw (h, e, f)
    go none false true h e f = rw (h, e, f)
    go none false false h e f = rw (h, e, f)

-- sections that share no address may stand in any order
pub last_rearranged : {xs ys : List Sect} → Rearranged xs ys → AllShareNone xs → (a : ℕ) → last_byte ys a ≡ last_byte xs a
unfolding last_byte
last_rearranged nothing h a = refl
last_rearranged (stay r) (more p ps) a = rw (last_rearranged r ps a)
last_rearranged (swap {x} {y} {ss}) (more (also p ps) q) a = last_swap x y ss a (share_none_agree x y p)
last_rearranged (again r q) h a = last_rearranged q (share_none_rearranged r h) a ∙ last_rearranged r h a

-- a section that shares none with others may stand behind them
last_behind : (s : Sect) {ys : List Sect} → All (ShareNone s) ys → (zs : List Sect) (a : ℕ) → last_byte (ys ++ (s ∷ zs)) a ≡ last_byte (s ∷ (ys ++ zs)) a
unfolding last_byte
last_behind s All-none zs a = refl
last_behind s (also {s = y} {ss = ys} p ps) zs a = rw (last_behind s ps zs a) (last_swap s y (ys ++ zs) a (share_none_agree s y p))

-- and so may as many as one likes
pub last_turned : {ys xs : List Sect} → TablesShareNone xs ys → (a : ℕ) → last_byte (ys ++ xs) a ≡ last_byte (xs ++ ys) a
unfolding last_byte
last_turned {ys = ys} All-none a = ap (λ (ss : List Sect). last_byte ss a) (append-nil ys)
last_turned (also {s = x} {ss = xs} p ps) a = last_behind x p xs a ∙ rw (last_turned ps a)

-- ---- the table of rearranged sections

module _ (o : ByteOrder) (t : List ℕ) (ss : List Sect) (bytes : Bytes t) (form : WellFormed o t) (r : Rearranged (reading o t).sections ss) where
  same_entry : entry_of o (rearranged_of o t ss) ≡ entry_of o t
  same_entry = entry_table o _ ss (header_lt o t 0 bytes)

  reads : reading o (rearranged_of o t ss) ≡ record { sections = ss; fault = 0; place = 0 }
  reads = read_table o (entry_of o t) ss (all_rearranged r (valid_read o t bytes form))

  reads_sections : (reading o (rearranged_of o t ss)).sections ≡ ss
  reads_sections = ap (λ (x : Reading). x.sections) reads

  same_size : length (rearranged_of o t ss) ≡ length t
  same_size = omega (arith, length_table o (entry_of o t) ss, length_rearranged o r, length_read o t bytes form)

  still_bytes : Bytes (rearranged_of o t ss)
  unfolding table_of
  still_bytes =
      let middle : Bytes (chunks o (reading o t).sections) = rw (← (read_middle o t bytes form)) (bytes_take (drop 4 t) (length t - 8) (bytes_drop t 4 bytes)) in
      bytes_append (header_bytes o (entry_of o t) ++ chunks o ss) (header_bytes o 0)
      (bytes_append (header_bytes o (entry_of o t)) (chunks o ss) (written_bytes o (entry_of o t)) (bytes_rearranged o r middle)) (written_bytes o 0)

  pub makes_table : MakesTable o t ss
  makes_table = record {
    table = record {
      form = record { short = omega (arith, same_size, form.short); whole = ap (λ (x : Reading). x.fault) reads };
      entry = same_entry;
      sections = rw reads_sections r;
    };
    bytes = still_bytes;
    sections = reads_sections;
    size = same_size;
  }

-- there is no other
pub only_table : (o : ByteOrder) (t u : List ℕ) → Bytes u → RearrangedTable o t u → u ≡ rearranged_of o t (reading o u).sections
only_table o t u bytes r = sym (table_read o u bytes r.form) ∙ ap (λ (e : ℕ). table_of o e (reading o u).sections) r.entry

-- ---- loads of rearranged sections

module _ (o : ByteOrder) (m t u : List ℕ) (first : WellFormed o t) (second : WellFormed o u)
    (r : Rearranged (reading o t).sections (reading o u).sections) where
  opens_alike : (All (Opens m) (reading o t).sections) ↔ (All (Opens m) (reading o u).sections)
  opens_alike = (all_rearranged r, all_rearranged (back r))

  once_alike : (StoresOnce m (reading o t).sections) ↔ (StoresOnce m (reading o u).sections)
  once_alike = (
    λ k a e. let n = k a e in omega (arith, times_rearranged r a),
    λ k a e. let n = k a e in omega (arith, times_rearranged r a),
  )

  pub rearranged_accepted : (room : ℕ) → (Accepted o m t room) ↔ (Accepted o m u room)
  rearranged_accepted = rules_accepted o m t u first second opens_alike once_alike

  pub rearranged_number : (room : ℕ) → (load_answer o m u room).number ≡ (load_answer o m t room).number
  rearranged_number = rules_number o m t u first second opens_alike once_alike

  pub rearranged_answer : (room : ℕ) → entry_of o u ≡ entry_of o t → Accepted o m t room → load_answer o m u room ≡ load_answer o m t room
  rearranged_answer room e = rules_answer o m t u first second opens_alike once_alike room e (count_rearranged r) (total_rearranged r)

  pub rearranged_memory : (mem : List ℕ) → ((a : ℕ) → last_byte (reading o u).sections a ≡ last_byte (reading o t).sections a)
      → load_memory o m u mem ≡ load_memory o m t mem
  rearranged_memory = rules_memory o m t u first second opens_alike once_alike
