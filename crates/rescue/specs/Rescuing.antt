-- What rescuing promises, for each byte order o, every table t and every output out.
use Rattle.std.specs.Prelude.{ℕ, ◌+◌, ◌-◌, ◌≤◌, ◌<◌, ◌≡◌, List, [], ◌∷◌, ◌++◌, Bool, true, false, length, take, drop, ltb}
use Rattle.words.specs.declared.ByteOrder.{ByteOrder}
use Rattle.words.specs.Choice.{if}
use Rattle.words.specs.Word.{Bytes}
use Rattle.words.specs.Header.{header_bytes}
use Rattle.words.specs.Refusal.{table_long_number, table_cut_number, result_long_number, output_short_number}
use Rattle.boot_table.specs.Table.{Sect, entry_of, chunks, table_of, next_of, reading}
use Rattle.boot_table.specs.Form.{table_limit, WellFormed}
use Rattle.boot_table.specs.Valid.{Valid, All}
use Rattle.rescue.specs.Rescue.{rescue_refused, rescue_answer, rescue_output}

-- ---- the outcomes of a rescue

-- it is refused: all but the number is zero, and no byte changes
pub record Refuses (o : ByteOrder) (t out : List ℕ) (number : ℕ) : Type 0 where
  pub answer : rescue_answer o t (length out) ≡ rescue_refused number
  pub output : rescue_output o t out ≡ out

-- it gives the table `result` of so many sections, with so many bytes of t not used, and a zero word that was added or not
pub record Gives (o : ByteOrder) (t out result : List ℕ) (sections unused : ℕ) (added : Bool) : Type 0 where
  pub answer : rescue_answer o t (length out)
      ≡ record { number = 0; place = 0; length = length result; sections = sections; unused = unused; added = added }
  pub output : rescue_output o t out ≡ result ++ drop (length result) out

-- ---- the longest run of whole sections

-- ss are whole sections that t has from its start on, right behind its entry word
pub record BeginsWith (o : ByteOrder) (t : List ℕ) (ss : List Sect) : Type 0 where
  pub valid : All Valid ss
  pub rest : List ℕ
  pub stand : t ≡ header_bytes o (entry_of o t) ++ chunks o ss ++ rest

-- ss is the longest such run: each other is a part of it, from its start on
pub record Longest (o : ByteOrder) (t : List ℕ) (ss : List Sect) : Type 0 where
  pub run : BeginsWith o t ss
  pub longest : (rs : List Sect) → BeginsWith o t rs → take (length rs) ss ≡ rs

-- t is a well-formed table with bytes behind it, or with none
pub record HasTable (o : ByteOrder) (t : List ℕ) : Type 0 where
  pub table : List ℕ
  pub rest : List ℕ
  pub well : WellFormed o table
  pub is : t ≡ table ++ rest

-- ---- a table that is cut

-- the section s, which ends at the offset end, before the rest where it ends at or before the cut
unfoldable pub if_ended : ℕ → ℕ → Sect → List Sect → List Sect
if_ended cut end s rest = if (ltb cut end) rest (s ∷ rest)

-- of sections that stand from offset at on, those that end at or before the cut; a section ends behind its pads
unfoldable pub ending_by : ℕ → ℕ → List Sect → List Sect
ending_by cut at [] = []
ending_by cut at (s ∷ ss) = if_ended cut (next_of at (length s.body)) s (ending_by cut (next_of at (length s.body)) ss)

-- ---- what is written and what is counted

-- the call succeeds
abbrev pub Succeeds : ByteOrder → List ℕ → List ℕ → Type 0
Succeeds o t out = (rescue_answer o t (length out)).number ≡ 0

-- the result: the output's first bytes, as many as the answer reports
unfoldable pub rescued_in : ByteOrder → List ℕ → List ℕ → List ℕ
rescued_in o t out = take (rescue_answer o t (length out)).length (rescue_output o t out)

-- what a result holds: a well-formed table with the entry of t and the longest run of whole sections from its start
pub record Holds (o : ByteOrder) (t result : List ℕ) : Type 0 where
  pub well : WellFormed o result
  pub entry : entry_of o result ≡ entry_of o t
  pub sections : Longest o t (reading o result).sections

-- how the bytes of the input and of the result add up
pub record AddsUp (o : ByteOrder) (t out : List ℕ) : Type 0 where
  -- the result has the entry word, the sections kept, and a zero word
  pub result : (rescue_answer o t (length out)).length ≡ 4 + length (chunks o (reading o (rescued_in o t out)).sections) + 4
  -- the input has the result's bytes, but for a zero word that is added, and the bytes not used
  pub input : (rescue_answer o t (length out)).length + (rescue_answer o t (length out)).unused
      ≡ length t + if (rescue_answer o t (length out)).added 4 0
  -- the bytes used stand at the input's front, and are copied as they stand
  pub copied : rescued_in o t out
      ≡ take (length t - (rescue_answer o t (length out)).unused) t ++ if (rescue_answer o t (length out)).added (header_bytes o 0) []

-- ---- the claim

-- Rescuing: up to `damaged`, what is answered and what the output holds, of every table; then what follows.
pub record Rescuing : Type 0 where
  -- 4: a table over the limit
  pub over : (o : ByteOrder) (t out : List ℕ) → table_limit < length t → Refuses o t out table_long_number
  -- 5: the entry word is missing or cut
  pub entry_cut : (o : ByteOrder) (t out : List ℕ) → length t < 4 → Refuses o t out table_cut_number
  -- a well-formed table w with any bytes behind it gives w, these bytes are not used, and nothing is added; or 11
  pub whole : (o : ByteOrder) (w rest out : List ℕ) → Bytes w → WellFormed o w → length (w ++ rest) ≤ table_limit
      → (length w ≤ length out → Gives o (w ++ rest) out w (length (reading o w).sections) (length rest) false)
      × (length out < length w → Refuses o (w ++ rest) out output_short_number)
  -- whether a table is such a one can be told
  pub either : (o : ByteOrder) (t : List ℕ) → Bytes t → 4 ≤ length t → length t ≤ table_limit → Dec (HasTable o t)
  -- every table with its entry word has a longest run of whole sections: those that reading finds before the end or the first fault
  pub run : (o : ByteOrder) (t : List ℕ) → Bytes t → 4 ≤ length t → Longest o t (reading o t).sections
  -- any other table gives its entry, the longest run of whole sections from its start and a zero word, which is added; or 10, or 11
  pub damaged : (o : ByteOrder) (t out : List ℕ) (ss : List Sect) → Bytes t → 4 ≤ length t → length t ≤ table_limit → (HasTable o t → ⊥) → Longest o t ss
      → let result = table_of o (entry_of o t) ss in
      (length result ≤ table_limit → length result ≤ length out → Gives o t out result (length ss) (length t + 4 - length result) true)
      × (table_limit < length result → Refuses o t out result_long_number)
      × (length result ≤ table_limit → length out < length result → Refuses o t out output_short_number)
  -- the result is a well-formed table of the entry and the longest run of whole sections
  pub holds : (o : ByteOrder) (t out : List ℕ) → Bytes t → Succeeds o t out → Holds o t (rescued_in o t out)
  -- a well-formed table comes back byte for byte, with nothing unused and nothing added
  pub well : (o : ByteOrder) (t out : List ℕ) → Bytes t → WellFormed o t → length t ≤ length out
      → Gives o t out t (length (reading o t).sections) 0 false
  -- rescuing the result again changes nothing more
  pub twice : (o : ByteOrder) (t out again : List ℕ) → Bytes t → Succeeds o t out → length (rescued_in o t out) ≤ length again
      → let result = rescued_in o t out in Gives o result again result (length (reading o result).sections) 0 false
  -- a well-formed table, cut anywhere past its entry word, gives exactly its sections that end at or before the cut
  pub cut : (o : ByteOrder) (t out : List ℕ) (cut : ℕ) → Bytes t → WellFormed o t → 4 ≤ cut → cut < length t
      → let ss = ending_by cut 4 (reading o t).sections in
      let result = table_of o (entry_of o t) ss in
      length result ≤ length out → Gives o (take cut t) out result (length ss) (cut + 4 - length result) true
  -- sections kept, bytes not used and the result's length add up to the input's length
  pub sums : (o : ByteOrder) (t out : List ℕ) → Bytes t → Succeeds o t out → AddsUp o t out
  -- an output four bytes longer than the input has room
  pub room : (o : ByteOrder) (t out : List ℕ) → (rescue_answer o t (length out)).number ≡ output_short_number → length out < length t + 4
