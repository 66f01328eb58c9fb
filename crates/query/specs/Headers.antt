-- Which bytes of a table finding reads, that its answers depend on these alone, and that it counts them. A header here is that of a section, or the end word; the entry word is none. t and u are tables, o their byte order.
use Rattle.std.specs.Prelude.{ℕ, zero, suc, ◌+◌, ◌≡◌, List, [], ◌∷◌, Bool, true, ◌&&◌, ◌||◌, length, get_or, leb, ltb, eqb}
use Rattle.words.specs.declared.ByteOrder.{ByteOrder}
use Rattle.words.specs.Choice.{if}
use Rattle.words.specs.Header.{header_at}
use Rattle.boot_table.specs.Table.{Sect, next_of, reading}
use Rattle.boot_table.specs.Form.{WellFormed}
use Rattle.query.specs.Find.{header_walk, find_answer}

-- offset i stands in the header at offset at: in its size word or, where that is not zero, in the address word behind it
unfoldable pub in_header : ByteOrder → List ℕ → ℕ → ℕ → Bool
in_header o t at i = leb at i && ltb i (at + if (eqb (header_at o t at) 0) 4 8)

-- offset i stands in the header of one of the sections from offset at on, or of what stands behind them: the end word, or the section with a fault
unfoldable pub header_from : ByteOrder → List ℕ → ℕ → List Sect → ℕ → Bool
header_from o t at [] i = in_header o t at i
header_from o t at (s ∷ ss) i = in_header o t at i || header_from o t (next_of at (length s.body)) ss i

-- offset i of a table stands in a size word, an address word or the end word
abbrev pub is_header : ByteOrder → List ℕ → ℕ → Bool
is_header o t i = header_from o t 4 (reading o t).sections i

-- t and u have one length, and the same size, address and end words: they may differ in the entry, in pads, in data and behind a fault
pub record SameHeaders (o : ByteOrder) (t u : List ℕ) : Type 0 where
  pub long : length t ≡ length u
  pub same : (i : ℕ) → is_header o t i ≡ true → get_or t i 0 ≡ get_or u i 0

-- Only size and address words are read: tables with the same ones have the same answer, whether they are well-formed or not.
abbrev pub HeadersOnly : Type 0
HeadersOnly = (o : ByteOrder) (older older' newer newer' : List ℕ) (a : ℕ) → SameHeaders o older older' → SameHeaders o newer newer'
    → find_answer o older newer a ≡ find_answer o older' newer' a

-- how many of the n offsets from i on pass a test
unfoldable pub how_many : (ℕ → Bool) → ℕ → ℕ → ℕ
how_many test zero i = 0
how_many test (suc n) i = if (test i) 1 0 + how_many test n (suc i)

-- The count of the header walk over a well-formed table is the number of its bytes that stand in a size word, an address word or the end word.
abbrev pub CountsHeaders : Type 0
CountsHeaders = (o : ByteOrder) (t : List ℕ) (a : ℕ) → WellFormed o t → (header_walk o t a).read ≡ how_many (is_header o t) (length t) 0
