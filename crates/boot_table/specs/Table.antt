-- The boot table: its sections, its bytes, and what a walk over it finds. t is a table, o the byte order of its header words.
use Rattle.std.specs.Prelude.{ℕ, zero, suc, ◌+◌, ◌^◌, List, [], ◌∷◌, ◌++◌, length, take, drop, ltb, eqb}
use Rattle.std.specs.Prelude.{Option, Some, None, Result, Ok, Err}
use Rattle.words.specs.Choice.{if}
use Rattle.words.specs.declared.ByteOrder.{ByteOrder}
use Rattle.words.specs.Word.{pad_count}
use Rattle.words.specs.Header.{header_at, header_bytes}
use Rattle.words.specs.Refusal.{table_cut_number, bytes_after_number, past_top_number, number_of, place_of}
use Rattle.words.specs.declared.refusal.Refusal.{Refusal}
use Rattle.boot_table.specs.declared.Section.{Section as Found}

-- the entry word of a table
abbrev pub entry_of : ByteOrder → List ℕ → ℕ
entry_of o t = header_at o t 0

-- ---- sections as data

-- a section: its address, its data bytes, and the pad bytes after them
pub record Sect : Type 0 where
  pub address : ℕ
  pub body : List ℕ
  pub pads : List ℕ

-- ---- sections as bytes

-- the bytes of a section: size word, address word, data, pads
unfoldable pub chunk : ByteOrder → Sect → List ℕ
chunk o s = header_bytes o (length s.body) ++ header_bytes o s.address ++ s.body ++ s.pads

unfoldable pub chunks : ByteOrder → List Sect → List ℕ
chunks o [] = []
chunks o (s ∷ ss) = chunk o s ++ chunks o ss

-- the table of an entry and sections: entry word, sections, zero word
unfoldable pub table_of : ByteOrder → ℕ → List Sect → List ℕ
table_of o entry ss = header_bytes o entry ++ chunks o ss ++ header_bytes o 0

-- ---- the walk step

-- what stands at an offset: a section, whose data begins at start and after which next stands; the end; or a fault
pub data Step : Type 0 where
  Section : (address size start next : ℕ) → Step
  End : Step
  Fault : (number place : ℕ) → Step

-- the offset after the section of size data bytes at offset at
unfoldable pub next_of : ℕ → ℕ → ℕ
next_of at size = at + 8 + size + pad_count size

-- what the step that the code answers stands for
abbrev pub step_of : Result (Option Found) Refusal → Step
step_of (Ok (Some s)) = Section s.address s.size s.start s.next
step_of (Ok None) = End
step_of (Err refusal) = Fault (number_of refusal) (place_of refusal)

-- a zero word at offset at: bytes stand after it, or it is the end
unfoldable pub end_step : List ℕ → ℕ → Step
end_step t at = if (ltb (at + 4) (length t)) (Fault bytes_after_number (at + 4)) End

-- a section at offset at, of size data bytes for an address: it is cut short (its pads count), or past the top, or whole
unfoldable pub section_step : List ℕ → ℕ → ℕ → ℕ → Step
section_step t at size address =
    if (ltb (length t) (next_of at size)) (Fault table_cut_number at)
    (if (ltb (2 ^ 32) (address + size)) (Fault past_top_number at)
    (Section address size (at + 8) (next_of at size)))

-- the walk step: what stands at offset at
unfoldable pub step_at : ByteOrder → List ℕ → ℕ → Step
step_at o t at =
    if (ltb (length t) (at + 4)) (Fault table_cut_number at)
    (if (eqb (header_at o t at) 0) (end_step t at)
    (section_step t at (header_at o t at) (header_at o t (at + 4))))

-- ---- reading a table

-- the sections before the end or the first fault, and that fault: number 0 where there is none
pub record Reading : Type 0 where
  pub sections : List Sect
  pub fault : ℕ
  pub place : ℕ

abbrev pub stop : ℕ → ℕ → Reading
stop number place = record { sections = []; fault = number; place = place }

-- the section at offset at: its data behind the two header words, and its pads, whatever they hold, behind the data
unfoldable pub section_at : List ℕ → ℕ → ℕ → ℕ → Sect
section_at t at address size =
    record { address = address; body = take size (drop (at + 8) t); pads = take (pad_count size) (drop (at + 8 + size) t) }

unfoldable pub before : Sect → Reading → Reading
before s r = record { sections = s ∷ r.sections; fault = r.fault; place = r.place }

-- what the step at offset at finds, and then what `after` finds at the next offset
unfoldable pub on_step : (ℕ → Reading) → List ℕ → ℕ → Step → Reading
on_step after t at (Section address size start next) = before (section_at t at address size) (after next)
on_step after t at End = stop 0 0
on_step after t at (Fault number place) = stop number place

-- reading on from offset at, n steps at most
unfoldable pub read_from : ByteOrder → ℕ → List ℕ → ℕ → Reading
read_from o zero t at = stop table_cut_number at
read_from o (suc n) t at = on_step (read_from o n t) t at (step_at o t at)

-- reading on from offset at: a table has fewer sections than bytes
unfoldable pub read_on : ByteOrder → List ℕ → ℕ → Reading
read_on o t at = read_from o (length t) t at

-- reading a table: the entry word, and then the walk
unfoldable pub reading : ByteOrder → List ℕ → Reading
reading o t = if (ltb (length t) 4) (stop table_cut_number 0) (read_on o t 4)
