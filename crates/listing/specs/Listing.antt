-- The text of a table: what the listers print. t is a table, o its byte order.
use Rattle.std.specs.Prelude.{ℕ, ◌+◌, ◌*◌, List, [], ◌∷◌, ◌++◌, not, length, ltb, eqb}
use Rattle.words.specs.declared.ByteOrder.{ByteOrder}
use Rattle.words.specs.Choice.{if}
use Rattle.words.specs.Run.{over}
use Rattle.boot_table.specs.Table.{entry_of, Sect, reading}
use Rattle.boot_table.specs.Form.{total, form_of}
use Rattle.listing.specs.Text.{hex_text, decimal_text}

-- ---- lines; 32 is a space, and 10 ends a line

-- `entry` and the entry
unfoldable pub entry_line : ℕ → List ℕ
entry_line entry = (101 ∷ 110 ∷ 116 ∷ 114 ∷ 121 ∷ 32 ∷ []) ++ hex_text entry ++ (10 ∷ [])

-- `section`, the address and the size
unfoldable pub section_line : ℕ → ℕ → List ℕ
section_line address size = (115 ∷ 101 ∷ 99 ∷ 116 ∷ 105 ∷ 111 ∷ 110 ∷ 32 ∷ []) ++ hex_text address ++ (32 ∷ []) ++ decimal_text size ++ (10 ∷ [])

-- `end`, the count of sections and the count of data bytes
unfoldable pub end_line : ℕ → ℕ → List ℕ
end_line sections bytes = (101 ∷ 110 ∷ 100 ∷ 32 ∷ []) ++ decimal_text sections ++ (32 ∷ []) ++ decimal_text bytes ++ (10 ∷ [])

-- `refused`, the number, `at`, the place
unfoldable pub refused_line : ℕ → ℕ → List ℕ
refused_line number place =
    (114 ∷ 101 ∷ 102 ∷ 117 ∷ 115 ∷ 101 ∷ 100 ∷ 32 ∷ []) ++ decimal_text number ++ (32 ∷ 97 ∷ 116 ∷ 32 ∷ []) ++ decimal_text place ++ (10 ∷ [])

-- `too long`
abbrev pub too_long : List ℕ
too_long = 116 ∷ 111 ∷ 111 ∷ 32 ∷ 108 ∷ 111 ∷ 110 ∷ 103 ∷ 10 ∷ []

-- a line for each section
unfoldable pub section_lines : List Sect → List ℕ
section_lines [] = []
section_lines (s ∷ ss) = section_line s.address (length s.body) ++ section_lines ss

-- ---- the whole text

-- how many bytes of input are listed at most
abbrev pub list_limit : ℕ
list_limit = 65536

-- the text of a table: one line where it is too long or refused; else the entry, the sections, and the end
unfoldable pub text : ByteOrder → List ℕ → List ℕ
text o t =
    if (ltb list_limit (length t)) too_long
    (if (not (eqb (form_of o t).number 0)) (refused_line (form_of o t).number (form_of o t).place)
    (entry_line (entry_of o t) ++ section_lines (reading o t).sections ++ end_line (length (reading o t).sections) (total (reading o t).sections)))

-- how long a buffer has to be: enough for the text of any table of that length
unfoldable pub text_bound : List ℕ → ℕ
text_bound t = if (ltb list_limit (length t)) 9 (32 + 2 * length t)

-- ---- what listing answers, and what it leaves in a buffer: nothing where the buffer is too short, else the text at its front

unfoldable pub list_length : ByteOrder → List ℕ → ℕ → ℕ
list_length o t room = if (ltb room (text_bound t)) 0 (length (text o t))

unfoldable pub list_output : ByteOrder → List ℕ → List ℕ → List ℕ
list_output o t out = if (ltb (length out) (text_bound t)) out (over out 0 (text o t))
