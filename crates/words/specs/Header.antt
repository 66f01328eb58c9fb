-- Header words of a boot table, which are its entry and each section's size and address. Their bytes stand in an order that the caller gives.
use Rattle.std.specs.Prelude.{ℕ, ◌+◌, ◌*◌, ◌/◌, ◌%◌, List, [], ◌∷◌, get_or}
use Rattle.words.specs.Word.{word_at, word_bytes}
use Rattle.words.specs.declared.ByteOrder.{ByteOrder}
use Rattle.words.specs.declared.ByteOrder.TheVariants.{HighFirst, LowFirst}

-- the header word at offset at of a table, as it is read: the high byte first, or the low byte first
unfoldable pub header_at : ByteOrder → List ℕ → ℕ → ℕ
header_at HighFirst t at = word_at t at
header_at LowFirst t at = get_or t at 0 + get_or t (at + 1) 0 * 256 + get_or t (at + 2) 0 * 65536 + get_or t (at + 3) 0 * 16777216

-- the four bytes that a header word is written as
unfoldable pub header_bytes : ByteOrder → ℕ → List ℕ
header_bytes HighFirst n = word_bytes n
header_bytes LowFirst n = n % 256 ∷ n / 256 % 256 ∷ n / 65536 % 256 ∷ n / 16777216 % 256 ∷ []
