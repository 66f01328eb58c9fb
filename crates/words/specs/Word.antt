-- Words and pads. A list of numbers stands for bytes.
use Rattle.std.specs.Prelude.{ℕ, ◌+◌, ◌-◌, ◌*◌, ◌/◌, ◌%◌, ◌<◌, List, [], ◌∷◌, get_or}

-- every number of the list is a byte (get_or answers 0 past the end)
abbrev pub Bytes : List ℕ → Type 0
Bytes t = (i : ℕ) → get_or t i 0 < 256

-- the word at offset i: 32 bits, the most significant byte first
unfoldable pub word_at : List ℕ → ℕ → ℕ
word_at t i = ((get_or t i 0 * 256 + get_or t (i + 1) 0) * 256 + get_or t (i + 2) 0) * 256 + get_or t (i + 3) 0

-- the four bytes of a word
unfoldable pub word_bytes : ℕ → List ℕ
word_bytes n = n / 16777216 % 256 ∷ n / 65536 % 256 ∷ n / 256 % 256 ∷ n % 256 ∷ []

-- how many pad bytes follow n data bytes: up to the next multiple of four
unfoldable pub pad_count : ℕ → ℕ
pad_count n = (4 - n % 4) % 4
