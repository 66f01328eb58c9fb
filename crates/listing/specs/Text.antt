-- Numbers as text. A list of numbers stands for characters.
use Rattle.std.specs.Prelude.{ℕ, zero, suc, ◌+◌, ◌/◌, ◌%◌, ◌^◌, List, [], ◌∷◌, ◌++◌, ltb}
use Rattle.words.specs.Choice.{if}

-- a digit below 16: 0 to 9, a to f
unfoldable pub digit_of : ℕ → ℕ
digit_of d = if (ltb d 10) (48 + d) (87 + d)

-- a word as eight lower-case hexadecimal digits
unfoldable pub hex_text : ℕ → List ℕ
hex_text x =
    digit_of (x / 16 ^ 7 % 16) ∷ digit_of (x / 16 ^ 6 % 16) ∷ digit_of (x / 16 ^ 5 % 16) ∷ digit_of (x / 16 ^ 4 % 16)
    ∷ digit_of (x / 16 ^ 3 % 16) ∷ digit_of (x / 16 ^ 2 % 16) ∷ digit_of (x / 16 % 16) ∷ digit_of (x % 16) ∷ []

-- a number in decimal without leading zeros, of so many digits at most: the digits before the last, and then the last
unfoldable pub decimal_in : ℕ → ℕ → List ℕ
decimal_in zero n = []
decimal_in (suc k) n = if (ltb n 10) (digit_of n ∷ []) (decimal_in k (n / 10) ++ (digit_of (n % 10) ∷ []))

-- a number below 10^20 in decimal
unfoldable pub decimal_text : ℕ → List ℕ
decimal_text n = decimal_in 20 n
