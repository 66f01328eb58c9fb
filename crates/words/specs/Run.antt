-- Runs of bytes inside a list.
use Rattle.std.specs.Prelude.{ℕ, ◌+◌, List, ◌++◌, length, take, drop}

-- what stands in out after xs was stored from offset to on
unfoldable pub over : List ℕ → ℕ → List ℕ → List ℕ
over out to xs = take to out ++ xs ++ drop (to + length xs) out
