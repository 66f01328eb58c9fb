-- What the functions below the published one ensure, by name. m is a map.
use Rattle.std.specs.Prelude.{ℕ, ◌+◌, ◌≤◌, ◌<◌, min, max, ◌≡◌, List, Bool, true, false}
use Rattle.boot_table.specs.Table.{Sect}
use Rattle.boot_table.specs.Meaning.{times}
use Rattle.one_write.specs.declared.Earlier.{Earlier}

-- of a test on addresses: whether one from lo up to hi passes it
pub record Meets (test : ℕ → Bool) (lo hi : ℕ) (r : Bool) : Type 0 where
  pub hit : r ≡ true → (x : ℕ) × (lo ≤ x) × (x < hi) × (test x ≡ true)
  pub miss : r ≡ false → (x : ℕ) → lo ≤ x → x < hi → test x ≡ false

-- the addresses that sections store lie from low on and below high
abbrev pub Between : List Sect → ℕ → ℕ → Type 0
Between ss low high = (a : ℕ) → 1 ≤ times ss a → (low ≤ a) × (a < high)

-- the earlier sections, and one more with the addresses from first up to end
abbrev pub earlier_with : Earlier → ℕ → ℕ → Earlier
earlier_with e first end = record { sections = e.sections + 1; low = min e.low first; high = max e.high end }
