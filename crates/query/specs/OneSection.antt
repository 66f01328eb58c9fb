-- The hit in a section by its numbers: for the function that looks at one section.
use Rattle.std.specs.Prelude.{ℕ, ◌+◌, ◌-◌, ◌&&◌, leb, ltb, Option, Some, None}
use Rattle.words.specs.Choice.{if}
use Rattle.query.specs.declared.Hit.{Hit}

-- of a section of size data bytes from the address first on, whose data begins at offset start of its table
unfoldable pub hit_in : ℕ → ℕ → ℕ → ℕ → Option Hit
hit_in first size start a = if (leb first a && ltb a (first + size)) (Some (record { offset = start + (a - first); length = size - (a - first) })) None
