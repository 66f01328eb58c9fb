-- What a walk that has passed some sections comes to: for the functions that count as they walk.
use Rattle.std.specs.Prelude.{ℕ, ◌+◌, length, eqb}
use Rattle.words.specs.Choice.{if}
use Rattle.boot_table.specs.Table.{Reading}
use Rattle.boot_table.specs.Form.{Form, total, misformed, formed}

-- the form where k sections with b data bytes were passed and r is what reading on finds
unfoldable pub tally : ℕ → ℕ → Reading → Form
tally k b r = if (eqb r.fault 0) (formed (k + length r.sections) (b + total r.sections)) (misformed r.fault r.place)
