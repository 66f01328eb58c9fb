-- `boot_table::size_at`: the first header word of a section.
use Rattle.boot_table.proofs.size_at.Goals as goal

pub returns : goal.returns
returns c = c.header_at.ensures
