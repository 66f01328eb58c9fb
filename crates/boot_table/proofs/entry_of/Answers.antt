-- `boot_table::entry_of`: the header word that a table begins with.
use Rattle.boot_table.proofs.entry_of.Goals as goal

pub returns : goal.returns
returns c = c.header_at.ensures
