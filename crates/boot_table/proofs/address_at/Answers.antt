-- `boot_table::address_at`: the second header word of a section.
use Rattle.boot_table.proofs.address_at.Goals as goal

pub returns : goal.returns
returns c = c.header_at.ensures
