-- `writer::put_sections`: before each turn the sections that are left have no fault and fit, and with them the output is what it is to be.
use Rattle.writer.proofs.PutLaws.{PutAt}
use Rattle.writer.proofs.put_sections.Given as goal

abbrev pub invariant-loop-section : goal.invariant-loop-section
invariant-loop-section l = PutAt l.order l.sections l.data l.initial.output l.section-index l.at l.output
