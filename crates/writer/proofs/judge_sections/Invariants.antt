-- `writer::judge_sections`: before each turn no section so far has a fault, and the others come to what the whole list comes to.
use Rattle.std.proofs.Common.{◌≡◌, drop}
use Rattle.writer.specs.Judging.{judge_from}
use Rattle.writer.proofs.judge_sections.Given as goal

abbrev pub invariant-loop-place : goal.invariant-loop-place
invariant-loop-place l = judge_from (drop l.place l.sections) l.place l.bytes l.length ≡ judge_from l.sections 0 l.bytes 8
