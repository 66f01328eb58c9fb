-- `writer::put_sections`: each turn writes one section more, and at the end of the list the sections are written.
use Rattle.writer.proofs.PutLaws.{put_starts, put_fits, put_turns, put_ends}
use Rattle.writer.proofs.put_sections.Goals as goal

pub loop-section-init : goal.loop-section-init
loop-section-init c = put_starts _ _ _ _ c.requires

pub put_section-at-requires : goal.put_section-at-requires
put_section-at-requires c = put_fits _ _ _ _ _ _ _ c.loop-section.invariant c.loop-section-test.true

pub loop-section-preserved : goal.loop-section-preserved
loop-section-preserved c =
    put_turns _ _ _ _ _ _ _ c.loop-section.invariant c.loop-section-test.true _ _ c.put_section-at.auto.output c.put_section-at.ensures

pub returns : goal.returns
returns c = put_ends _ _ _ _ _ _ _ c.loop-section.invariant c.loop-section-test.false
