-- `writer::put_section`: the header words, and behind them the data with its pads.
use Prim.Native.Nat.{ℕ, ◌+◌}
use mathlib.Core.Path.{◌≡◌, sym, ◌∙◌}
use native.Mathlib.Omega.{arith}
use native.Mathlib.Nat.{add_assoc}
use borrow.Author.Rules.{rules}
use Rattle.words.specs.Word.{pad_count}
use Rattle.boot_table.specs.Table.{next_of}
use Rattle.writer.proofs.FaultLaws.{faultless_section, length_data}
use Rattle.writer.proofs.SectionLaws.{part_data, section_room, section_parts}
use Rattle.writer.proofs.put_section.Goals as goal

next_is : (at size : ℕ) → at + 8 + (size + pad_count size) ≡ next_of at size
unfolding next_of
next_is at size = sym (add_assoc (at + 8) size (pad_count size))

pub slice_bounds-body-end : goal.slice_bounds-body-end
slice_bounds-body-end c = omega (arith, faultless_section _ _ c.requires.0)

pub put_data-requires : goal.put_data-requires
put_data-requires c =
    let r = section_room c.args.order c.args.«data».now c.args.output.now c.args.section c.args.at c.requires.0 c.requires.1 in
    rw (part_data c.args.«data».now c.args.section, length_data c.args.«data».now c.args.section c.requires.0) (r.0, search rules, omega (arith, r))

pub returns : goal.returns
returns c =
    let l = length_data c.args.«data».now c.args.section c.requires.0 in
    let e = rw (part_data c.args.«data».now c.args.section) at c.put_data.ensures in (
      rw l at e.0 ∙ next_is c.args.at c.args.section.size,
      section_parts c.args.order c.args.«data».now c.args.output.now c.args.section c.args.at c.requires.0 c.requires.1 c.put_header.ensures c.put_header-2.ensures e.1,
    )
