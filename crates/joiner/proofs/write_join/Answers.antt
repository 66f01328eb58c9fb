-- `joiner::write_join`: the entry word, the sections of both tables and the zero word, one behind the other, are the join.
use Prim.Native.Nat.{ℕ}
use mathlib.Core.Path.{ap, ◌∙◌}
use mathlib.Core.List.{List}
use borrow.Author.Rules.{rules}
use Rattle.words.specs.Header.{header_bytes}
use Rattle.words.specs.Run.{over}
use Rattle.joiner.specs.Join.{section_bytes}
use Rattle.joiner.proofs.WriteLaws.{parts_joined}
use Rattle.joiner.proofs.write_join.Goals as goal
use Rattle.joiner.proofs.write_join.Goals.{Start}

pub copy_sections-end-requires-clause-well_formed : goal.copy_sections-end-requires-clause-well_formed
copy_sections-end-requires-clause-well_formed c = search rules

pub returns : goal.returns
returns c =
    let o = c.args.order in
    let a = c.args.first.now in
    let b = c.args.second.now in
    let d = c.args.output.now in
    let middle = c.copy_sections-middle.result in
    let end = c.copy_sections-end.result in
    c.put_header-2.ensures
    ∙ ap (λ (x : List ℕ). over x end (header_bytes o 0)) (c.copy_sections-end.ensures.output_after
    ∙ ap (λ (x : List ℕ). over x middle (section_bytes b)) (c.copy_sections-middle.ensures.output_after
    ∙ ap (λ (x : List ℕ). over x 4 (section_bytes a)) (c.put_header.ensures ∙ ap (λ (n : ℕ). over d 0 (header_bytes o n)) c.entry_of.ensures)))
    ∙ parts_joined o a b d (λ i. (c.type_inv.first i).fits) (λ i. (c.type_inv.second i).fits)
    c.requires.well_formed.0 c.requires.well_formed.1 c.requires.room middle end c.copy_sections-middle.ensures.ends c.copy_sections-end.ensures.ends
