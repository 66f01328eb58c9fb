-- `boot_table::whole_step`: where no fault is read the size word alone tells a section from the end.
use Prim.Native.Nat.{◌+◌}
use mathlib.Core.Path.{◌≡◌, sym, ◌∙◌}
use native.Mathlib.Omega.{arith}
use Rattle.words.specs.Word.{pad_count}
use Rattle.words.specs.Header.{header_at}
use Rattle.boot_table.proofs.StepLaws.{IsSection, section_step_lem}
use Rattle.boot_table.proofs.ReadLaws.{read_room, whole_end, whole_section}
use Rattle.boot_table.proofs.whole_step.Goals as goal
use Rattle.boot_table.proofs.whole_step.Goals.{After-size_at-word}

pub size_at-word-requires : goal.size_at-word-requires
size_at-word-requires c = read_room _ _ _ c.requires

pub returns-then-size-eq0 : goal.returns-then-size-eq0
returns-then-size-eq0 c = sym (whole_end _ _ _ (sym c.size_at-word.ensures ∙ c.if-size-eq0.true) c.requires)

-- a size word that is not zero is a section's
section : (c : After-size_at-word) → (c.size_at-word.result ≡ 0 → ⊥) → IsSection c.args.order c.args.table.now c.args.at (header_at c.args.order c.args.table.now (c.args.at + 4)) c.size_at-word.result (c.args.at + 8)
    (c.args.at + 8 + c.size_at-word.result + pad_count c.size_at-word.result)
section c n = rw c.size_at-word.ensures (whole_section _ _ _ (λ z. n (c.size_at-word.ensures ∙ z)) c.requires)

pub overflow_add-start : goal.overflow_add-start
overflow_add-start c = omega (arith, section (goal.at.overflow_add-start c).After-size_at-word c.if-size-eq0.false)

pub address_at-address-requires : goal.address_at-address-requires
address_at-address-requires c = omega (arith, section (goal.at.address_at-address-requires c).After-size_at-word c.if-size-eq0.false)

pub overflow_add-next : goal.overflow_add-next
overflow_add-next c = omega (arith, section (goal.at.overflow_add-next c).After-size_at-word c.if-size-eq0.false, c.padded.ensures)

pub returns : goal.returns
returns c =
    let at = c.args.at in
    let e : at + 8 + c.padded.result ≡ at + 8 + c.size_at-word.result + pad_count c.size_at-word.result = omega (arith, c.padded.ensures) in
    rw (e, c.address_at-address.ensures) (sym (section_step_lem _ _ _ (section (goal.at.returns c).After-size_at-word c.if-size-eq0.false)))
