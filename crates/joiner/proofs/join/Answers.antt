-- `joiner::join`: each answer and the output are the definitions', by the tests on the way.
use Prim.Native.Nat.{ℕ, ◌+◌, ◌≤◌}
use mathlib.Core.Path.{◌≡◌, refl, sym, ap, ◌∙◌}
use mathlib.Core.List.{List}
use native.Mathlib.Omega.{arith}
use borrow.Author.Rules.{rules}
use lib.ListN.{length}
use Rattle.std.specs.Prelude.{Result, Ok}
use Rattle.words.specs.declared.ByteOrder.{ByteOrder}
use Rattle.words.specs.declared.refusal.Refusal.{Refusal}
use Rattle.boot_table.specs.declared.Counts.{Counts}
use Rattle.boot_table.specs.Form.{Form, table_limit, formed, form_of, answer_of, WellFormed}
use Rattle.boot_table.proofs.FormLaws.{form_well, well_long, well_few, well_form}
use Rattle.joiner.specs.Join.{joined_length}
use Rattle.joiner.proofs.AnswerLaws.{join_done, output_joined}
use Rattle.joiner.proofs.join.Goals as goal
use Rattle.joiner.proofs.join.Goals.{In_ok-b}

-- both tables have a form without a fault
form-a : (c : In_ok-b) → formed c.in_ok-a.a.sections c.in_ok-a.a.bytes ≡ form_of c.args.order c.args.first.now
form-a c = let e : ◌≡◌ {A = Result Counts Refusal} c.form_of.result (Ok c.in_ok-a.a) = search rules in sym (ap answer_of e) ∙ c.form_of.ensures

form-b : (c : In_ok-b) → formed c.in_ok-b.b.sections c.in_ok-b.b.bytes ≡ form_of c.args.order c.args.second.now
form-b c = let e : ◌≡◌ {A = Result Counts Refusal} c.form_of-2.result (Ok c.in_ok-b.b) = search rules in sym (ap answer_of e) ∙ c.form_of-2.ensures

-- a table with such a form is well-formed, and has no fewer bytes than sections and data bytes
counted : (o : ByteOrder) (t : List ℕ) {k b : ℕ} → formed k b ≡ form_of o t → (WellFormed o t) × (8 ≤ length t) × (k + b ≤ table_limit)
counted o t e =
    let w = form_well o t (ap (λ (f : Form). f.number) (sym e)) in
    (w, well_long o t w, omega (arith, well_few o t w, w.short, ap (λ (f : Form). f.sections + f.bytes) (e ∙ well_form o t w)))

pub overflow_sub-length : goal.overflow_sub-length
overflow_sub-length c = omega (arith, counted _ _ (form-a (goal.at.overflow_sub-length c).In_ok-b))

pub overflow_add-sections : goal.overflow_add-sections
overflow_add-sections c =
    let b = (goal.at.overflow_add-sections c).In_ok-b in
    omega (arith, counted _ _ (form-a b), counted _ _ (form-b b))

pub write_join-requires-clause-well_formed : goal.write_join-requires-clause-well_formed
write_join-requires-clause-well_formed c =
    let b = (goal.at.write_join-requires-clause-well_formed c).In_ok-b in
    ((counted _ _ (form-a b)).0, (counted _ _ (form-b b)).0)

pub returns : goal.returns
unfolding joined_length
returns c =
    let b = (goal.at.returns c).In_ok-b in
    let e = join_done _ c.args.first.now c.args.second.now (length c.args.output.now) _ (form-a b) refl _ (form-b b) refl (omega arith) (omega arith) in
    record {
      value = e;
      output_after = c.write_join.ensures ∙ output_joined _ _ _ _ _ e refl;
    }
