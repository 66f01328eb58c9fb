-- `boot_config::apply_table`: the entries still to come, on the values so far, come to the whole table.
use mathlib.Core.Path.{◌≡◌, sym, ap, ◌∙◌}
use native.Mathlib.Numerals.{add-one}
use native.Mathlib.Omega.{arith}
use lib.ListN.{length-set}
use Rattle.std.proofs.Common.{rules}
use Rattle.std.specs.Prelude.{Ok, Err, Some, None}
use Rattle.words.specs.Refusal.{number_of, place_of}
use Rattle.boot_config.specs.Config.{Applied, entry_at, applied}
use Rattle.boot_config.proofs.EntryLaws.{change_of}
use Rattle.boot_config.proofs.AppliedLaws.{applied_start, applied_change, applied_end, applied_fault}
use Rattle.boot_config.proofs.apply_table.Goals as goal
use Rattle.boot_config.proofs.apply_table.Goals.{In-Some, In_default, After-from_residual}

pub loop-change-init : goal.loop-change-init
loop-change-init c =
    record {
      place = omega arith;
      within = omega arith;
      lengths = search rules;
      whole = applied_start _ _ _;
    }

-- a turn whose entry is a fault
fault_is : (c : After-from_residual)
    → applied c.args.table.now c.args.addresses.now c.args.values.now
    ≡ record { number = number_of c.in_err-change.field-0.0; place = place_of c.in_err-change.field-0.0; entries = c.loop-change.entries; values = c.loop-change.values }
fault_is c =
    c.loop-change.invariant.whole
    ∙ applied_fault _ _ c.loop-change.entries c.loop-change.values (rw c.loop-change.invariant.place at (sym c.in_err-change.ensures))

pub returns-in_err-change-clause-value : goal.returns-in_err-change-clause-value
returns-in_err-change-clause-value c =
    let e : c.from_residual.result ≡ Err c.in_err-change.field-0.0 = search rules in
    let same = fault_is (goal.at.returns-in_err-change-clause-value c).After-from_residual in
    rw e (ap (λ (r : Applied). r.number) same, ap (λ (r : Applied). r.place) same)

pub returns-in_err-change-clause-values_after : goal.returns-in_err-change-clause-values_after
returns-in_err-change-clause-values_after c =
    sym (ap (λ (r : Applied). r.values) (fault_is (goal.at.returns-in_err-change-clause-values_after c).After-from_residual))

-- a turn whose entry asks for a change
change_is : (c : In-Some) → entry_at c.args.table.now c.args.addresses.now c.loop-change.at ≡ Ok (Some c.in-Some.change)
change_is c = sym c.in_ok-change.ensures ∙ ap Ok c.in-Some.is

pub apply-requires : goal.apply-requires
apply-requires c = omega (arith, c.loop-change.invariant.lengths, change_of _ _ _ (change_is (goal.at.apply-requires c).In-Some))

pub loop-change-smaller : goal.loop-change-smaller
loop-change-smaller c = omega (arith, change_of _ _ _ (change_is (goal.at.loop-change-smaller c).In-Some))

pub loop-change-preserved : goal.loop-change-preserved
loop-change-preserved c =
    let e = change_is (goal.at.loop-change-preserved c).In-Some in
    let i = change_of _ _ _ e in
    record {
      place = omega arith;
      within = omega arith;
      lengths = rw c.apply.ensures (simp length-set c.loop-change.invariant.lengths);
      whole = rw (add-one, c.apply.ensures, ← (applied_change _ _ c.loop-change.entries c.loop-change.values (rw c.loop-change.invariant.place at e))) c.loop-change.invariant.whole;
    }

-- a turn whose entry ends the table
end_is : (c : In_default)
    → applied c.args.table.now c.args.addresses.now c.args.values.now
    ≡ record { number = 0; place = 0; entries = c.loop-change.entries; values = c.loop-change.values }
end_is c =
    let e : entry_at c.args.table.now c.args.addresses.now c.loop-change.at ≡ Ok None = sym c.in_ok-change.ensures ∙ ap Ok c.in_default.is in
    c.loop-change.invariant.whole
    ∙ applied_end _ _ c.loop-change.entries c.loop-change.values (rw c.loop-change.invariant.place at e)

pub returns-clause-value : goal.returns-clause-value
returns-clause-value c =
    let same = end_is (goal.at.returns-clause-value c).In_default in
    (ap (λ (r : Applied). r.number) same, ap (λ (r : Applied). r.entries) same)

pub returns-clause-values_after : goal.returns-clause-values_after
returns-clause-values_after c = sym (ap (λ (r : Applied). r.values) (end_is (goal.at.returns-clause-values_after c).In_default))
