-- `boot_config::configure_copy`: the copy has the values after the table, and is kept where there is no fault.
use mathlib.Core.Path.{◌≡◌, sym, ◌∙◌}
use mathlib.Core.Bool.{true}
use Rattle.std.proofs.Common.{rules}
use Rattle.std.specs.Prelude.{Ok, Err}
use Rattle.boot_config.specs.Registers.{fit}
use Rattle.boot_config.specs.Config.{Tells, applied}
use Rattle.boot_config.proofs.AnswerLaws.{fit_all, applied_refused, applied_done}
use Rattle.boot_config.proofs.configure_copy.Goals as goal
use Rattle.boot_config.proofs.configure_copy.Goals.{After-apply_table, In_err-entries, In_ok-entries}

-- the lists are fit
fits : (c : After-apply_table) → fit c.args.addresses.now c.args.values.now ≡ true
fits c = fit_all _ _ (sym c.requires.lengths.0) c.requires.listed.1

-- the table was applied to the lent values, which the copy has
fault_told : (c : In_err-entries) → Tells (Err c.in_err-entries.field-0.0) (applied c.args.table.now c.args.addresses.now c.args.values.now)
fault_told c =
    let copied = c.copy_from_slice.ensures.after in
    let told = c.in_err-entries.ensures.value in
    (cc (copied, told.0), cc (copied, told.1))

count_told : (c : In_ok-entries) → Tells (Ok c.in_ok-entries.entries) (applied c.args.table.now c.args.addresses.now c.args.values.now)
count_told c =
    let copied = c.copy_from_slice.ensures.after in
    let told = c.in_ok-entries.ensures.value in
    (cc (copied, told.0), cc (copied, told.1))

pub returns-in_err-entries : goal.returns-in_err-entries
returns-in_err-entries c =
    let k = goal.at.returns-in_err-entries c in
    let e : c.from_residual.result ≡ Err c.in_err-entries.field-0.0 = search rules in
    let p = applied_refused c.args.table.now c.args.addresses.now c.args.values.now (fits k.After-apply_table) c.requires.listed.0 _ (fault_told k.In_err-entries) in
    record { value = rw e p.0; values_after = p.1 }

pub returns : goal.returns
returns c =
    let k = goal.at.returns c in
    let e = rw c.copy_from_slice.ensures.after at c.in_ok-entries.ensures.values_after in
    let p = applied_done c.args.table.now c.args.addresses.now c.args.values.now (fits k.After-apply_table) c.requires.listed.0 (count_told k.In_ok-entries) (rw e at c.changed_bits-bits.ensures) (c.copy_from_slice-2.ensures.after ∙ e) in
    record { value = p.0; values_after = p.1 }
