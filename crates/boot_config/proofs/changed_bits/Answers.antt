-- `boot_config::changed_bits`: what the pairs of values add, summed.
use Rattle.std.proofs.Common.{rules, arith, ◌∙◌, ℕ}
use Rattle.std.specs.Int.Bits.{bit_xor}
use Rattle.std.specs.Int.Count.{ones}
use Rattle.std.proofs.lemmas.Iterator.{YieldsList-from_slice, YieldsList-from_zip, YieldsList-from_map}
use Rattle.std.proofs.lemmas.Iterator.Consumers.{sum_from_yields_List, fits_from_yields_list}
use Rattle.boot_config.proofs.BitLaws.{changed_sum, changed_le}
use Rattle.boot_config.proofs.changed_bits.Goals as goal

pub sum-requires-clause-fits : goal.sum-requires-clause-fits
sum-requires-clause-fits c =
    fits_from_yields_list c.map.result _
    (YieldsList-from_map _ (λ (p : ℕ × ℕ). ones (bit_xor p.0 p.1)) (YieldsList-from_zip (YieldsList-from_slice c.args.old.now cc) (YieldsList-from_slice c.args.new.now cc)) c.map.ensures.closure (λ x r q k. search rules))
    (omega (arith, changed_sum c.args.old.now c.args.new.now, changed_le _ _ c.type_inv.old c.type_inv.new))

pub returns : goal.returns
returns c =
    sum_from_yields_List c.map.result _ c.sum.ensures.ran
    (YieldsList-from_map _ (λ (p : ℕ × ℕ). ones (bit_xor p.0 p.1)) (YieldsList-from_zip (YieldsList-from_slice c.args.old.now cc) (YieldsList-from_slice c.args.new.now cc)) c.map.ensures.closure (λ x r q k. search rules))
    ∙ changed_sum _ _
