-- `loader::judging::clear_past`: what is known goes past the address, or the lowest reserved one from it on is found.
use Rattle.region_map.proofs.OpenLaws.{lowest_low, lowest_each, lowest_at}
use native.Mathlib.Omega.{arith}
use mathlib.Core.Path.{sym, ◌∙◌}
use Rattle.loader.proofs.judging.clear_past.Goals as goal

pub returns-then-address-known : goal.returns-then-address-known
returns-then-address-known c = record { low = omega arith; clear = c.requires.1; why = λ e. absurd (omega arith) }

pub returns : goal.returns
returns c =
    record {
      low = rw c.reserved_from.ensures (lowest_low _ _ _ _ (omega (arith, c.requires.0)));
      clear = λ x l u. lowest_each _ _ _ _ x l (rw c.reserved_from.ensures at u);
      why = λ q. lowest_at _ _ _ _ c.requires.0 (omega (arith, sym c.reserved_from.ensures ∙ q));
    }
