-- Two helps for walks by hand: what follows the first statement of a loop's body, which has no name in the generated MIR; and the end of a walk whose function has two `ensures`.
use mathlib.Core.List.{List}
use seplogic.Ra.Ura.{Ura}
use base.Logic.{SProp, sep, assoc∗}
use types.Logic.{Logic}
use contract.Monad.{fact}
use types.Kit.{Item, Step, step, prop, suffices, ◌$◌}
use denote.Triple.Walked.{says}
use mir.Syntax.{Body, skip, seq, assign, block, loop, cond, switch, exit, return, unreachable, call, call_v, lend_static}

-- what follows the first statement
abbrev pub after : Body → Body
after (seq a b) = b
after skip = skip
after (assign p v) = skip
after (block b) = skip
after (loop b) = skip
after (cond c a b) = skip
after (switch c arms) = skip
after (exit n) = skip
after return = skip
after (call f xs d) = skip
after (call_v t i xs d) = skip
after (lend_static p t x) = skip
after unreachable = skip

-- the facts of two `ensures`
pub says_both : {M : Type 1} {𝓤 : Ura M} {𝓛 : Logic 𝓤} {K : Type 0} {Γ : List (Item 𝓤)} → K → {φ ψ : Type 0} {P : SProp 𝓤} → φ → ψ
    → Step K 𝓛 Γ (prop P) Γ (prop (sep 𝓤 P (sep 𝓤 (fact 𝓤 φ) (fact 𝓤 ψ))))
says_both {𝓤 = 𝓤} t {φ} {ψ} {P} x y = step (λ s. suffices t (sep 𝓤 (sep 𝓤 P (fact 𝓤 φ)) (fact 𝓤 ψ)) (assoc∗ 𝓤 P (fact 𝓤 φ) (fact 𝓤 ψ)) $ says t y $ says t x $ s)
