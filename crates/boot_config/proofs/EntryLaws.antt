-- What an entry asks for, outcome by outcome.
use Prim.Native.Nat.{ℕ, ◌+◌, ◌≤◌, ◌<◌}
use mathlib.Core.Path.{◌≡◌, ◌∙◌}
use mathlib.Core.Bool.{false, not, ◌&&◌}
use mathlib.Core.List.{List}
use native.Mathlib.Omega.{arith}
use borrow.Author.Tests.{eq-eqb, ne_eqb, lt-ltb, le-ltb, ltb-false, eqb-false}
use lib.Dec.{ltb, eqb}
use lib.ListN.{length}
use Rattle.words.specs.Word.{word_at}
use Rattle.std.specs.Prelude.{Ok, Err, Some, None}
use Rattle.words.specs.declared.refusal.Refusal.TheVariants.{ConfigCut, ConfigAfter, NoRegister, Branch}
use Rattle.words.proofs.ChoiceLaws.{and_no, if_split}
use Rattle.boot_config.specs.declared.Change.{Change}
use Rattle.boot_config.specs.Registers.{index_of}
use Rattle.boot_config.specs.Config.{entry_size, unmasked_at, entry_at}
use Rattle.boot_config.proofs.RegisterLaws.{index_le}

-- the table ends before the entry does
pub entry_cut : (t xs : List ℕ) (at : ℕ) → length t < at + entry_size → entry_at t xs at ≡ Err (ConfigCut at)
unfolding entry_at
entry_cut t xs at h = rw (lt-ltb (length t) (at + entry_size) h)

-- a mask is not zero
module _ (p q : ℕ) where
  pub some_set : (p ≡ 0 → ⊥) → (eqb p 0 && eqb q 0) ≡ false
  some_set n = rw (ne_eqb p 0 n)

  pub some_clear : (q ≡ 0 → ⊥) → (eqb p 0 && eqb q 0) ≡ false
  some_clear n = and_no (eqb p 0) (eqb q 0) (ne_eqb q 0 n)

-- an entry that the table holds, with its three words
module _ (t xs : List ℕ) (at : ℕ) (inside : at + entry_size ≤ length t)
    {a p q : ℕ} (ea : a ≡ word_at t at) (ep : p ≡ word_at t (at + 4)) (eq : q ≡ word_at t (at + 8)) where
  -- with both masks zero
  module _ (zp : p ≡ 0) (zq : q ≡ 0) where
    entry_unmasked : entry_at t xs at ≡ unmasked_at t at
    unfolding entry_at
    entry_unmasked =
        rw (le-ltb (length t) (at + entry_size) inside, ← ep, ← eq, eq-eqb p 0 zp, eq-eqb q 0 zq)

    pub entry_branch : (a ≡ 0 → ⊥) → entry_at t xs at ≡ Err (Branch at)
    unfolding unmasked_at
    entry_branch n = entry_unmasked ∙ rw (← ea, ne_eqb a 0 n)

    pub entry_after : a ≡ 0 → at + entry_size < length t → entry_at t xs at ≡ Err (ConfigAfter (at + entry_size))
    unfolding unmasked_at
    entry_after z h = entry_unmasked ∙ rw (← ea, eq-eqb a 0 z, lt-ltb (at + entry_size) (length t) h)

    pub entry_end : a ≡ 0 → length t ≤ at + entry_size → entry_at t xs at ≡ Ok None
    unfolding unmasked_at
    entry_end z h = entry_unmasked ∙ rw (← ea, eq-eqb a 0 z, le-ltb (at + entry_size) (length t) h)

  -- with a mask that is not zero
  module _ (some : (eqb p 0 && eqb q 0) ≡ false) where
    pub entry_unknown : index_of xs a ≡ length xs → entry_at t xs at ≡ Err (NoRegister at)
    unfolding entry_at
    entry_unknown e =
        rw (le-ltb (length t) (at + entry_size) inside, ← ea, ← ep, ← eq, some, eq-eqb (index_of xs a) (length xs) e)

    pub entry_change : {i : ℕ} → i < length xs → index_of xs a ≡ i → entry_at t xs at ≡ Ok (Some (record { register = i; put = p; clear = q }))
    unfolding entry_at
    entry_change {i} l e =
        rw (le-ltb (length t) (at + entry_size) inside, ← ea, ← ep, ← eq, some, e, ne_eqb i (length xs) (λ z. omega arith))

-- ---- a change is of a register in the list, and the table holds its entry

unmasked_no_change : (t : List ℕ) (at : ℕ) {c : Change} → unmasked_at t at ≡ Ok (Some c) → ⊥
unfolding unmasked_at
unmasked_no_change t at e =
    if_split (not (eqb (word_at t at) 0)) _ _ _ e
    (λ b f. let z : ◌≡◌ {A = ℕ} 0 1 = cc in omega arith)
    (λ b f. if_split (ltb (at + entry_size) (length t)) _ _ _ f
    (λ b f. let z : ◌≡◌ {A = ℕ} 0 1 = cc in omega arith)
    (λ b f. let z : ◌≡◌ {A = ℕ} 0 1 = cc in omega arith))

pub change_of : (t xs : List ℕ) (at : ℕ) {c : Change} → entry_at t xs at ≡ Ok (Some c) → (c.register < length xs) × (at + entry_size ≤ length t)
unfolding entry_at
change_of t xs at {c} e =
    if_split (ltb (length t) (at + entry_size)) _ _ _ e
    (λ b f. absurd (let z : ◌≡◌ {A = ℕ} 0 1 = cc in omega arith))
    (λ b f. let inside = ltb-false (length t) (at + entry_size) b in if_split (eqb (word_at t (at + 4)) 0 && eqb (word_at t (at + 8)) 0) _ _ _ f
    (λ b g. absurd (unmasked_no_change t at g))
    (λ b g. if_split (eqb (index_of xs (word_at t at)) (length xs)) _ _ _ g
    (λ b h. absurd (let z : ◌≡◌ {A = ℕ} 0 1 = cc in omega arith))
    (λ d h.
    let same : index_of xs (word_at t at) ≡ c.register = cc in
    let n = eqb-false (index_of xs (word_at t at)) (length xs) d in
    let l = index_le xs (word_at t at) in
    (omega (arith, n), inside))))
