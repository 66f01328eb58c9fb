-- Applying a table from an entry on: by what the entry asks for, however many entries are allowed.
use Prim.Native.Nat.{ℕ, zero, suc, ◌+◌, ◌*◌, ◌≤◌}
use mathlib.Core.Path.{◌≡◌, refl, sym, ap, ◌∙◌}
use mathlib.Core.List.{List}
use native.Mathlib.Omega.{arith}
use lib.ListN.{length, get_or, set}
use Rattle.std.specs.Prelude.{Result, Ok, Err, Option, Some, None}
use Rattle.words.specs.declared.refusal.Refusal.{Refusal}
use Rattle.words.specs.Refusal.{number_of, place_of}
use Rattle.boot_config.specs.declared.Change.{Change}
use Rattle.boot_config.specs.Registers.{masked}
use Rattle.boot_config.specs.Config.{entry_size, Applied, on_entry, applied_from, applied, entry_at}
use Rattle.boot_config.proofs.EntryLaws.{entry_cut}

-- ---- how many entries are allowed does not matter where they are enough

-- two ways to go on that agree come to the same after this entry
same_entry : (f g : List ℕ → Applied) (n : ℕ) (vs : List ℕ) (e : Result (Option Change) Refusal) → ((us : List ℕ) → f us ≡ g us) → on_entry f n vs e ≡ on_entry g n vs e
unfolding on_entry
same_entry f g n vs (Ok (Some c)) same = same (set vs c.register (masked (get_or vs c.register 0) c.put c.clear))
same_entry f g n vs (Ok None) same = refl
same_entry f g n vs (Err r) same = refl

enough : (k l : ℕ) (t xs : List ℕ) (n : ℕ) (vs : List ℕ) → length t ≤ entry_size * n + k → length t ≤ entry_size * n + l
    → applied_from k t xs n vs ≡ applied_from l t xs n vs
unfolding applied_from on_entry
enough zero zero t xs n vs p q = refl
enough zero (suc l) t xs n vs p q = sym (ap (on_entry (applied_from l t xs (suc n)) n vs) (entry_cut t xs (entry_size * n) (omega arith)))
enough (suc k) zero t xs n vs p q = ap (on_entry (applied_from k t xs (suc n)) n vs) (entry_cut t xs (entry_size * n) (omega arith))
enough (suc k) (suc l) t xs n vs p q =
    same_entry (applied_from k t xs (suc n)) (applied_from l t xs (suc n)) n vs (entry_at t xs (entry_size * n))
    (λ us. enough k l t xs (suc n) us (omega arith) (omega arith))

-- applying a table from the entry with index n on
unfoldable pub applied_on : List ℕ → List ℕ → ℕ → List ℕ → Applied
applied_on t xs n vs = applied_from (suc (length t)) t xs n vs

pub applied_start : (t xs vs : List ℕ) → applied t xs vs ≡ applied_on t xs 0 vs
unfolding applied applied_on
applied_start t xs vs = refl

applied_entry : (t xs : List ℕ) (n : ℕ) (vs : List ℕ) → applied_on t xs n vs ≡ on_entry (applied_on t xs (suc n)) n vs (entry_at t xs (entry_size * n))
unfolding applied_on applied_from
applied_entry t xs n vs =
    same_entry (applied_from (length t) t xs (suc n)) (applied_from (suc (length t)) t xs (suc n)) n vs (entry_at t xs (entry_size * n))
    (λ us. enough (length t) (suc (length t)) t xs (suc n) us (omega arith) (omega arith))

-- ---- going on, by what the entry asks for

module _ (t xs : List ℕ) (n : ℕ) (vs : List ℕ) where
  pub applied_change : {c : Change} → entry_at t xs (entry_size * n) ≡ Ok (Some c)
      → applied_on t xs n vs ≡ applied_on t xs (suc n) (set vs c.register (masked (get_or vs c.register 0) c.put c.clear))
  unfolding on_entry
  applied_change e = applied_entry t xs n vs ∙ ap (on_entry (applied_on t xs (suc n)) n vs) e

  pub applied_end : entry_at t xs (entry_size * n) ≡ Ok None → applied_on t xs n vs ≡ record { number = 0; place = 0; entries = n; values = vs }
  unfolding on_entry
  applied_end e = applied_entry t xs n vs ∙ ap (on_entry (applied_on t xs (suc n)) n vs) e

  pub applied_fault : {f : Refusal} → entry_at t xs (entry_size * n) ≡ Err f
      → applied_on t xs n vs ≡ record { number = number_of f; place = place_of f; entries = n; values = vs }
  unfolding on_entry
  applied_fault e = applied_entry t xs n vs ∙ ap (on_entry (applied_on t xs (suc n)) n vs) e
