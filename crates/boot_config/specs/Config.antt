-- The boot configuration table: what it answers, and what it does to registers. t is a table, xs addresses, vs values.
use Rattle.std.specs.Prelude.{ℕ, zero, suc, ◌+◌, ◌*◌, List, not, ◌&&◌, ltb, eqb, length, get_or, set, ◌≡◌}
use Rattle.std.specs.Prelude.{Result, Ok, Err, Option, Some, None}
use Rattle.words.specs.Choice.{if}
use Rattle.words.specs.Word.{word_at}
use Rattle.words.specs.declared.refusal.Refusal.{Refusal}
use Rattle.words.specs.declared.refusal.Refusal.TheVariants.{ConfigCut, ConfigAfter, NoRegister, Branch}
use Rattle.words.specs.Refusal.{registers_unfit_number, config_long_number, config_cut_number, number_of, place_of}
use Rattle.boot_config.specs.declared.Change.{Change}
use Rattle.boot_config.specs.declared.Configured.{Configured}
use Rattle.boot_config.specs.Registers.{fit, index_of, masked, changed_bits}

-- how many bytes a configuration table has at most
abbrev pub config_limit : ℕ
config_limit = 49152

-- ---- one entry: three words, the address, the bits to set and the bits to clear

abbrev pub entry_size : ℕ
entry_size = 12

-- an entry at offset at with both masks zero: with an address a branch is asked for, and three zero words end the table
unfoldable pub unmasked_at : List ℕ → ℕ → Result (Option Change) Refusal
unmasked_at t at =
    if (not (eqb (word_at t at) 0)) (Err (Branch at))
    (if (ltb (at + entry_size) (length t)) (Err (ConfigAfter (at + entry_size))) (Ok None))

-- what the entry at offset at asks for: a change of the register at an index, the end, or a fault
unfoldable pub entry_at : List ℕ → List ℕ → ℕ → Result (Option Change) Refusal
entry_at t xs at =
    if (ltb (length t) (at + entry_size)) (Err (ConfigCut at))
    (if (eqb (word_at t (at + 4)) 0 && eqb (word_at t (at + 8)) 0) (unmasked_at t at)
    (if (eqb (index_of xs (word_at t at)) (length xs)) (Err (NoRegister at))
    (Ok (Some (record { register = index_of xs (word_at t at); put = word_at t (at + 4); clear = word_at t (at + 8) })))))

-- ---- a whole table

-- what applying a table comes to: the first fault, number 0 where there is none; the entries before it or before the end; the values then
pub record Applied : Type 0 where
  pub number : ℕ
  pub place : ℕ
  pub entries : ℕ
  pub values : List ℕ

-- a result says what it comes to: how many entries there are, or the first fault
abbrev pub Tells : Result ℕ Refusal → Applied → Type 0
Tells (Ok entries) r = (r.number ≡ 0) × (r.entries ≡ entries)
Tells (Err f) r = (r.number ≡ number_of f) × (r.place ≡ place_of f)

-- what an entry does to values after n entries, where `next` says what the later ones do
unfoldable pub on_entry : (List ℕ → Applied) → ℕ → List ℕ → Result (Option Change) Refusal → Applied
on_entry next n vs (Ok (Some c)) = next (set vs c.register (masked (get_or vs c.register 0) c.put c.clear))
on_entry next n vs (Ok None) = record { number = 0; place = 0; entries = n; values = vs }
on_entry next n vs (Err f) = record { number = number_of f; place = place_of f; entries = n; values = vs }

-- applying the entries from the one with index n on, so many at most
unfoldable pub applied_from : ℕ → List ℕ → List ℕ → ℕ → List ℕ → Applied
applied_from zero t xs n vs = record { number = config_cut_number; place = entry_size * n; entries = n; values = vs }
applied_from (suc left) t xs n vs = on_entry (applied_from left t xs (suc n)) n vs (entry_at t xs (entry_size * n))

-- applying a table: it has fewer entries than bytes
unfoldable pub applied : List ℕ → List ℕ → List ℕ → Applied
applied t xs vs = applied_from (suc (length t)) t xs 0 vs

-- ---- what is answered, and what is left in the values

-- an answer in numbers: a refusal's number and place, or the count of entries and of the bits that differ
pub record ConfigAnswer : Type 0 where
  pub number : ℕ
  pub place : ℕ
  pub entries : ℕ
  pub bits : ℕ

abbrev pub config_refused : ℕ → ℕ → ConfigAnswer
config_refused number place = record { number = number; place = place; entries = 0; bits = 0 }

-- what configuring gives, in numbers
abbrev pub answer_of : Result Configured Refusal → ConfigAnswer
answer_of (Ok c) = record { number = 0; place = 0; entries = c.entries; bits = c.bits }
answer_of (Err r) = config_refused (number_of r) (place_of r)

-- the register lists, the limit, and then the table's first fault; or the entries and the bits that differ after the whole table
unfoldable pub config_answer : List ℕ → List ℕ → List ℕ → ConfigAnswer
config_answer t xs vs =
    if (not (fit xs vs)) (config_refused registers_unfit_number 0)
    (if (ltb config_limit (length t)) (config_refused config_long_number 0)
    (if (not (eqb (applied t xs vs).number 0)) (config_refused (applied t xs vs).number (applied t xs vs).place)
    (record { number = 0; place = 0; entries = (applied t xs vs).entries; bits = changed_bits vs (applied t xs vs).values })))

-- the values after the whole table, or those that were lent
unfoldable pub config_values : List ℕ → List ℕ → List ℕ → List ℕ
config_values t xs vs = if (eqb (config_answer t xs vs).number 0) (applied t xs vs).values vs
