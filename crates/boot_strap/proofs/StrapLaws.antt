-- Laws of the strap value: its bits, its numbers and the comparison.
use Prim.Native.Nat.{ℕ, zero, suc, ◌%◌, ◌<◌}
use mathlib.Core.Path.{◌≡◌, refl, sym, ap, ◌∙◌}
use mathlib.Core.Bool.{Bool, true, false, ◌&&◌, beq, and_assoc, and-true}
use mathlib.Core.List.{List, [], ◌∷◌}
use mathlib.Core.Logic.{◌↔◌, by_cases}
use native.Mathlib.Decide.{ℕ_discrete}
use native.Mathlib.Nat.{mod-lt}
use native.Mathlib.Omega.{arith}
use mir.Val.{bool_byte}
use lib.Dec.{eqb, lit<}
use lib.ListN.{get_or}
use borrow.Author.Tests.{eqb-true, eq-eqb, ne_eqb}
use Rattle.std.specs.Prelude.{Result, Ok, Err}
use Rattle.std.specs.Cmp.Derive.{one_truth}
use Rattle.std.proofs.Common.{rules}
use Rattle.words.specs.Choice.{if}
use Rattle.words.specs.declared.refusal.Refusal.{Refusal}
use Rattle.words.specs.Refusal.{not_open_number, number_of, place_of, address_of}
use Rattle.words.proofs.RefusalLaws.{same_refusal, number_some, no_address}
use Rattle.words.proofs.ChoiceLaws.{and_yes}
use Rattle.boot_strap.specs.contracts.StrapPartialEq.TheImpl as strap_eq
use Rattle.boot_strap.specs.declared.Manner.{Manner}
use Rattle.boot_strap.specs.declared.Strap.{Strap}
use Rattle.boot_strap.specs.declared.Strap.TheVariants.{Sleep, Emif16, Link, Ethernet, Pcie, I2cMaster, I2cPassive, Spi}
use Rattle.boot_strap.specs.Strap.{strap_of, row_of, decode_as, numbers_as, told_address, nine}
use Rattle.boot_strap.specs.Strap.{kind_of, fields_of, answer_numbers, same_list, same_strap, same_of, same_answer_of}

-- ---- bits

-- a bit as a yes or no is the bit as a number
bit_below : (n : ℕ) → n < 2 → bool_byte (eqb n 1) ≡ n
bit_below zero h = refl
bit_below (suc zero) h = refl
bit_below (suc (suc n)) h = absurd (omega arith)

bit_byte : (n : ℕ) → bool_byte (eqb (n % 2) 1) ≡ n % 2
bit_byte n = bit_below (n % 2) (mod-lt _ (lit< tt))

-- ---- the numbers of an answer

-- a function of the value that a test chooses
if_ap : {A B : Type 0} (f : A → B) (b : Bool) (x y : A) → f (if b x y) ≡ if b (f x) (f y)
if_ap f true x y = refl
if_ap f false x y = refl

-- a strap's kind and fields
unfoldable row : Strap → List ℕ
row s = kind_of s ∷ fields_of s

-- they are the row of its value
row_is : (v : ℕ) → row (strap_of v) ≡ row_of v
unfolding row strap_of row_of kind_of fields_of
row_is v = simp (if_ap row, bit_byte)

-- the numbers of the answer are those of the table
numbers_are : (manner : Manner) (v : ℕ) → answer_numbers (decode_as manner v) ≡ numbers_as manner v
unfolding decode_as numbers_as answer_numbers row
numbers_are manner v = simp (if_ap answer_numbers, ← row_is v)

-- what equals the definition has its numbers
pub with_numbers : (manner : Manner) (v : ℕ) (r : Result Strap Refusal) → r ≡ decode_as manner v → answer_numbers r ≡ numbers_as manner v
with_numbers manner v r e = ap answer_numbers e ∙ numbers_are manner v

-- ---- a strap from its numbers

-- the strap of a kind with these fields
unfoldable pub strap_from : ℕ → List ℕ → Strap
strap_from kind f =
    if (eqb kind 0) (Sleep (get_or f 0 0) (eqb (get_or f 1 0) 1) (get_or f 2 0))
    (if (eqb kind 1) (Emif16 (get_or f 0 0) (eqb (get_or f 1 0) 1) (get_or f 2 0))
    (if (eqb kind 2) (Link (get_or f 0 0) (get_or f 1 0) (get_or f 2 0))
    (if (eqb kind 3) (Ethernet (get_or f 0 0) (get_or f 1 0) (get_or f 2 0) (get_or f 3 0) (get_or f 4 0))
    (if (eqb kind 4) (Pcie (get_or f 0 0) (get_or f 1 0) (get_or f 2 0))
    (if (eqb kind 5) (I2cMaster (get_or f 0 0))
    (if (eqb kind 6) (I2cPassive (get_or f 0 0))
    (Spi (get_or f 0 0) (eqb (get_or f 1 0) 1) (eqb (get_or f 2 0) 1) (get_or f 3 0) (get_or f 4 0) (get_or f 5 0))))))))

-- a Bool as a number and back
byte_bool : (b : Bool) → eqb (bool_byte b) 1 ≡ b
byte_bool true = refl
byte_bool false = refl

strap_back : (s : Strap) → strap_from (kind_of s) (fields_of s) ≡ s
unfolding strap_from kind_of fields_of
strap_back (Sleep sr wait clock) = rw (byte_bool wait)
strap_back (Emif16 sr wait clock) = rw (byte_bool wait)
strap_back (Link device number clock) = refl
strap_back (Ethernet device multiplier connection id clock) = refl
strap_back (Pcie bar sr clock) = refl
strap_back (I2cMaster number) = refl
strap_back (I2cPassive address) = refl
strap_back (Spi mode five_pin wide select table sr) = rw (byte_bool five_pin, byte_bool wide)

-- straps of one kind with equal fields are the same
strap_inj : (s t : Strap) → kind_of s ≡ kind_of t → fields_of s ≡ fields_of t → s ≡ t
strap_inj s t k f = sym (strap_back s) ∙ (λ i. strap_from (k i) (f i)) ∙ strap_back t

-- the address of a refusal, where it tells one
told_first : (r : Refusal) → get_or (told_address r) 0 0 ≡ address_of r
told_first r = by_cases (ℕ_discrete (number_of r) not_open_number)
    (λ z. simp (eq-eqb _ _ z))
    (λ n. simp (ne_eqb _ _ n) (sym (no_address r n)))

-- a refusal in nine numbers
pub nine_refused : (r : Refusal) → number_of r ∷ place_of r ∷ address_of r ∷ 0 ∷ 0 ∷ 0 ∷ 0 ∷ 0 ∷ 0 ∷ [] ≡ nine (answer_numbers (Err r))
unfolding answer_numbers nine
nine_refused r = by_cases (ℕ_discrete (number_of r) not_open_number)
    (λ z. simp (eq-eqb _ _ z))
    (λ n. simp (ne_eqb _ _ n, no_address r n))

-- answers with the same numbers are the same
pub numbers_inj : (a b : Result Strap Refusal) → answer_numbers a ≡ answer_numbers b → a ≡ b
unfolding answer_numbers
numbers_inj (Err q) (Err r) e =
    ap Err (same_refusal q r (cc) (cc) (sym (told_first q) ∙ ap (λ (xs : List ℕ). get_or xs 2 0) e ∙ told_first r))
numbers_inj (Err q) (Ok t) e = absurd (number_some q (ap (λ (xs : List ℕ). get_or xs 0 0) e))
numbers_inj (Ok s) (Err r) e = absurd (number_some r (sym (ap (λ (xs : List ℕ). get_or xs 0 0) e)))
numbers_inj (Ok s) (Ok t) e = ap Ok (strap_inj s t (cc) (cc))

-- ---- the comparison

eqb_same : (n : ℕ) → eqb n n ≡ true
eqb_same n = eq-eqb n n refl

list_same : (xs ys : List ℕ) → same_list xs ys ≡ true → xs ≡ ys
unfolding same_list
list_same [] [] e = refl
list_same [] (y ∷ ys) e = cc
list_same (x ∷ xs) [] e = cc
list_same (x ∷ xs) (y ∷ ys) e =
    let h = and_yes _ _ e in
    λ i. eqb-true x y h.0 i ∷ list_same xs ys h.1 i

same_list_lem : (xs : List ℕ) → same_list xs xs ≡ true
unfolding same_list
same_list_lem [] = refl
same_list_lem (x ∷ xs) = rw (eqb_same x) (same_list_lem xs)

-- two straps are found the same exactly where they are
pub same_iff : (s t : Strap) → (same_strap s t ≡ true) ↔ (s ≡ t)
unfolding same_strap
same_iff s t = (
  λ e. let h = and_yes _ _ e in strap_inj s t (eqb-true _ _ h.0) (list_same _ _ h.1),
  λ e. rw (e, eqb_same (kind_of t)) (same_list_lem (fields_of t)),
)

-- a strap of kind k is made of its fields
pub of_kind : (t : Strap) (k : ℕ) → kind_of t ≡ k → t ≡ strap_from k (fields_of t)
of_kind t k e = sym (strap_back t) ∙ ap (λ (n : ℕ). strap_from n (fields_of t)) e

-- a strap of another kind is not the same
pub other_kind : (s t : Strap) → (kind_of s ≡ kind_of t → ⊥) → false ≡ same_strap s t
unfolding same_strap
other_kind s t d = rw (ne_eqb _ _ d)

-- equal Bools are equal as numbers
pub byte_beq : (a b : Bool) → eqb (bool_byte a) (bool_byte b) ≡ beq a b
byte_beq true true = refl
byte_beq true false = refl
byte_beq false true = refl
byte_beq false false = refl

-- the six fields of two SPI straps
pub spi_same : (m n : ℕ) (f g w x : Bool) (c d t u r s : ℕ)
    → (eqb m n && beq f g && beq w x && eqb c d && eqb t u && eqb r s) ≡ same_strap (Spi m f w c t r) (Spi n g x d u s)
unfolding same_strap kind_of fields_of same_list
spi_same m n f g w x c d t u r s = simp (and_assoc, and-true, byte_beq)

-- what the derived `==` answers of two straps
abbrev pub equal : Strap → Strap → Bool
equal = (strap_eq.ghosts).eq

equal_so : (s t : Strap) → equal s t ≡ true → s ≡ t
equal_so s t e = search rules

equal_self : (s : Strap) → equal s s ≡ true
equal_self s = search rules

-- it is that they have one kind and equal fields
pub equal_same : (s t : Strap) → equal s t ≡ same_strap s t
equal_same s t =
    one_truth (equal s t) (same_strap s t)
    (λ e. (same_iff s t).1 (equal_so s t e))
    (λ e. rw ((same_iff s t).0 e) (equal_self t))

-- of two straps the answer is whether they are the same
pub same_told : (a b : Result Strap Refusal) (s t : Strap) (c : Bool)
    → Ok s ≡ a → Ok t ≡ b → c ≡ same_strap s t → same_answer_of (Ok c) ≡ same_of a b
unfolding same_of
same_told a b s t c first second e = ap (λ (x : Bool). same_answer_of (Ok x)) e ∙ (λ i. same_of (first i) (second i))

-- and so it is that of `==`
pub same_decoded : (a b : Result Strap Refusal) (s t : Strap) (c : Bool)
    → Ok s ≡ a → Ok t ≡ b → c ≡ equal s t → same_answer_of (Ok c) ≡ same_of a b
same_decoded a b s t c first second e = same_told a b s t c first second (e ∙ equal_same s t)
