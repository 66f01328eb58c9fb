-- Laws of the two manners, and which of them is used by the calls that are given none.
use Prim.Native.Nat.{ℕ}
use mathlib.Core.Path.{◌≡◌, refl, sym, ◌∙◌}
use mathlib.Core.Bool.{Bool, true, false, not, ◌&&◌, ◌||◌}
use lib.Dec.{ltb, leb, eqb}
use Rattle.std.specs.Prelude.{Result, Ok, Err}
use Rattle.words.specs.Choice.{if}
use Rattle.words.specs.declared.refusal.Refusal.{Refusal}
use Rattle.boot_strap.specs.declared.Manner.TheVariants.{Strict, Lenient}
use Rattle.boot_strap.specs.declared.Strap.{Strap}
use Rattle.boot_strap.specs.Strap.{strap_limit, bits, is_device, is_reserved, decode_as}
use Rattle.boot_strap.specs.Strap.{decode_short, numbers_short, same_answer, label_answer}
use Rattle.boot_strap.specs.Manners.{refused_sub_mode, wrong_bit, decoded_unless, EntryManners}

-- ---- the two manners

-- strictly the two sub-modes and a wrong bit are reserved
reserved_strict : (v : ℕ) → is_reserved true v ≡ (refused_sub_mode v || wrong_bit v)
unfolding is_reserved
reserved_strict v = go (is_device 0 v) (leb 2 (bits 6 5 v)) (not (eqb (bits 9 8 v) 0)) _
  where
    go : (a b c d : Bool) → if a (b || c) d ≡ ((a && b) || if a c d)
    go true b c d = refl
    go false b c d = refl

-- leniently the two sub-modes alone
reserved_lenient : (v : ℕ) → is_reserved false v ≡ refused_sub_mode v
unfolding is_reserved
reserved_lenient v = go (is_device 0 v) (leb 2 (bits 6 5 v)) (is_device 4 v) (is_device 5 v)
  where
    go : (a b c d : Bool) → if a (b || false) (if c false (if d false false)) ≡ (a && b)
    go true true c d = refl
    go true false c d = refl
    go false b true d = refl
    go false b false true = refl
    go false b false false = refl

-- the whole answer of each manner
strict_is : (v : ℕ) → decode_as Strict v ≡ decoded_unless (refused_sub_mode v || wrong_bit v) v
unfolding decode_as
strict_is v = rw (reserved_strict v)

lenient_is : (v : ℕ) → decode_as Lenient v ≡ decoded_unless (refused_sub_mode v) v
unfolding decode_as
lenient_is v = rw (reserved_lenient v)

-- what is decoded strictly is decoded alike leniently
pub strict_lenient : (v : ℕ) (s : Strap) → decode_as Strict v ≡ Ok s → decode_as Lenient v ≡ Ok s
strict_lenient v s e = lenient_is v ∙ go (ltb strap_limit v) (refused_sub_mode v) (wrong_bit v) _ _ _ (sym (strict_is v) ∙ e)
  where
    go : (a b c : Bool) (x z : Result Strap Refusal) (r : Refusal)
        → if a x (if (b || c) (Err r) z) ≡ Ok s → if a x (if b (Err r) z) ≡ Ok s
    go true b c x z r e = e
    go false true c x z r e = e
    go false false true x z r e = cc
    go false false false x z r e = e

-- ---- the calls that are given no manner

-- the short entry names the strict manner, the comparison and the label the lenient one
pub entry_manners : EntryManners
unfolding decode_short numbers_short same_answer label_answer
entry_manners =
    record {
      short = λ v. refl;
      numbers = λ v. refl;
      same = λ v w. refl;
      label = λ v. refl;
      strict = strict_is;
      lenient = lenient_is;
    }
