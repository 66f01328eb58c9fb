-- Writing the sections of a list: what holds before each section, and at the end.
use Prim.Native.Nat.{ℕ, ◌+◌, ◌≤◌, ◌<◌}
use mathlib.Core.Path.{◌≡◌, refl, ◌∙◌}
use mathlib.Core.List.{List, [], ◌∷◌, ◌++◌}
use native.Mathlib.Nat.{add-zero}
use native.Mathlib.Omega.{arith}
use lib.ListN.{length, drop, get_or, length-append, drop_of_length-le}
use Rattle.words.specs.declared.ByteOrder.{ByteOrder}
use Rattle.words.specs.Run.{over}
use Rattle.words.proofs.RunLaws.{over_none, over_over}
use Rattle.boot_table.specs.Table.{next_of, chunk, chunks}
use Rattle.writer.specs.declared.Section.{Section}
use Rattle.writer.specs.Write.{sect_of, sects_of, fault_of, Faultless}
use Rattle.writer.proofs.ListLaws.{no_section, rest_cons, faultless_cons, sects_cons}
use Rattle.writer.proofs.SectionLaws.{next_sect}

-- before the section of an index, at an offset: the others have no fault and fit, and with them the output is what it is to be
pub record PutAt (o : ByteOrder) (xs : List Section) (d out₀ : List ℕ) (index at : ℕ) (out : List ℕ) : Type 0 where
  pub same : length out ≡ length out₀
  pub faultless : Faultless (length d) (drop index xs)
  pub room : at + length (chunks o (sects_of (drop index xs) d)) ≤ length out
  pub ends : at + length (chunks o (sects_of (drop index xs) d)) ≡ 4 + length (chunks o (sects_of xs d))
  pub outs : over out at (chunks o (sects_of (drop index xs) d)) ≡ over out₀ 4 (chunks o (sects_of xs d))

module _ (o : ByteOrder) (xs : List Section) (d out₀ : List ℕ) where
  pub put_starts : Faultless (length d) xs × (4 + length (chunks o (sects_of xs d)) ≤ length out₀) → PutAt o xs d out₀ 0 4 out₀
  put_starts f = record { same = refl; faultless = f.0; room = f.1; ends = refl; outs = refl }

  module _ (i at : ℕ) (out : List ℕ) (p : PutAt o xs d out₀ i at out) where
    abbrev x : Section
    x = get_or xs i no_section

    abbrev rest : List ℕ
    rest = chunks o (sects_of (drop (i + 1) xs) d)

    -- the offset is within the output
    pub put_within : at ≤ length out
    put_within = omega (arith, p.room)

    module _ (h : i < length xs) where
      -- what is left begins with the section of the index
      cut : drop i xs ≡ x ∷ drop (i + 1) xs
      cut = rest_cons xs i h

      cut_faultless : (fault_of x (length d) ≡ 0) × Faultless (length d) (drop (i + 1) xs)
      cut_faultless = faultless_cons (rw cut at p.faultless)

      cut_chunks : chunks o (sects_of (drop i xs) d) ≡ chunk o (sect_of d x) ++ rest
      cut_chunks = rw cut (sects_cons o x (drop (i + 1) xs) d)

      -- the offset after it
      next : next_of at x.size ≡ at + length (chunk o (sect_of d x))
      next = next_sect o d x at cut_faultless.0

      -- its bytes and those of the others
      cut_length : at + length (chunks o (sects_of (drop i xs) d)) ≡ next_of at x.size + length rest
      cut_length =
          let a : length (chunk o (sect_of d x) ++ rest) ≡ length (chunk o (sect_of d x)) + length rest = length-append (chunk o (sect_of d x)) rest in
          rw cut_chunks (omega (arith, a, next))

      -- what `put_section` requires
      pub put_fits : (fault_of x (length d) ≡ 0) × (next_of at x.size ≤ length out)
      put_fits = (cut_faultless.0, omega (arith, p.room, cut_length))

      -- a section more
      pub put_turns : (at' : ℕ) (out' : List ℕ) → length out' ≡ length out → (at' ≡ next_of at x.size) × (out' ≡ over out at (chunk o (sect_of d x))) → PutAt o xs d out₀ (i + 1) at' out'
      put_turns at' out' l e = record {
        same = l ∙ p.same;
        faultless = cut_faultless.1;
        room = omega (arith, p.room, cut_length, e.0);
        ends = omega (arith, p.ends, cut_length, e.0);
        outs = rw e.1 (over_over out at (chunk o (sect_of d x)) (omega (arith, put_fits.1, next)) rest at' (e.0 ∙ next) ∙ rw (← cut_chunks) p.outs);
      }

    -- at the end nothing is left
    none_left : length xs ≤ i → chunks o (sects_of (drop i xs) d) ≡ []
    unfolding chunks sects_of
    none_left h = rw (drop_of_length-le xs {i = i} h)

    pub put_ends : length xs ≤ i → (at ≡ 4 + length (chunks o (sects_of xs d))) × (out ≡ over out₀ 4 (chunks o (sects_of xs d)))
    put_ends h = (rw (none_left h, add-zero) at p.ends, rw (none_left h, over_none) at p.outs)
