-- What the stores of `write` ask, and what they come to.
use Prim.Native.Nat.{ℕ, ◌+◌, ◌≤◌}
use mathlib.Core.Path.{◌≡◌, sym, ap, ◌∙◌}
use mathlib.Core.List.{List}
use native.Mathlib.Omega.{arith}
use lib.ListN.{length}
use Rattle.words.specs.declared.ByteOrder.{ByteOrder}
use Rattle.words.specs.Header.{header_bytes}
use Rattle.words.specs.Run.{over}
use Rattle.boot_table.specs.Table.{chunks}
use Rattle.writer.specs.declared.Section.{Section}
use Rattle.writer.specs.Write.{WriteAnswer, sects_of, Faultless, write_answer, write_output}
use Rattle.writer.proofs.AnswerLaws.{length_written, write_only, output_written, parts_written}

-- the answer r has number 0; o₁, o₂ and o₃ are the output after the entry word, the sections and the zero word
module _ (o : ByteOrder) (entry : ℕ) (xs : List Section) (d out : List ℕ) (r : WriteAnswer) (e : r ≡ write_answer o entry xs d (length out)) (z : r.number ≡ 0) where
  faultless_fits : (Faultless (length d) xs) × (8 + length (chunks o (sects_of xs d)) ≤ length out)
  faultless_fits =
      let w = write_only o entry xs d (length out) (sym (ap (λ (w : WriteAnswer). w.number) e) ∙ z) in
      (w.0, rw length_written at w.2)

  pub entry_fits : 0 + 4 ≤ length out
  entry_fits = omega (arith, faultless_fits.1)

  module _ (o₁ : List ℕ) (k₁ : length o₁ ≡ length out) where
    pub sections_fit : (Faultless (length d) xs) × (4 + length (chunks o (sects_of xs d)) ≤ length o₁)
    sections_fit = (faultless_fits.0, omega (arith, faultless_fits.1))

    module _ (end : ℕ) (o₂ : List ℕ) (k₂ : length o₂ ≡ length o₁) (n : end ≡ 4 + length (chunks o (sects_of xs d))) where
      pub zero_fits : end + 4 ≤ length o₂
      zero_fits = omega (arith, faultless_fits.1)

      pub all_stored : (o₃ : List ℕ) → o₁ ≡ over out 0 (header_bytes o entry) → o₂ ≡ over o₁ 4 (chunks o (sects_of xs d)) → o₃ ≡ over o₂ end (header_bytes o 0)
          → o₃ ≡ write_output o entry xs d out
      all_stored o₃ e₁ e₂ e₃ =
          e₃ ∙ ap (λ (u : List ℕ). over u end (header_bytes o 0)) (e₂ ∙ ap (λ (u : List ℕ). over u 4 (chunks o (sects_of xs d))) e₁)
          ∙ parts_written o entry xs d out (rw length_written faultless_fits.1) end n ∙ output_written o entry xs d out r e z
