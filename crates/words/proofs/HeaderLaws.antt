-- Laws of header words, over the byte order: what is written is read back, and what is read is written back. Only these go by the order's cases.
use Prim.Native.Nat.{ℕ, zero, suc, ◌+◌, ◌*◌, ◌^◌, ◌≤◌, ◌<◌}
use mathlib.Core.Path.{◌≡◌, refl, sym, ap, ◌∙◌}
use mathlib.Core.List.{List, [], ◌∷◌, ◌++◌, reverse}
use native.Mathlib.Nat.{add-zero, zero-add}
use native.Mathlib.Omega.{arith}
use lib.ListN.{length, get_or, take, drop}
use lib.Seq.{get_or-append-add}
use Rattle.std.specs.Int.{w32, to_be_bytes, to_le_bytes}
use Rattle.words.specs.declared.ByteOrder.{ByteOrder}
use Rattle.words.specs.declared.ByteOrder.TheVariants.{HighFirst, LowFirst}
use Rattle.words.specs.Word.{Bytes, word_at, word_bytes}
use Rattle.words.specs.Header.{header_at, header_bytes}
use Rattle.words.proofs.WordLaws.{word_bytes_lem, length_word, digits, four_at, bytes_word, word_lt}

-- where two tables have the same four bytes, at i and at j, they have the same word
pub header_same : (o : ByteOrder) (t u : List ℕ) (i j : ℕ) → ((k : ℕ) → k < 4 → get_or t (i + k) 0 ≡ get_or u (j + k) 0) → header_at o t i ≡ header_at o u j
unfolding header_at word_at
header_same o t u i j same = same_word o
  where
    first : get_or t i 0 ≡ get_or u j 0
    first = simp add-zero at (same 0 (omega arith))

    same_word : (o : ByteOrder) → header_at o t i ≡ header_at o u j
    same_word HighFirst = rw (first, same 1 (omega arith), same 2 (omega arith), same 3 (omega arith)) refl
    same_word LowFirst = rw (first, same 1 (omega arith), same 2 (omega arith), same 3 (omega arith)) refl

-- the first word of what stands behind p
pub header_seam : (o : ByteOrder) (p q : List ℕ) → header_at o (p ++ q) (length p) ≡ header_at o q 0
header_seam o p q = header_same o (p ++ q) q (length p) 0 (λ k h. rw zero-add (get_or-append-add p q k 0))

-- low first the bytes of a word stand the other way round
pub header_turned : (n : ℕ) → header_bytes LowFirst n ≡ reverse (header_bytes HighFirst n)
unfolding header_bytes word_bytes
header_turned n = refl

-- the library's bytes of a word are the definition's, in either order
pub high_bytes : (n : ℕ) → to_be_bytes w32 n ≡ header_bytes HighFirst n
unfolding header_bytes word_bytes
high_bytes n = refl

pub low_bytes : (n : ℕ) → to_le_bytes w32 n ≡ header_bytes LowFirst n
unfolding header_bytes
low_bytes n = refl

-- four bytes from the lowest on, and from the highest on, come to the same word
low_high : (a b c d : ℕ) → a + b * 256 + c * 65536 + d * 16777216 ≡ ((d * 256 + c) * 256 + b) * 256 + a
low_high a b c d = omega arith

-- a word that was written is read back
pub header_bytes_lem : (o : ByteOrder) (n : ℕ) (q : List ℕ) → n < 2 ^ 32 → header_at o (header_bytes o n ++ q) 0 ≡ n
unfolding header_at header_bytes word_at word_bytes
header_bytes_lem HighFirst n q h = word_bytes_lem n q h
header_bytes_lem LowFirst n q h = low_high _ _ _ _ ∙ word_bytes_lem n q h

pub length_header : (o : ByteOrder) (n : ℕ) → length (header_bytes o n) ≡ 4
unfolding header_bytes
length_header HighFirst n = length_word n
length_header LowFirst n = refl

-- a word of bytes that was read is written as these bytes
pub bytes_header : (o : ByteOrder) (t : List ℕ) (i : ℕ) → Bytes t → i + 4 ≤ length t → header_bytes o (header_at o t i) ≡ take 4 (drop i t)
unfolding header_at header_bytes word_bytes
bytes_header HighFirst t i b h = bytes_word t i b h
bytes_header LowFirst t i b h =
    header_turned (header_at LowFirst t i) ∙ ap (λ (n : ℕ). reverse (header_bytes HighFirst n)) (low_high _ _ _ _)
    ∙ ap reverse (digits _ _ _ _ (b (i + 3)) (b (i + 2)) (b (i + 1)) (b i)) ∙ sym (four_at t i h)

pub header_lt : (o : ByteOrder) (t : List ℕ) (i : ℕ) → Bytes t → header_at o t i < 2 ^ 32
unfolding header_at
header_lt HighFirst t i b = word_lt t i b
header_lt LowFirst t i b = omega (arith, b i, b (i + 1), b (i + 2), b (i + 3))

-- what a word is written as is bytes
four_bytes : (a b c d : ℕ) → a < 256 → b < 256 → c < 256 → d < 256 → Bytes (a ∷ b ∷ c ∷ d ∷ [])
four_bytes a b c d p q r s zero = p
four_bytes a b c d p q r s (suc zero) = q
four_bytes a b c d p q r s (suc (suc zero)) = r
four_bytes a b c d p q r s (suc (suc (suc zero))) = s
four_bytes a b c d p q r s (suc (suc (suc (suc i)))) = omega arith

pub written_bytes : (o : ByteOrder) (n : ℕ) → Bytes (header_bytes o n)
unfolding header_bytes word_bytes
written_bytes HighFirst n = four_bytes _ _ _ _ (omega arith) (omega arith) (omega arith) (omega arith)
written_bytes LowFirst n = four_bytes _ _ _ _ (omega arith) (omega arith) (omega arith) (omega arith)

-- a word that was written between p and q is read back
pub header_between : (o : ByteOrder) (p q : List ℕ) (n : ℕ) → n < 2 ^ 32 → header_at o (p ++ (header_bytes o n ++ q)) (length p) ≡ n
header_between o p q n h = header_seam o p (header_bytes o n ++ q) ∙ header_bytes_lem o n q h
