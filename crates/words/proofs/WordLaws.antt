-- Laws of words and pads: what is written is read back, and what is read is written back.
use mathlib.Core.Path.{◌≡◌, refl, sym, ◌∙◌}
use mathlib.Core.List.{List, [], ◌∷◌, ◌++◌}
use Prim.Native.Nat.{ℕ, zero, suc, ◌+◌, ◌*◌, ◌/◌, ◌%◌, ◌≤◌, ◌<◌, ◌^◌}
use native.Mathlib.Omega.{arith}
use native.Mathlib.Nat.{add-zero, mod-eq_of_lt, div-div-eq-div-mul}
use lib.ListN.{length, get_or, take, drop, length-drop}
use lib.Seq.{get_or-drop, take-append_seam, drop-append_seam}
use Rattle.words.specs.Word.{Bytes, word_at, word_bytes, pad_count}

-- a word that is written is read back
pub word_bytes_lem : (n : ℕ) (q : List ℕ) → n < 2 ^ 32 → word_at (word_bytes n ++ q) 0 ≡ n
unfolding word_at word_bytes
word_bytes_lem n q h =
    let s : n / 256 / 256 ≡ n / 65536 = div-div-eq-div-mul n 256 256 in
    let r : n / 65536 / 256 ≡ n / 16777216 = div-div-eq-div-mul n 65536 256 in
    let top : n / 16777216 % 256 ≡ n / 16777216 = mod-eq_of_lt (omega arith) in
    let two : n / 65536 ≡ n / 16777216 * 256 + n / 65536 % 256 = omega arith in
    let three : n / 256 ≡ n / 65536 * 256 + n / 256 % 256 = omega arith in
    omega arith

pub length_word : (n : ℕ) → length (word_bytes n) ≡ 4
unfolding word_bytes
length_word n = refl

-- the bytes of a word that was put together from bytes
pub digits : (a b c d : ℕ) → a < 256 → b < 256 → c < 256 → d < 256 → word_bytes (((a * 256 + b) * 256 + c) * 256 + d) ≡ a ∷ b ∷ c ∷ d ∷ []
unfolding word_bytes
digits a b c d ha hb hc hd =
    let n : ℕ = ((a * 256 + b) * 256 + c) * 256 + d in
    let p : n / 16777216 % 256 ≡ a = omega (arith, div-div-eq-div-mul n 256 256, div-div-eq-div-mul n 65536 256) in
    let q : n / 65536 % 256 ≡ b = omega (arith, div-div-eq-div-mul n 256 256) in
    let r : n / 256 % 256 ≡ c = omega arith in
    let s : n % 256 ≡ d = omega arith in
    cc

four_front : (t : List ℕ) → 4 ≤ length t → take 4 t ≡ get_or t 0 0 ∷ get_or t 1 0 ∷ get_or t 2 0 ∷ get_or t 3 0 ∷ []
four_front [] h = absurd (omega arith)
four_front (x ∷ []) h = absurd (omega arith)
four_front (x ∷ y ∷ []) h = absurd (omega arith)
four_front (x ∷ y ∷ z ∷ []) h = absurd (omega arith)
four_front (x ∷ y ∷ z ∷ w ∷ t) h = refl

-- the four bytes that stand at an offset
pub four_at : (t : List ℕ) (i : ℕ) → i + 4 ≤ length t → take 4 (drop i t) ≡ get_or t i 0 ∷ get_or t (i + 1) 0 ∷ get_or t (i + 2) 0 ∷ get_or t (i + 3) 0 ∷ []
four_at t i h = four_front (drop i t) (simp length-drop (omega arith)) ∙ simp (get_or-drop, add-zero)

-- what is cut out of bytes, or put together from them, is bytes
pub bytes_drop : (t : List ℕ) (i : ℕ) → Bytes t → Bytes (drop i t)
bytes_drop t i b j = rw get_or-drop (b (i + j))

pub bytes_take : (t : List ℕ) (n : ℕ) → Bytes t → Bytes (take n t)
bytes_take t zero b i = omega arith
bytes_take [] (suc n) b i = b i
bytes_take (x ∷ t) (suc n) b zero = b 0
bytes_take (x ∷ t) (suc n) b (suc i) = bytes_take t n (λ j. b (suc j)) i

pub bytes_append : (s t : List ℕ) → Bytes s → Bytes t → Bytes (s ++ t)
bytes_append [] t p q i = q i
bytes_append (x ∷ s) t p q zero = p 0
bytes_append (x ∷ s) t p q (suc i) = bytes_append s t (λ j. p (suc j)) q i

pub bytes_parts : (s t : List ℕ) → Bytes (s ++ t) → (Bytes s) × (Bytes t)
bytes_parts s t b = (rw (take-append_seam s t) at (bytes_take (s ++ t) (length s) b), rw (drop-append_seam s t) at (bytes_drop (s ++ t) (length s) b))

-- a word that is read is written back
pub bytes_word : (t : List ℕ) (i : ℕ) → Bytes t → i + 4 ≤ length t → word_bytes (word_at t i) ≡ take 4 (drop i t)
unfolding word_at
bytes_word t i b h = digits _ _ _ _ (b i) (b (i + 1)) (b (i + 2)) (b (i + 3)) ∙ sym (four_at t i h)

pub word_lt : (t : List ℕ) (i : ℕ) → Bytes t → word_at t i < 2 ^ 32
unfolding word_at
word_lt t i b = omega (arith, b i, b (i + 1), b (i + 2), b (i + 3))

-- pads end at a multiple of four, and are fewer than four
pub pad_lt : (n : ℕ) → pad_count n < 4
unfolding pad_count
pad_lt n = omega arith

pub pad_aligns : (n : ℕ) → (n + pad_count n) % 4 ≡ 0
unfolding pad_count
pad_aligns n = omega arith
