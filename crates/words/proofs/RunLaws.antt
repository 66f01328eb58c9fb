-- Laws of runs that are copied and stored.
use Prim.Native.Nat.{ℕ, suc, ◌+◌, ◌-◌, ◌≤◌, ◌<◌}
use mathlib.Core.Path.{◌≡◌, sym, ap, ◌∙◌}
use mathlib.Core.List.{List, [], ◌++◌, append_assoc, append-nil}
use native.Mathlib.Nat.{zero-add, add-zero, add_assoc}
use native.Mathlib.Numerals.{add-one}
use native.Mathlib.Omega.{arith}
use lib.ListN.{length, get_or, take, drop, set, length-append, length-take, length-drop, take-append-drop, drop_of_length-le}
use lib.Seq.{drop-cons, take-suc, set_at, append_snoc, length-take-le, take_at, drop_at, drop-drop, take_all, take-take, take-append-le, drop-append-le, drop-append-add}
use borrow.Rule.Slice.PartMut.{put_mid}
use Rattle.words.specs.Run.{over}

-- a turn of the copy: one byte more
pub copy_more : (s d : List ℕ) (i : ℕ) → i < length s → i < length d → set (take i s ++ drop i d) i (get_or s i 0) ≡ take (i + 1) s ++ drop (i + 1) d
copy_more s d i h k =
    let n : length (take i s) ≡ i = length-take-le i s (omega arith) in
    rw (add-one, drop-cons d i 0, take-suc s i 0)
    (set_at (take i s) (get_or d i 0) (drop (suc i) d) (get_or s i 0) i n ∙ sym (append_snoc (take i s) (get_or s i 0) (drop (suc i) d)))

-- a part that was lent from an offset on, and got xs at its front, is back
pub lent_back : (d xs l : List ℕ) (to : ℕ) → to ≤ length d → l ≡ xs ++ drop (length xs) (take (length d - to) (drop to d))
    → put_mid to (length d - to) d l ≡ over d to xs
unfolding over
lent_back d xs l to h e =
    let t : take (length d - to) (drop to d) ≡ drop to d = take_all (length d - to) (drop to d) (omega (arith, length-drop to d)) in
    let p : drop (length d - to) (drop to d) ≡ [] = drop_of_length-le (drop to d) {i = length d - to} (omega (arith, length-drop to d)) in
    rw (e, t, drop-drop (length xs) to d, p) (simp (append-nil, append_assoc))

-- a part that is lent to the end
pub part_to_end : (s : List ℕ) (a : ℕ) → take (length s - a) (drop a s) ≡ drop a s
part_to_end s a = take_all (length s - a) (drop a s) (omega (arith, length-drop a s))

-- no bytes stored change nothing
pub over_none : (d : List ℕ) (to : ℕ) → over d to [] ≡ d
unfolding over
over_none d to = rw (add-zero, append-nil, take-append-drop)

-- bytes stored at the front
pub over_front : (d xs : List ℕ) → over d 0 xs ≡ xs ++ drop (length xs) d
unfolding over
over_front d xs = simp zero-add

module _ (d : List ℕ) (to : ℕ) (xs : List ℕ) (fits : to + length xs ≤ length d) where
  -- a run that fits keeps the length
  pub length_over : length (over d to xs) ≡ length d
  unfolding over
  length_over = simp (length-append, length-take, length-drop) (omega arith)

  -- a run stored right behind another: both are one run
  pub over_over : (ys : List ℕ) (n : ℕ) → n ≡ to + length xs → over (over d to xs) n ys ≡ over d to (xs ++ ys)
  unfolding over
  over_over ys n e =
      let l : length (take to d ++ xs) ≡ to + length xs = simp (length-append, length-take) (omega arith) in
      let p : take (to + length xs) (take to d ++ xs ++ drop (to + length xs) d) ≡ take to d ++ xs = take_at _ _ _ l in
      let q : drop (to + length xs + length ys) (take to d ++ xs ++ drop (to + length xs) d) ≡ drop (to + length xs + length ys) d =
      sym (drop-drop (length ys) (to + length xs) _) ∙ ap (drop (length ys)) (drop_at (take to d ++ xs) _ _ l) ∙ drop-drop (length ys) (to + length xs) d in
      rw (e, p, q) (simp (append_assoc, length-append, add_assoc))

  -- a run stored over the front of another, from before it on: what it leaves of the other, past its first k bytes, stands behind it
  pub over_before : (n k : ℕ) (ys : List ℕ) → n ≤ to → n + length ys ≡ to + k → k ≤ length xs → over (over d to xs) n ys ≡ over d n (ys ++ drop k xs)
  unfolding over
  over_before n k ys low meets within =
      let rest : List ℕ = drop (to + length xs) d in
      let l : length (take to d) ≡ to = length-take-le to d (omega arith) in
      let m : length (take to d ++ xs) ≡ to + length xs = simp (length-append, length-take) (omega arith) in
      let p : take n (take to d ++ xs ++ rest) ≡ take n d =
      take-append-le n (take to d ++ xs) rest (omega arith) ∙ take-append-le n (take to d) xs (omega arith) ∙ take-take n to d low in
      let c : n + length ys ≡ length (take to d) + k = omega arith in
      let q : drop (n + length ys) (take to d ++ xs ++ rest) ≡ drop k xs ++ rest =
      rw (c, append_assoc) (drop-append-add (take to d) (xs ++ rest) k ∙ drop-append-le k xs rest within) in
      let e : n + length (ys ++ drop k xs) ≡ to + length xs = simp (length-append, length-drop) (omega arith) in
      rw (p, q, e) (simp append_assoc)
