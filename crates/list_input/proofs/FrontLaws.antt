-- Fronts: of what is read and written so far, and of an input that is too long to be listed.
use Prim.Native.Nat.{ℕ, ◌+◌, ◌-◌, ◌≤◌, ◌<◌}
use mathlib.Core.Path.{◌≡◌, sym, ap, ◌∙◌}
use mathlib.Core.List.{List, ◌++◌}
use native.Mathlib.Omega.{arith}
use lib.ListN.{length, take, drop}
use lib.Seq.{take-add, take_at, take-append-le, length-take-le}
use borrow.Rule.Slice.PartMut.{put_mid, post_of}
use mathlib.Core.Logic.{by_cases}
use native.Mathlib.Decide.{dec_le}
use Rattle.std.proofs.Common.{subst, take_all, drop_at}
use Rattle.std.proofs.lemmas.List.{take_rest}
use Rattle.std.specs.Prelude.{Option, None, Some, Result, Ok, Err, IfSome, OnOk, OnErr}
use Rattle.std.specs.Io.KnownBytes.{Appends}
use Rattle.words.specs.declared.ByteOrder.{ByteOrder}
use Rattle.listing.specs.Listing.{text, list_limit, list_length, list_output}
use Rattle.listing.proofs.ListingLaws.{text_long, list_front, bound_most}
use Rattle.list_input.specs.Front.{AppendsFront}

-- what stands at the front of a buffer and what is put right behind it
pub take_put : (a k n : ℕ) (xs ys : List ℕ) → a ≤ length xs → n ≤ length ys → take (a + n) (put_mid a k xs ys) ≡ take a xs ++ take n ys
take_put a k n xs ys within fits =
    let front = take a xs in
    let back = ys ++ post_of a k xs in
    let whole : length front ≡ a = length-take-le a xs within in
    take-add a n (front ++ back) ∙ ap (λ l. l ++ take n (drop a (front ++ back))) (take_at front back a whole)
    ∙ ap (λ l. front ++ take n l) (drop_at front back a whole) ∙ ap (λ l. front ++ l) (take-append-le n ys (post_of a k xs) fits)

-- a front, and then the front of the rest
pub take_more : (a n : ℕ) (bs : List ℕ) → take (a + n) bs ≡ take a bs ++ take n (take (length bs - a) (drop a bs))
take_more a n bs = take-add a n bs ∙ ap (λ l. take a bs ++ take n l) (sym (take_rest bs a))

-- an input that is over the limit has the text of its front, if that is over the limit too
pub text_read : (o : ByteOrder) (n : ℕ) (xs t : List ℕ) → list_limit < n → t ≡ take n xs → text o t ≡ text o xs
text_read o n xs t over e =
    by_cases (dec_le (length xs) list_limit) (λ h. ap (text o) (e ∙ take_all n xs (omega arith)))
    (λ h. text_long o t (subst (λ l. list_limit < length l) (sym e) (by_cases (dec_le n (length xs)) (λ k. omega (arith, length-take-le n xs k)) (λ k. subst (λ l. list_limit < length l) (sym (take_all n xs (omega arith))) (omega arith)))) ∙ sym (text_long o xs (omega arith)))

-- listing into a buffer that has room for any text puts the text there
pub text_put : (o : ByteOrder) (t out b : List ℕ) (m : ℕ) → 131104 ≤ length out → m ≡ list_length o t (length out) → b ≡ list_output o t out → take m b ≡ text o t
text_put o t out b m room e f = rw (e, f) (list_front o t out (omega (arith, bound_most t)))

map_known : (known : Option (List ℕ)) {P Q : List ℕ → Type 0} → IfSome known P → ((xs : List ℕ) → P xs → Q xs) → IfSome known Q
map_known None p f = tt
map_known (Some xs) p f = f xs p

-- t is read of an input, and bs is its text
module _ (o : ByteOrder) (n : ℕ) (over : list_limit < n) (known old new : Option (List ℕ)) (t bs : List ℕ) (put : bs ≡ text o t) where
  pub listed_ok : {A E : Type 0} (r : Result A E) → IfSome known (λ xs. t ≡ take n xs) → OnOk r (Appends old new bs) → OnOk r (IfSome known (λ xs. Appends old new (text o xs)))
  listed_ok (Ok a) read p = map_known known read (λ xs e. subst (Appends old new) (put ∙ text_read o n xs t over e) p)
  listed_ok (Err e) read p = tt

  pub listed_err : {A E : Type 0} (r : Result A E) → IfSome known (λ xs. t ≡ take n xs) → OnErr r (AppendsFront old new bs) → OnErr r (IfSome known (λ xs. AppendsFront old new (text o xs)))
  listed_err (Ok a) read p = tt
  listed_err (Err e) read p = map_known known read (λ xs e. subst (AppendsFront old new) (put ∙ text_read o n xs t over e) p)
