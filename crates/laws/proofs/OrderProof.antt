-- What a table means does not depend on its byte order: the proof of `EitherOrder`.
use Prim.Native.Nat.{ℕ, ◌^◌, ◌<◌}
use mathlib.Core.Path.{◌≡◌, refl, sym, ap, ◌∙◌, subst}
use mathlib.Core.List.{List, map}
use Rattle.words.specs.declared.ByteOrder.{ByteOrder}
use Rattle.words.proofs.HeaderLaws.{header_lt}
use Rattle.boot_table.specs.Table.{Sect, Reading, table_of, entry_of, reading}
use Rattle.boot_table.specs.Form.{form_of}
use Rattle.boot_table.specs.Valid.{Valid, All}
use Rattle.boot_table.proofs.RoundTrip.{length_orders, read_table, entry_table, table_read, valid_read}
use Rattle.boot_table.specs.Pads.{bare}
use Rattle.loader.proofs.PadLaws.{alike_judged, alike_loaded, alike_memory}
use Rattle.laws.specs.Orders.{SameLoads, EitherOrder}

-- the same entry and sections written in two orders have one form, one entry and the same sections, and so load alike
written : (o p : ByteOrder) (entry : ℕ) (ss : List Sect) → entry < 2 ^ 32 → All Valid ss → SameLoads o p (table_of o entry ss) (table_of p entry ss)
unfolding form_of
written o p entry ss h v =
    let same : reading o (table_of o entry ss) ≡ reading p (table_of p entry ss) = read_table o entry ss v ∙ sym (read_table p entry ss v) in
    let form : form_of o (table_of o entry ss) ≡ form_of p (table_of p entry ss) = rw (length_orders o p entry ss, same) refl in
    let first : entry_of o (table_of o entry ss) ≡ entry_of p (table_of p entry ss) = entry_table o entry ss h ∙ sym (entry_table p entry ss h) in
    let sections = ap (λ (r : Reading). map bare r.sections) same in
    record {
      judged = λ m. alike_judged o p m (table_of o entry ss) (table_of p entry ss) form first sections;
      loaded = λ m. alike_loaded o p m (table_of o entry ss) (table_of p entry ss) form first sections;
      memory = λ m. alike_memory o p m (table_of o entry ss) (table_of p entry ss) form first sections;
    }

pub either_order : EitherOrder
either_order = record {
  written = written;
  rewritten = λ o p t b w.
      subst (λ (x : List ℕ). SameLoads o p x (table_of p (entry_of o t) (reading o t).sections)) (table_read o t b w)
      (written o p (entry_of o t) (reading o t).sections (header_lt o t 0 b) (valid_read o t b w));
}
