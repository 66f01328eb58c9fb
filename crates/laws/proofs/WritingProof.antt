-- The proof that an accepted table that was written stores the listed data in the order of the list.
use Prim.Native.Nat.{ℕ, ◌^◌, ◌<◌}
use mathlib.Core.Path.{◌≡◌, refl, ◌∙◌}
use mathlib.Core.List.{List, [], ◌∷◌}
use lib.ListN.{length}
use Rattle.words.specs.declared.ByteOrder.{ByteOrder}
use Rattle.region_map.specs.Map.{is_open}
use Rattle.boot_table.specs.Form.{total}
use Rattle.loader.specs.Store.{store_all}
use Rattle.loader.specs.Load.{accepted, Accepted}
use Rattle.loader.proofs.LoadLaws.{accepted_answer, accepted_iff, accepted_memory}
use Rattle.writer.specs.declared.Section.{Section}
use Rattle.writer.specs.Write.{sect_of, sects_of, Faultless, none, also}
use Rattle.writer.specs.Trips.{Writable, written_in, ReadsBack}
use Rattle.writer.proofs.FaultLaws.{length_data}
use Rattle.writer.proofs.TripLaws.{reads_back}
use Rattle.laws.specs.Writing.{store_listed, listed_bytes, ListAccepted, LoadsListed, WrittenLoads}

-- storing the sections of a list is storing its data in turn
listed_stored : (m d : List ℕ) (xs : List Section) (mem : List ℕ) → store_all m mem (sects_of xs d) ≡ store_listed m mem d xs
unfolding store_all store_listed sects_of sect_of
listed_stored m d [] mem = refl
listed_stored m d (x ∷ xs) mem = listed_stored m d xs _

listed_total : (d : List ℕ) {xs : List Section} → Faultless (length d) xs → total (sects_of xs d) ≡ listed_bytes xs
unfolding total listed_bytes sects_of sect_of
listed_total d none = refl
listed_total d (also {x = x} {xs = xs} z s) = rw (length_data d x z, listed_total d s) refl

module _ (o : ByteOrder) (m : List ℕ) (entry : ℕ) (xs : List Section) (d out mem : List ℕ) (small : entry < 2 ^ 32) (w : Writable o entry xs d (length out)) where
  abbrev t : List ℕ
  t = written_in o entry xs d out

  back : ReadsBack o entry xs d t
  back = reads_back o entry xs d out small w

  is_accepted : ListAccepted m xs d (length mem) → Accepted o m t (length mem)
  is_accepted a = record {
    sound = a.sound;
    size = a.size;
    form = back.well;
    opens = rw back.sections a.opens;
    once = rw back.sections a.once;
  }

  is_listed : Accepted o m t (length mem) → ListAccepted m xs d (length mem)
  is_listed a = record {
    sound = a.sound;
    size = a.size;
    opens = rw back.sections at a.opens;
    once = rw back.sections at a.once;
  }

  counts : accepted o m t ≡ record { number = 0; place = 0; address = 0; entry = entry; entry_open = is_open m entry; sections = length xs; bytes = listed_bytes xs }
  unfolding accepted
  counts = rw (back.count, back.begins, back.sections, listed_total d w.faultless) refl

  loads : LoadsListed o m entry xs d mem t
  loads =
      let iff = accepted_iff o m t (length mem) in
      record {
        accepts = (λ z. is_listed (iff.0 z), λ a. iff.1 (is_accepted a));
        answer = λ z. accepted_answer o m t (length mem) (iff.0 z) ∙ counts;
        memory = λ z. accepted_memory o m t mem (iff.0 z) ∙ rw back.sections (listed_stored m d xs mem);
      }

pub written_loads : WrittenLoads
written_loads o m entry xs d out mem small w = loads o m entry xs d out mem small w
