-- Every bench card holds, by computation on the definitions.
use Prim.Native.Nat.{ℕ}
use mathlib.Core.Path.{◌≡◌, refl}
use mathlib.Core.List.{List, [], ◌∷◌, map}
use lib.Count.{ones}
use lib.ListN.{length}
use Rattle.std.specs.Prelude.{Result}
use Rattle.words.specs.declared.refusal.Refusal.{Refusal}
use Rattle.words.specs.Word.{word_at, word_bytes, pad_count}
use Rattle.words.specs.Header.{header_at, header_bytes}
use Rattle.region_map.specs.Map.{marked, permitted, reserved, one_write, known, zeroed, holds, shares, shares_any, sound_at, fault_from, map_fault}
use Rattle.region_map.specs.Map.{any_holds, is_open, once, closed_from, size_before, holder, place_of, fault_answer, map_answer}
use Rattle.boot_table.specs.Table.{chunk, chunks, table_of, next_of, end_step, section_step, step_at, section_at}
use Rattle.boot_table.specs.Table.{before, on_step, read_from, read_on, reading}
use Rattle.boot_table.specs.Form.{total, read_form, form_of}
use Rattle.boot_table.specs.Meaning.{covers, times}
use Rattle.one_write.specs.Once.{written, repeats_from, repeat_from, first_repeat}
use Rattle.loader.specs.Store.{store_bytes, store_all}
use Rattle.loader.specs.Load.{Answer, accepted, map_rule, once_answer, form_first, table_answer, load_answer, load_memory}
use Rattle.joiner.specs.Join.{JoinAnswer, joined, joined_length, join_answer, join_output}
use Rattle.writer.specs.Write.{WriteAnswer, data_of, sect_of, sects_of, written_table, fault_of, list_rule, room_rule, write_answer, write_output}
use Rattle.query.specs.Find.{FindAnswer, hit_of, passing, walk_from, header_walk, walked, find_answer, in_newer, chosen, part_bytes, found_bytes}
use Rattle.rescue.specs.Rescue.{RescueAnswer, rescued, has_zero, used_bytes, rescue_answer, rescue_output}
use Rattle.boot_config.specs.Registers.{rising, fit, index_of, masked, changed_bits}
use Rattle.boot_config.specs.Config.{ConfigAnswer, unmasked_at, entry_at, on_entry, applied_from, applied, config_answer, config_values}
use Rattle.boot_strap.specs.declared.Strap.{Strap}
use Rattle.boot_strap.specs.Strap.{strap_of, is_reserved, decode_as, decode_short, kind_of, fields_of, answer_numbers, SameAnswer, same_list, same_strap, same_of, same_answer, LabelAnswer, label_of, label_answer}
use Rattle.laws.specs.Cards.{Card, Load, Join, Write, Find, Rescue, Configure, Decode, DecodeShort, Numbers, Same, Label, Holds, AllHold, cards}

-- ---- every card holds where the outcomes of the calls are those of the cards

-- what a call gives
data Outcome : Type 0 where
  Loads : Answer → List ℕ → Outcome
  Joins : JoinAnswer → List ℕ → Outcome
  Writes : WriteAnswer → List ℕ → Outcome
  Finds : FindAnswer → List ℕ → Outcome
  Rescues : RescueAnswer → List ℕ → Outcome
  Configures : ConfigAnswer → List ℕ → Outcome
  Decodes : Result Strap Refusal → Outcome
  Tells : List ℕ → Outcome
  Compares : SameAnswer → Outcome
  Labels : LabelAnswer → Outcome

-- what the definitions give for a card's call
unfoldable given : Card → Outcome
given (Load order m t memory answer after) = Loads (load_answer order m t (length memory)) (load_memory order m t memory)
given (Join order first second output answer after) = Joins (join_answer order first second (length output)) (join_output order first second output)
given (Write order entry sections bytes output answer after) = Writes (write_answer order entry sections bytes (length output)) (write_output order entry sections bytes output)
given (Find order older newer address answer bytes) = Finds (find_answer order older newer address) (found_bytes order older newer address)
given (Rescue order t output answer after) = Rescues (rescue_answer order t (length output)) (rescue_output order t output)
given (Configure t addresses values answer after) = Configures (config_answer t addresses values) (config_values t addresses values)
given (Decode manner value answer) = Decodes (decode_as manner value)
given (DecodeShort value answer) = Decodes (decode_short value)
given (Numbers manner value numbers) = Tells (answer_numbers (decode_as manner value))
given (Same first second answer) = Compares (same_answer first second)
given (Label value answer) = Labels (label_answer value)

-- what the card says
unfoldable named : Card → Outcome
named (Load order m t memory answer after) = Loads answer after
named (Join order first second output answer after) = Joins answer after
named (Write order entry sections bytes output answer after) = Writes answer after
named (Find order older newer address answer bytes) = Finds answer bytes
named (Rescue order t output answer after) = Rescues answer after
named (Configure t addresses values answer after) = Configures answer after
named (Decode manner value answer) = Decodes answer
named (DecodeShort value answer) = Decodes answer
named (Numbers manner value numbers) = Tells numbers
named (Same first second answer) = Compares answer
named (Label value answer) = Labels answer

card_holds : (c : Card) → given c ≡ named c → Holds c
unfolding given named
card_holds (Load order m t memory answer after) e = (cc, cc)
card_holds (Join order first second output answer after) e = (cc, cc)
card_holds (Write order entry sections bytes output answer after) e = (cc, cc)
card_holds (Find order older newer address answer bytes) e = (cc, cc)
card_holds (Rescue order t output answer after) e = (cc, cc)
card_holds (Configure t addresses values answer after) e = (cc, cc)
card_holds (Decode manner value answer) e = cc
card_holds (DecodeShort value answer) e = cc
card_holds (Numbers manner value numbers) e = cc
card_holds (Same first second answer) e = cc
card_holds (Label value answer) e = cc

all_hold : (cs : List Card) → map given cs ≡ map named cs → AllHold cs
all_hold [] e = tt
all_hold (c ∷ cs) e = (card_holds c (cc), all_hold cs (cc))

-- ---- the cards

-- 'unfolding everything' opens all the definitions that a card computes with
unfoldable everything : Unit {0}
unfolding given named word_at word_bytes pad_count header_at header_bytes
    marked permitted reserved one_write known zeroed holds shares shares_any sound_at fault_from map_fault
    any_holds is_open once closed_from size_before holder place_of fault_answer map_answer
    chunk chunks table_of next_of end_step section_step step_at section_at before on_step read_from read_on reading
    covers times written repeats_from repeat_from first_repeat
    total read_form form_of store_bytes store_all accepted map_rule once_answer form_first table_answer load_answer load_memory
    joined joined_length join_answer join_output
    data_of sect_of sects_of written_table fault_of list_rule room_rule write_answer write_output
    hit_of passing walk_from header_walk walked find_answer in_newer chosen part_bytes
    rescued has_zero used_bytes rescue_answer rescue_output
    ones rising fit index_of masked changed_bits unmasked_at entry_at on_entry applied_from applied config_answer config_values
    strap_of is_reserved decode_as decode_short kind_of fields_of answer_numbers same_list same_strap same_of same_answer label_of label_answer
everything = tt

pub cards_hold : AllHold cards
unfolding everything
cards_hold = all_hold cards refl
