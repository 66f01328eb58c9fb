-- The proofs that the part which is found begins with the byte that loading the older table and then the newer leaves, and that a table is refused as in the join.
use Prim.Native.Nat.{ℕ, zero, suc, ◌≤◌}
use mathlib.Core.Path.{◌≡◌, refl, sym, ap, ◌∙◌}
use mathlib.Core.Logic.{◌≢◌, by_cases}
use mathlib.Core.List.{List}
use mathlib.Core.Bool.{true}
use mathlib.Core.Option
use mathlib.Core.Option.{none, some}
use native.Mathlib.Omega.{arith}
use native.Mathlib.Decide.{dec_le, ℕ_discrete}
use lib.ListN.{length, get_or}
use Rattle.words.specs.declared.ByteOrder.{ByteOrder}
use Rattle.region_map.specs.Map.{is_open, place_of}
use Rattle.region_map.proofs.PlaceLaws.{place_lt}
use Rattle.boot_table.specs.Table.{Sect, reading}
use Rattle.boot_table.specs.Form.{table_limit, form_of}
use Rattle.boot_table.specs.Meaning.{last_byte}
use Rattle.boot_table.proofs.FormLaws.{form_well}
use Rattle.boot_table.proofs.MeaningLaws.{uncovered_none}
use Rattle.loader.specs.Load.{load_memory, Accepted}
use Rattle.loader.proofs.LoadLaws.{accepted_iff, length_load, loaded_at}
use Rattle.loader.proofs.SameLaws.{covered_open}
use Rattle.joiner.specs.Join.{JoinAnswer, joined_length, join_refused, join_answer}
use Rattle.joiner.proofs.AnswerLaws.{first_refused, second_refused, join_long, output_short, join_done}
use Rattle.query.specs.Find.{FindAnswer, find_refused, find_answer, found_bytes}
use Rattle.query.specs.Covering.{Says}
use Rattle.query.proofs.FindLaws.{finding, fault_walked, well_walked, find_first, find_second}
use Rattle.query.proofs.HitLaws.{covers_byte}
use Rattle.laws.specs.Finding.{BothLoad, OneCovers, Stands, FoundLoads, RefusedAsJoin}

module _ (o : ByteOrder) (m older newer mem : List ℕ) (a : ℕ) (both : BothLoad o m older newer mem) (one : OneCovers o older newer a) where
  abbrev middle : List ℕ
  middle = load_memory o m older mem

  abbrev answer : FindAnswer
  answer = find_answer o older newer a

  abbrev bytes : List ℕ
  bytes = found_bytes o older newer a

  first : Accepted o m older (length mem)
  first = (accepted_iff o m older (length mem)).0 both.first

  second : Accepted o m newer (length middle)
  second = (accepted_iff o m newer (length middle)).0 both.second

  finds : answer.number ≡ 0
  finds = (finding.accepted o older newer a).1 (first.form, second.form)

  says : Says o older newer a answer
  says = finding.says o older newer a finds

  -- what memory holds at the place of an open address
  after : is_open m a ≡ true → get_or (load_memory o m newer middle) (place_of m a) 0
      ≡ Option.get_or (last_byte (reading o newer).sections a) (Option.get_or (last_byte (reading o older).sections a) (get_or mem (place_of m a) 0))
  after is = loaded_at o m newer middle second a is ∙ ap (Option.get_or (last_byte (reading o newer).sections a)) (loaded_at o m older mem first a is)

  covered : (ss : List Sect) (b : ℕ) → last_byte ss a ≡ some b → last_byte ss a ≢ none
  covered ss b e n = let z : ◌≡◌ {A = ℕ} 0 1 = cc in omega arith

  stands : 1 ≤ answer.table → is_open m a ≡ true → 1 ≤ length bytes → get_or (load_memory o m newer middle) (place_of m a) 0 ≡ get_or bytes 0 0 → Stands o m older newer mem a
  stands named is long byte = record {
    accepted = finds;
    named = named;
    some = long;
    placed = omega (arith, place_lt m second.sound a is, length_load o m newer middle, second.size);
    byte = byte;
  }

  in_newer : answer.table ≡ 2 → Stands o m older newer mem a
  in_newer e =
      let l = covers_byte 4 (reading o newer).sections a answer.offset bytes (says.in_newer e) in
      let is = covered_open m second.opens a (covered (reading o newer).sections (get_or bytes 0 0) l.0) in
      stands (omega arith) is l.1 (after is ∙ rw l.0 refl)

  in_older : answer.table ≡ 1 → Stands o m older newer mem a
  in_older e =
      let p = says.in_older e in
      let l = covers_byte 4 (reading o older).sections a answer.offset bytes p.1 in
      let is = covered_open m first.opens a (covered (reading o older).sections (get_or bytes 0 0) l.0) in
      stands (omega arith) is l.1 (after is ∙ rw (uncovered_none (reading o newer).sections a p.0, l.0) refl)

  in_neither : answer.table ≡ 0 → ⊥
  in_neither e = let p = says.in_neither e in omega (arith, p.0, p.1)

  by_table : (n : ℕ) → answer.table ≡ n → Stands o m older newer mem a
  by_table zero e = absurd (in_neither e)
  by_table (suc zero) e = in_older e
  by_table (suc (suc zero)) e = in_newer e
  by_table (suc (suc (suc n))) e = absurd (omega (arith, says.tables))

-- Where both tables load and one covers the address, the part that is found begins with the byte that is left there.
pub found_loads : FoundLoads
found_loads o m older newer mem a both one = by_table o m older newer mem a both one (find_answer o older newer a).table refl

-- ---- refusals

module _ (o : ByteOrder) (older newer : List ℕ) (a room : ℕ) where
  -- what each answers where the older table has a fault, and where the newer has
  older_fault : ((form_of o older).number ≡ 0 → ⊥)
      → (join_answer o older newer room ≡ join_refused (form_of o older).number (form_of o older).place 1)
      × (find_answer o older newer a ≡ find_refused (form_of o older).number (form_of o older).place 1)
  older_fault f = (sym (first_refused o older newer room _ refl f), sym (find_first o older newer a (fault_walked o older a f)))

  newer_fault : (form_of o older).number ≡ 0 → ((form_of o newer).number ≡ 0 → ⊥)
      → (join_answer o older newer room ≡ join_refused (form_of o newer).number (form_of o newer).place 2)
      × (find_answer o older newer a ≡ find_refused (form_of o newer).number (form_of o newer).place 2)
  newer_fault f g = (
    sym (second_refused o older newer room _ refl f _ refl g),
    sym (find_second o older newer a (well_walked o older a (form_well o older f)) (fault_walked o newer a g)),
  )

  -- where neither has, the join speaks of no table
  no_fault : (form_of o older).number ≡ 0 → (form_of o newer).number ≡ 0 → (join_answer o older newer room).which ≡ 0
  no_fault f g =
      by_cases (dec_le (joined_length older newer) table_limit)
      (λ h. by_cases (dec_le (joined_length older newer) room)
      (λ k. ap (λ (r : JoinAnswer). r.which) (sym (join_done o older newer room _ refl f _ refl g h k)))
      (λ k. ap (λ (r : JoinAnswer). r.which) (sym (output_short o older newer room _ refl f _ refl g h (omega arith)))))
      (λ h. ap (λ (r : JoinAnswer). r.which) (sym (join_long o older newer room _ refl f _ refl g (omega arith))))

  find_joined : ((find_answer o older newer a).number ≡ 0 → ⊥)
      → join_answer o older newer room ≡ join_refused (find_answer o older newer a).number (find_answer o older newer a).place (find_answer o older newer a).table
  find_joined n =
      by_cases (ℕ_discrete (form_of o older).number 0)
      (λ f. by_cases (ℕ_discrete (form_of o newer).number 0)
      (λ g. absurd (n ((finding.accepted o older newer a).1 (form_well o older f, form_well o newer g))))
      (λ g. let e = newer_fault f g in rw e.1 e.0))
      (λ f. let e = older_fault f in rw e.1 e.0)

  join_found : ((join_answer o older newer room).which ≡ 0 → ⊥)
      → find_answer o older newer a ≡ find_refused (join_answer o older newer room).number (join_answer o older newer room).place (join_answer o older newer room).which
  join_found n =
      by_cases (ℕ_discrete (form_of o older).number 0)
      (λ f. by_cases (ℕ_discrete (form_of o newer).number 0)
      (λ g. absurd (n (no_fault f g)))
      (λ g. let e = newer_fault f g in rw e.0 e.1))
      (λ f. let e = older_fault f in rw e.0 e.1)

-- A table is refused as in the join.
pub refused_as_join : RefusedAsJoin
refused_as_join = record { find_join = find_joined; join_find = join_found }
