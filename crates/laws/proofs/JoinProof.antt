-- Demand 3, the parts about two and three tables.
use Prim.Native.Nat.{ℕ, ◌+◌, ◌-◌, ◌≤◌}
use mathlib.Core.Path.{◌≡◌, sym, ◌∙◌, ap, ap₂}
use mathlib.Core.List.{List, ◌++◌}
use native.Mathlib.Omega.{arith}
use lib.ListN.{length, length-append}
use Rattle.words.specs.declared.ByteOrder.{ByteOrder}
use Rattle.words.specs.Word.{Bytes}
use Rattle.boot_table.specs.Table.{Reading, entry_of, reading}
use Rattle.boot_table.specs.Form.{WellFormed}
use Rattle.boot_table.proofs.FormLaws.{well_long}
use Rattle.loader.specs.Load.{load_answer, load_memory, Accepted}
use Rattle.loader.proofs.LoadLaws.{accepted_iff}
use Rattle.loader.proofs.AcceptLaws.{append_loads, append_memory, append_answer}
use Rattle.joiner.specs.Join.{JoinAnswer, joined, joined_length, join_answer, join_output}
use Rattle.joiner.proofs.JoinLaws.{length_joined, reading_joined, entry_joined, bytes_joined, well_joined, joined_assoc}
use Rattle.joiner.proofs.JoinLaws.{join_accepts, join_front, join_rest}
use Rattle.laws.specs.Calls.{join_in, turn_answers, three_answers}
use Rattle.laws.specs.Demand3.{IsAccepted, Joinable, Joinable3, IsJoin, InTurn, Associative}

-- ---- two tables

module _ (o : ByteOrder) (a b out : List ℕ) (p : Bytes a) (q : Bytes b) (j : Joinable o a b out) where
  -- what the join call answers
  pub in_answer : join_answer o a b (length out)
      ≡ record {
        number = 0;
        place = 0;
        which = 0;
        length = joined_length a b;
        sections = length (reading o a).sections + length (reading o b).sections;
      }
  unfolding joined_length
  in_answer = join_accepts o a b (length out) j.first j.second j.fits j.room

  number_is : (join_answer o a b (length out)).number ≡ 0
  number_is = ap (λ (r : JoinAnswer). r.number) in_answer

  -- its output's first bytes are the join
  in_is : join_in o a b out ≡ joined o a b
  unfolding join_in
  in_is = rw in_answer (join_front o a b out p q number_is)

  pub is_join : IsJoin o a b out (join_answer o a b (length out)) (join_output o a b out)
  unfolding joined_length joined join_in
  is_join = record { answer = in_answer; bytes = in_is; past = rw in_answer (join_rest o a b out number_is p q) }

  -- they are a well-formed table of bytes
  in_bytes : Bytes (join_in o a b out)
  in_bytes = rw in_is (bytes_joined o a b p q j.first j.second)

  pub in_form : WellFormed o (join_in o a b out)
  unfolding joined_length
  in_form = rw in_is (well_joined o a b p q j.first j.second j.fits)

  in_length : length (join_in o a b out) ≡ length a + length b - 8
  unfolding joined_length
  in_length = ap length in_is ∙ length_joined o a b p q j.first j.second

  pub in_reading : (reading o (join_in o a b out)).sections ≡ (reading o a).sections ++ (reading o b).sections
  in_reading =
      ap (λ (t : List ℕ). (reading o t).sections) in_is
      ∙ ap (λ (r : Reading). r.sections) (reading_joined o a b p q j.first j.second)

  pub in_entry : entry_of o (join_in o a b out) ≡ entry_of o b
  in_entry = ap (entry_of o) in_is ∙ entry_joined o a b q

  -- loaded, against A and then B; no sound map and no memory of its size is asked for, since without them every load is refused
  module _ (m mem : List ℕ) where
    whole : IsAccepted (load_answer o m (join_in o a b out) (length mem)) → Accepted o m (join_in o a b out) (length mem)
    whole = (accepted_iff o m (join_in o a b out) (length mem)).0

    pub in_turn : InTurn o m a b out (turn_answers o m a b out mem mem)
        (join_output o a b out) (load_memory o m (join_in o a b out) mem) (load_memory o m b (load_memory o m a mem))
    in_turn = record {
      joined = is_join;
      accepted = append_loads o m (join_in o a b out) a b in_form j.first j.second in_reading mem;
      memory = λ z. append_memory o m (join_in o a b out) a b in_form j.first j.second in_reading mem (whole z);
      answer = λ z. append_answer o m (join_in o a b out) a b in_form j.first j.second in_reading mem (whole z) in_entry;
    }

-- ---- three tables

module _ (o : ByteOrder) (a b c ab left bc right : List ℕ) (p : Bytes a) (q : Bytes b) (r : Bytes c) (j : Joinable3 o a b c ab left bc right) where
  la : 8 ≤ length a
  la = well_long o a j.first

  lb : 8 ≤ length b
  lb = well_long o b j.second

  lc : 8 ≤ length c
  lc = well_long o c j.third

  -- each of the four joins has its side conditions
  side_ab : Joinable o a b ab
  side_ab = record { first = j.first; second = j.second; fits = omega (arith, j.fits, lc); room = j.room_ab }

  side_left : Joinable o (join_in o a b ab) c left
  side_left =
      let n = in_length o a b ab p q side_ab in
      record {
        first = in_form o a b ab p q side_ab;
        second = j.third;
        fits = omega (arith, j.fits, n, la, lb, lc);
        room = omega (arith, j.room_left, n, la, lb, lc);
      }

  side_bc : Joinable o b c bc
  side_bc = record { first = j.second; second = j.third; fits = omega (arith, j.fits, la); room = j.room_bc }

  side_right : Joinable o a (join_in o b c bc) right
  side_right =
      let n = in_length o b c bc q r side_bc in
      record {
        first = j.first;
        second = in_form o b c bc q r side_bc;
        fits = omega (arith, j.fits, n, la, lb, lc);
        room = omega (arith, j.room_right, n, la, lb, lc);
      }

  bytes_ab : Bytes (join_in o a b ab)
  bytes_ab = in_bytes o a b ab p q side_ab

  bytes_bc : Bytes (join_in o b c bc)
  bytes_bc = in_bytes o b c bc q r side_bc

  same_bytes : join_in o (join_in o a b ab) c left ≡ join_in o a (join_in o b c bc) right
  same_bytes =
      in_is o (join_in o a b ab) c left bytes_ab r side_left
      ∙ ap (λ (t : List ℕ). joined o t c) (in_is o a b ab p q side_ab)
      ∙ joined_assoc o a b c p q r j.first j.second j.third
      ∙ ap (joined o a) (sym (in_is o b c bc q r side_bc))
      ∙ sym (in_is o a (join_in o b c bc) right p bytes_bc side_right)

  same_length : joined_length (join_in o a b ab) c ≡ joined_length a (join_in o b c bc)
  unfolding joined_length
  same_length = omega (arith, in_length o a b ab p q side_ab, in_length o b c bc q r side_bc, la, lb, lc)

  same_count : length (reading o (join_in o a b ab)).sections + length (reading o c).sections
      ≡ length (reading o a).sections + length (reading o (join_in o b c bc)).sections
  same_count =
      let e = ap length (in_reading o a b ab p q side_ab) ∙ length-append (reading o a).sections (reading o b).sections in
      let f = ap length (in_reading o b c bc q r side_bc) ∙ length-append (reading o b).sections (reading o c).sections in
      omega (arith, e, f)

  same_answer : join_answer o (join_in o a b ab) c (length left) ≡ join_answer o a (join_in o b c bc) (length right)
  same_answer =
      in_answer o (join_in o a b ab) c left bytes_ab r side_left
      ∙ ap₂ (λ (n k : ℕ). record { number = 0; place = 0; which = 0; length = n; sections = k }) same_length same_count
      ∙ sym (in_answer o a (join_in o b c bc) right p bytes_bc side_right)

  pub associative : Associative o a b c ab left bc right (three_answers o a b c ab left bc right)
      (join_output o a b ab) (join_output o (join_in o a b ab) c left) (join_output o b c bc) (join_output o a (join_in o b c bc) right)
  unfolding join_in
  associative = record {
    ab_joined = is_join o a b ab p q side_ab;
    left_joined = is_join o (join_in o a b ab) c left bytes_ab r side_left;
    bc_joined = is_join o b c bc q r side_bc;
    right_joined = is_join o a (join_in o b c bc) right p bytes_bc side_right;
    bytes = same_bytes;
    answer = same_answer;
  }
