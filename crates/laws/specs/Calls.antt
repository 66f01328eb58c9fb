-- The calls that demand 3 and request 11 compare: what they answer, by the definitions that `join` and `load` name. A, B and C are a, b and c; m is a map; o is one byte order for all tables.
use Rattle.std.specs.Prelude.{ℕ, List, [], ◌∷◌, length, take}
use Rattle.words.specs.declared.ByteOrder.{ByteOrder}
use Rattle.boot_table.specs.Table.{Sect, table_of, entry_of}
use Rattle.loader.specs.Load.{Answer, load_answer, load_memory, answer_of as loaded_of}
use Rattle.joiner.specs.Join.{JoinAnswer, join_answer, join_output, answer_of as joined_of}
use Rattle.laws.specs.declared.TurnAnswers.{TurnAnswers as TurnResults}
use Rattle.laws.specs.declared.ThreeAnswers.{ThreeAnswers as ThreeResults}
use Rattle.laws.specs.declared.RearrangedAnswers.{RearrangedAnswers as RearrangedResults}
use Rattle.laws.specs.declared.BothWays.{BothWays as BothResults}

-- the join where it is loaded or joined again: the output's first bytes, as many as the join reported
unfoldable pub join_in : ByteOrder → List ℕ → List ℕ → List ℕ → List ℕ
join_in o a b out = take (join_answer o a b (length out)).length (join_output o a b out)

-- the answers of a join, of loading it, and of loading its two tables in turn
pub record TurnAnswers : Type 0 where
  pub joined : JoinAnswer
  pub whole : Answer
  pub first : Answer
  pub second : Answer

-- A is joined with B and the join loaded into one memory; A is loaded into another, and B into what that left there
abbrev pub turn_answers : (o : ByteOrder) (m a b out joinMemory turnMemory : List ℕ) → TurnAnswers
turn_answers o m a b out joinMemory turnMemory = record {
  joined = join_answer o a b (length out);
  whole = load_answer o m (join_in o a b out) (length joinMemory);
  first = load_answer o m a (length turnMemory);
  second = load_answer o m b (length (load_memory o m a turnMemory));
}

-- the numbers of what `join_and_load` answers
abbrev pub turn_answers_of : TurnResults → TurnAnswers
turn_answers_of r = record {
  joined = joined_of r.joined;
  whole = loaded_of r.whole;
  first = loaded_of r.first;
  second = loaded_of r.second;
}

-- the answers of the four joins that join three tables both ways: A with B, that with C; B with C, A with that
pub record ThreeAnswers : Type 0 where
  pub ab : JoinAnswer
  pub left : JoinAnswer
  pub bc : JoinAnswer
  pub right : JoinAnswer

-- A is joined with B, and the result with C; B is joined with C, and A with that result
abbrev pub three_answers : (o : ByteOrder) (a b c ab left bc right : List ℕ) → ThreeAnswers
three_answers o a b c ab left bc right = record {
  ab = join_answer o a b (length ab);
  left = join_answer o (join_in o a b ab) c (length left);
  bc = join_answer o b c (length bc);
  right = join_answer o a (join_in o b c bc) (length right);
}

-- the numbers of what `join_three` answers
abbrev pub three_answers_of : ThreeResults → ThreeAnswers
three_answers_of r = record {
  ab = joined_of r.ab;
  left = joined_of r.left;
  bc = joined_of r.bc;
  right = joined_of r.right;
}

-- the table t with its sections in the order ss, each whole, pads included, and its entry kept
abbrev pub rearranged_of : ByteOrder → List ℕ → List Sect → List ℕ
rearranged_of o t ss = table_of o (entry_of o t) ss

-- the table t with its two sections x and y swapped
abbrev pub swap_of : ByteOrder → List ℕ → Sect → Sect → List ℕ
swap_of o t x y = rearranged_of o t (y ∷ x ∷ [])

-- the answers of loading a table, and the table with its sections rearranged
pub record RearrangedAnswers : Type 0 where
  pub original : Answer
  pub rearranged : Answer

-- the table t is loaded into one memory, and u into another
abbrev pub rearranged_answers : (o : ByteOrder) (m t u mem other : List ℕ) → RearrangedAnswers
rearranged_answers o m t u mem other = record { original = load_answer o m t (length mem); rearranged = load_answer o m u (length other) }

-- the numbers of what `load_rearranged` answers
abbrev pub rearranged_answers_of : RearrangedResults → RearrangedAnswers
rearranged_answers_of r = record { original = loaded_of r.original; rearranged = loaded_of r.rearranged }

-- the answers of joining two tables both ways, and of loading each join
pub record BothWays : Type 0 where
  pub ab : JoinAnswer
  pub ba : JoinAnswer
  pub ab_loaded : Answer
  pub ba_loaded : Answer

-- A is joined with B, and B with A, and each join is loaded into a memory of its own
abbrev pub both_ways : (o : ByteOrder) (m a b ab ba abMemory baMemory : List ℕ) → BothWays
both_ways o m a b ab ba abMemory baMemory = record {
  ab = join_answer o a b (length ab);
  ba = join_answer o b a (length ba);
  ab_loaded = load_answer o m (join_in o a b ab) (length abMemory);
  ba_loaded = load_answer o m (join_in o b a ba) (length baMemory);
}

-- the numbers of what `join_both_ways` answers
abbrev pub both_ways_of : BothResults → BothWays
both_ways_of r = record {
  ab = joined_of r.ab;
  ba = joined_of r.ba;
  ab_loaded = loaded_of r.ab_loaded;
  ba_loaded = loaded_of r.ba_loaded;
}
