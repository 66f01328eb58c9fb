-- Demand 3 holds.
use Rattle.laws.specs.Demand3.{Demand3}
use Rattle.laws.proofs.JoinProof.{in_turn, associative}
use Rattle.laws.proofs.SwapProof.{swapped}

-- Of two tables it holds under every map and for every memory: `in_turn` does not ask that the map is sound and the memory has its size.
-- Every other side condition is used: that tables are bytes in the round trips, since a table of bytes is the table of its entry and sections.
pub demand_3 : Demand3
demand_3 = record {
  two_tables = λ o a b out m mem p q j fitting. in_turn o a b out p q j m mem;
  three_tables = associative;
  two_swapped = swapped;
}
