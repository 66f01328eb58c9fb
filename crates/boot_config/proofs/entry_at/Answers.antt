-- `boot_config::entry_at`: each return is the outcome that the tests before it lead to.
use mathlib.Core.Path.{◌≡◌, sym}
use mathlib.Core.Bool.{false, ◌&&◌}
use native.Mathlib.Omega.{arith}
use lib.Dec.{eqb}
use Rattle.boot_config.proofs.EntryLaws.{some_set, some_clear, entry_cut, entry_branch, entry_after, entry_end, entry_unknown, entry_change}
use Rattle.boot_config.proofs.entry_at.Goals as goal
use Rattle.boot_config.proofs.entry_at.Goals.{After-find, else-put-eq0-via-then-put-eq0+else-clear-eq0, else-put-eq0-via-else-put-eq0}

pub returns-then-table-at-lt-ENTRY_SIZE : goal.returns-then-table-at-lt-ENTRY_SIZE
returns-then-table-at-lt-ENTRY_SIZE c = sym (entry_cut _ _ _ (omega arith))

pub returns-then-address-ne0 : goal.returns-then-address-ne0
returns-then-address-ne0 c =
    sym (entry_branch _ _ _ (omega arith) c.word_at-address.ensures c.word_at-put.ensures c.word_at-clear.ensures
    c.if-put-eq0.true c.if-clear-eq0.true c.if-address-ne0.true)

pub returns-then-at-table : goal.returns-then-at-table
returns-then-at-table c =
    sym (entry_after _ _ _ (omega arith) c.word_at-address.ensures c.word_at-put.ensures c.word_at-clear.ensures
    c.if-put-eq0.true c.if-clear-eq0.true (omega arith) (omega arith))

pub returns-then-clear-eq0 : goal.returns-then-clear-eq0
returns-then-clear-eq0 c =
    sym (entry_end _ _ _ (omega arith) c.word_at-address.ensures c.word_at-put.ensures c.word_at-clear.ensures
    c.if-put-eq0.true c.if-clear-eq0.true (omega arith) (omega arith))

-- an entry that is searched for has a mask that is not zero
some_mask : (c : After-find) → (eqb c.word_at-put.result 0 && eqb c.word_at-clear.result 0) ≡ false
some_mask c =
    elim c.else-put-eq0.branch [
      | else-put-eq0-via-then-put-eq0+else-clear-eq0 w ↦ some_clear c.word_at-put.result c.word_at-clear.result w.if-clear-eq0.false
      | else-put-eq0-via-else-put-eq0 w ↦ some_set c.word_at-put.result c.word_at-clear.result w.if-put-eq0.false
    ]

pub returns-in_default : goal.returns-in_default
returns-in_default c =
    sym (entry_unknown _ _ _ (omega arith) c.word_at-address.ensures c.word_at-put.ensures c.word_at-clear.ensures
    (some_mask (goal.at.returns-in_default c).After-find) c.in_default.ensures)

pub returns : goal.returns
returns c =
    sym (entry_change _ _ _ (omega arith) c.word_at-address.ensures c.word_at-put.ensures c.word_at-clear.ensures
    (some_mask (goal.at.returns c).After-find) c.in-Some.ensures.0 c.in-Some.ensures.1)
