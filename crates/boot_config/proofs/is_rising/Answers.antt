-- `boot_config::is_rising`: each address is tested against the next.
use Rattle.std.proofs.Common.{rules}
use Rattle.std.proofs.lemmas.List.Sorted.{answers_always}
use lib.Dec.{ltb}
use Rattle.boot_config.proofs.RegisterLaws.{rising_answer}
use Rattle.boot_config.proofs.is_rising.Goals as goal

pub returns : goal.returns
returns c =
    rising_answer _ _ (c.is_sorted_by.ensures.cases ltb (answers_always _ _ _ (λ f a r g k. search rules)))
