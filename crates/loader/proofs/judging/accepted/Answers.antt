-- `loader::judging::accepted`: a form without a fault has its entry word.
use mathlib.Core.Path.{refl, sym}
use native.Mathlib.Omega.{arith}
use Rattle.boot_table.specs.Form.{formed}
use Rattle.boot_table.proofs.FormLaws.{well_long}
use Rattle.loader.proofs.AnswerLaws.{form_formed, fine_is}
use Rattle.loader.proofs.judging.accepted.Goals as goal

pub entry_of-entry-requires : goal.entry_of-entry-requires
entry_of-entry-requires c = omega (arith, well_long _ _ (form_formed _ _ (formed _ _) (sym c.requires) refl))

pub returns : goal.returns
returns c = fine_is _ _ _ _ _ _ _ c.requires c.entry_of-entry.ensures c.is_open.ensures
