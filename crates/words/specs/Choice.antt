-- A choice between two values by a test.
use Rattle.std.specs.Prelude.{Bool, true, false}

-- a where the test holds, else b
abbrev pub if : {A : Type 0} → Bool → A → A → A
if true a b = a
if false a b = b
