-- The items of a shared list, wherever they lie.
use Rattle.std.specs.Prelude.{List}
use Rattle.tp_value.specs.declared.shared.Storage.{Storage}
use Rattle.tp_value.specs.declared.shared.Storage.TheVariants.{One, Two, Many}

abbrev pub items_of : {X : Type 0} → Storage X → List X
items_of (One xs) = xs
items_of (Two xs) = xs
items_of (Many xs) = xs
