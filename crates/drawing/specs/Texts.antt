-- What is printed of a text that gave no words.
use Rattle.std.specs.Prelude.{ℕ, List, ◌++◌, codes, decimal}
use Rattle.drawing.specs.declared.undrawn.Undrawn.{Undrawn}
use Rattle.drawing.specs.declared.undrawn.Undrawn.TheVariants.{At, Memory}

-- where it is refused, as what is said of a text or its file; or that memory was short
abbrev pub undrawn_text : Undrawn → List ℕ
undrawn_text (At l c) = codes "does not fit at line " ++ (decimal l ++ (codes ", column " ++ decimal c))
undrawn_text Memory = codes "no memory"
