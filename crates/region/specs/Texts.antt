use Rattle.std.specs.Prelude.{ℕ, List, ◌++◌, codes, decimal}
use Rattle.numerals.specs.Numerals.{hex4}
use Rattle.region.specs.declared.Region.{Region}
use Rattle.region.specs.declared.Region.TheVariants.{Window, Ram, Unmapped, Image}
use Rattle.region.specs.declared.Span.{Span}
use Rattle.region.specs.declared.Vector.{Vector}
use Rattle.region.specs.declared.Vector.TheVariants.{Reset, Trap, Source}

-- the name of a region
unfoldable pub region_text : Region → List ℕ
region_text Window = codes "peripheral window"
region_text Ram = codes "RAM"
region_text Unmapped = codes "unmapped"
region_text Image = codes "image"

-- the first and the last address of a span
unfoldable pub span_text : Span → List ℕ
span_text s = hex4 s.first ++ (codes "-" ++ hex4 s.last)

-- whose a vector is
unfoldable pub vector_text : Vector → List ℕ
vector_text Reset = codes "reset"
vector_text Trap = codes "TRAP"
vector_text (Source k) = codes "source " ++ decimal k
