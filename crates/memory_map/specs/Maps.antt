use Rattle.std.specs.Prelude.{ℕ, zero, suc, List, [], ◌++◌, codes}
use Rattle.numerals.specs.Numerals.{hex4}
use Rattle.device.specs.declared.description.Description.{Description}
use Rattle.region.specs.declared.Region.TheVariants.{Window, Ram, Unmapped, Image}
use Rattle.region.specs.declared.Span.{Span}
use Rattle.region.specs.declared.Vector.{Vector}
use Rattle.region.specs.declared.Vector.TheVariants.{Reset, Trap, Source}
use Rattle.device.specs.Map.{region_span, code_span, stack_span, image_length}
use Rattle.region.specs.Spans.{vector_address}
use Rattle.region.specs.Texts.{region_text, span_text, vector_text}

-- a line: the addresses of a span, and what lies there
unfoldable pub span_line : Span → List ℕ → List ℕ
span_line s label = span_text s ++ (codes "  " ++ (label ++ codes "\n"))

-- a line: one number, under the last address of other lines, and what it is
unfoldable pub number_line : ℕ → List ℕ → List ℕ
number_line n label = codes "     " ++ (hex4 n ++ (codes "  " ++ (label ++ codes "\n")))

-- a line: where a vector lies, and whose it is
unfoldable pub vector_line : Vector → List ℕ
vector_line v = codes "     " ++ (hex4 (vector_address v) ++ (codes "  " ++ (vector_text v ++ codes " vector\n")))

-- the four regions, in the order of their addresses
unfoldable pub region_lines : Description → List ℕ
region_lines d =
    span_line (region_span d Window) (region_text Window)
    ++ (span_line (region_span d Ram) (region_text Ram)
    ++ (span_line (region_span d Unmapped) (region_text Unmapped)
    ++ span_line (region_span d Image) (region_text Image)))

-- the stack, how many bytes it has, the code region, and how many bytes an image has
unfoldable pub part_lines : Description → List ℕ
part_lines d =
    span_line (stack_span d) (codes "stack")
    ++ (number_line d.levels (codes "stack levels")
    ++ (span_line (code_span d) (codes "code region")
    ++ number_line (image_length d) (codes "image length")))

-- the vectors of the sources below n, the lowest first
abbrev pub source_lines : ℕ → List ℕ
source_lines zero = []
source_lines (suc n) = source_lines n ++ vector_line (Source n)

-- the whole map: regions, stack, code region and image, vectors
unfoldable pub map_text : Description → List ℕ
map_text d = region_lines d ++ (part_lines d ++ (vector_line Reset ++ (vector_line Trap ++ source_lines d.sources)))
