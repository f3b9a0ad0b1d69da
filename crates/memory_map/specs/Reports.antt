use Rattle.std.specs.Prelude.{ℕ, List, ◌++◌, Ok, Err, Result, codes}
use Rattle.refusal.specs.Lines.{line_text}
use Rattle.device.specs.declared.description.Description.{Description}
use Rattle.device.specs.declared.fault.DescriptionRefusal.{DescriptionRefusal}
use Rattle.device.specs.Refusals.{number_of, detail_of}
use Rattle.memory_map.specs.Maps.{map_text}

-- what is printed: the map of what was read, or the line of the refusal
abbrev pub report_text : Result Description DescriptionRefusal → List ℕ
report_text (Ok d) = map_text d
report_text (Err e) = line_text (number_of e) (detail_of e) ++ codes "\n"
