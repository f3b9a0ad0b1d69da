use Rattle.std.specs.Prelude.{ℕ, List, codes}
use Rattle.refusal.specs.declared.Detail.{Detail}
use Rattle.refusal.specs.declared.Detail.TheVariants.{Nothing}
use Rattle.encode.specs.declared.refusals.EncodeRefusal.{EncodeRefusal}
use Rattle.encode.specs.declared.refusals.EncodeRefusal.TheVariants.{NoInstruction, ShortBuffer}

-- the number of a refusal
abbrev pub refusal_number : EncodeRefusal → ℕ
refusal_number NoInstruction = 10
refusal_number ShortBuffer = 11

-- nothing is told besides
abbrev pub refusal_detail : EncodeRefusal → Detail
refusal_detail r = Nothing

-- a refusal in words
abbrev pub refusal_text : EncodeRefusal → List ℕ
refusal_text NoInstruction = codes "no instruction"
refusal_text ShortBuffer = codes "buffer too short"
