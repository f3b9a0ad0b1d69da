-- A part of an image as pieces.
use Rattle.std.specs.Prelude.{◌≡◌, ℕ, ◌+◌, ◌<◌, List, [], ◌∷◌, ◌++◌, length, take, drop, Some, None, Ok, Err, Option, Result}
use Rattle.std.specs.Iterator.{Drains}
use Rattle.instruction.specs.declared.instruction.Instruction.{Instruction}
use Rattle.isa.specs.declared.decoder.Decoded.{Decoded}
use Rattle.isa.specs.declared.fault.DecodeFault.{DecodeFault}
use Rattle.isa.specs.Decode.{decode_of}
use Rattle.listing.specs.declared.item.Item.{Item}
use Rattle.listing.specs.declared.item.Item.TheVariants as I
use Rattle.listing.specs.declared.items.Items.{Items}

-- an address, the bytes there, and the instruction that they are, if they are one
pub record Piece : Type 0 where
  pub address : ℕ
  pub bytes : List ℕ
  pub instruction : Option Instruction

-- an item as a piece
abbrev pub piece_of : Item → Piece
piece_of (I.Instruction a bs i) = record { address = a; bytes = bs.now; instruction = Some i }
piece_of (I.Stray a bs) = record { address = a; bytes = bs.now; instruction = None }

-- the piece that bytes begin with, by what they are decoded as: an instruction with its bytes, or a stray byte
abbrev pub piece : ℕ → List ℕ → Result Decoded DecodeFault → Piece
piece a bs (Ok d) = record { address = a; bytes = take d.length bs; instruction = Some d.instruction }
piece a bs (Err e) = record { address = a; bytes = take 1 bs; instruction = None }

-- the same of bytes that are still to be decoded
abbrev pub first_piece : ℕ → List ℕ → Piece
first_piece a bs = piece a bs (decode_of bs)

-- how many bytes are still to be read: no more items than these are to come
abbrev pub to_come : Items → ℕ
to_come p = length p.bytes.now

-- the part begins at the address; part and past are the bytes; where anything is past, the part ends at $FFFF
abbrev pub Made : ℕ → List ℕ → Items → List ℕ → Type 0
Made a bs p past =
    (p.start ≡ a) × (p.bytes.now ++ past ≡ bs) × ((0 < length past) → a + length p.bytes.now ≡ 65536)

-- the next item is the first piece of what is to be read, and what is to be read next begins where it ends; of no bytes there is none
abbrev pub Next : Items → Option Item → Items → Type 0
Next p None q = (p.bytes.now ≡ []) × (q.bytes.now ≡ []) × (q.start ≡ p.start)
Next p (Some i) q =
    (0 < length p.bytes.now)
    × (piece_of i ≡ first_piece p.start p.bytes.now)
    × ((piece_of i).bytes ++ q.bytes.now ≡ p.bytes.now)
    × (q.start ≡ p.start + length (piece_of i).bytes)

-- items are the pieces of bytes from an address on, each where the one before it ends, up to the last byte
abbrev pub Listed : ℕ → List ℕ → List Item → Type 0
Listed a bs [] = bs ≡ []
Listed a bs (i ∷ is) =
    (0 < length bs)
    × (piece_of i ≡ first_piece a bs)
    × Listed (a + length (piece_of i).bytes) (drop (length (piece_of i).bytes) bs) is

-- the bytes of items, joined in order
abbrev pub joined : List Item → List ℕ
joined [] = []
joined (i ∷ is) = (piece_of i).bytes ++ joined is

-- all the items that come are the pieces of the part, and joined they are the part
abbrev pub Joins : Items → Type 0
Joins p = (is : List Item) → Drains Next p is → Listed p.start p.bytes.now is × (joined is ≡ p.bytes.now)
