use Rattle.std.proofs.Common.{◌≡◌, ℕ, ◌<◌, ◌≤◌, List, length, Some, None, Err, Option, Result, refl, ◌∙◌, arith}
use Rattle.std.specs.Option.{ok_or}
use Rattle.std.specs.Result.{IsErrAnd}
use Rattle.std.proofs.lemmas.Result.{err_from_is_err_and}
use Rattle.device.specs.declared.description.Description.{Description}
use Rattle.device.specs.declared.fault.DescriptionRefusal.{DescriptionRefusal}
use Rattle.device.specs.declared.fault.DescriptionRefusal.TheVariants.{Length}
use Rattle.device.specs.Refusals.{offset_of}
use Rattle.device.specs.Record.{GoodCodeStart, GoodRamEnd, GoodStackTop, GoodSources, GoodLastByte, AtFault, goes_on, Refused, Read, Taken}

-- the fields that begin before o are good
pub record GoodBefore (bs : List ℕ) (o : ℕ) : Type 0 where
  pub zero : 0 < o → GoodCodeStart bs
  pub two : 2 < o → GoodRamEnd bs
  pub four : 4 < o → GoodStackTop bs
  pub six : 6 < o → GoodSources bs
  pub seven : 7 < o → GoodLastByte bs
  pub eight : 8 < o → length bs ≤ 8

-- a refusal that names a fault after good fields names the first one
pub refused : (bs : List ℕ) (e : DescriptionRefusal) → GoodBefore bs (offset_of e) → AtFault bs (offset_of e) → Refused bs e
refused bs e g f = record { number = refl; offset = offset_of e; detail = refl; first = (f, λ p h q. grind arith) }

-- a record that goes on after good fields is refused for its length
pub too_long : (bs : List ℕ) → GoodBefore bs 8 → 8 < length bs → Refused bs Length
too_long bs g more = refused bs Length g (goes_on more)

-- what is returned where a field after good ones is not taken
pub not_taken : {Good : Type 0} (v : ℕ) (bs : List ℕ) (e y : DescriptionRefusal) (o : Option ℕ) (r : Result Description DescriptionRefusal)
    → Taken Good v o → Err y ≡ ok_or o e → IsErrAnd r (λ x. x ≡ y) → ((Good → ⊥) → AtFault bs (offset_of e)) → GoodBefore bs (offset_of e) → Read bs r
not_taken v bs e y None r bad same h fault before =
    let p = err_from_is_err_and r h in
    let is : p.0 ≡ e = p.2 ∙ cc in
    rw (p.1, is) (refused bs e before (fault bad))
not_taken v bs e y (Some w) r good same h fault before = absurd cc
