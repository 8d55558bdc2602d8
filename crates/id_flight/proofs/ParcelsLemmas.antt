-- Lemmas on specs/Parcels.antt: a parcel that says what a message says has the message, and what stands aside stays
-- there.
use Rattle.std.proofs.Common.{◌≡◌, ◌<◌, ℕ, zero, suc, List, [], ◌∷◌, ◌++◌, Option, None, Some, IfSome, get_or}
use Rattle.std.proofs.Common.{length, length-append, map, refl, ap, subst, ◌∙◌, arith}
use Rattle.std.proofs.Math.ListN.{get_or-append}
use Rattle.std.proofs.Math.Seq.{get_or-append_seam}
use Rattle.std.specs.Prelude.{All}
use Rattle.std.specs.List.{AllByRecursion, remove}
use Rattle.std.proofs.lemmas.List.{map-append}
use Rattle.std.proofs.lemmas.List.Elements.{All-cons, recursion_from_All}
use Rattle.id_instr.specs.declared.dests.Port.{Port}
use Rattle.id_tag.specs.declared.Tag.{Tag}
use Rattle.id_tag.specs.declared.Message.{Message}
use Rattle.id_tag.specs.declared.Payload.{Payload}
use Rattle.id_tag.specs.declared.plain.Plain.{Plain as Short}
use Rattle.id_tag.specs.Plains.{tag_in}
use Rattle.id_flight.specs.declared.parcel.Parcel.{Parcel}
use Rattle.id_flight.specs.declared.parcel.What.{What}
use Rattle.id_flight.specs.declared.parcel.What.TheVariants.{Plain, Structure as Named, Address, Read, Write, Aside}
use Rattle.id_flight.specs.Parcels.{IsPacked, IsThere, IsWithin, own, place_of, said, told, unpacked}

-- what says something does not stand aside
there-said : (asides : List Message) (t : Tag) (q : Port) (v : Short) (w : What) (x : Payload) → said t q v w ≡ Some x → IsThere asides w
there-said asides t q v Plain x says = tt
there-said asides t q v (Named e s l h) x says = tt
there-said asides t q v (Address e s l h) x says = tt
there-said asides t q v (Read e s l h) x says = tt
there-said asides t q v (Write n p) x says = tt
there-said asides t q v (Aside i) x says = cc

-- a parcel that says what a message says, and is else like it, has the message
pub packed-said : (m : Message) (p : Parcel) → said (tag_in p.token) p.token.port p.token.value p.what ≡ Some m.payload
    → own p m.payload ≡ m → IsPacked m p
packed-said m p says whole = record {
  is = λ asides. ap (told asides p (place_of p.what)) says ∙ whole;
  within = λ asides. there-said asides (tag_in p.token) p.token.port p.token.value p.what m.payload says;
}

packed-narrowed : (m : Message) (v : Short) (w : What) (t : Tag) (q : Port) (p : Parcel) → said t q v w ≡ Some m.payload
    → p.what ≡ w → p.token.value ≡ v → p.token.port ≡ q → tag_in p.token ≡ t → own p m.payload ≡ m → IsPacked m p
packed-narrowed m v w t q p says what value port tag whole =
    packed-said m p (ap (λ u. said u p.token.port p.token.value p.what) tag ∙ ap (λ r. said t r p.token.value p.what) port
    ∙ ap (λ u. said t q u p.what) value ∙ ap (said t q v) what ∙ says) whole

pub packed-if : (m : Message) (v : Short) (w : What) (t : Tag) (q : Port) (o : Option Parcel) → said t q v w ≡ Some m.payload
    → IfSome o (λ p. p.what ≡ w) → IfSome o (λ p. p.token.value ≡ v) → IfSome o (λ p. p.token.port ≡ q)
    → IfSome o (λ p. tag_in p.token ≡ t) → IfSome o (λ p. own p m.payload ≡ m) → IfSome o (λ p. IsPacked m p)
packed-if m v w t q None says what value port tag whole = tt
packed-if m v w t q (Some p) says what value port tag whole = packed-narrowed m v w t q p says what value port tag whole

-- the parcels behind the first have what all have
pub all-rest : (P : Parcel → Type 0) (p : Parcel) (ps qs : List Parcel) → qs ≡ p ∷ ps → All P qs → All P ps
all-rest P p ps qs is all k d below =
    let every : All P (p ∷ ps) = subst (λ xs. All P xs) is all in
    every (suc k) d (omega (arith, below))

-- the messages aside are those of before, and more
abbrev pub Keeps : List Message → List Message → Type 0
Keeps asides more = (p : Parcel) → IsWithin asides p → IsWithin more p × (unpacked more p ≡ unpacked asides p)

messages-kept_each : (asides more : List Message) → Keeps asides more → (ps : List Parcel) → AllByRecursion (IsWithin asides) ps
    → map (unpacked more) ps ≡ map (unpacked asides) ps
messages-kept_each asides more keeps [] within = refl
messages-kept_each asides more keeps (p ∷ ps) within =
    ap (λ m. m ∷ map (unpacked more) ps) ((keeps p within.0).1)
    ∙ ap (λ ms. unpacked asides p ∷ ms) (messages-kept_each asides more keeps ps within.1)

pub messages-kept : (asides more : List Message) (ps : List Parcel) → Keeps asides more → All (IsWithin asides) ps
    → map (unpacked more) ps ≡ map (unpacked asides) ps
messages-kept asides more ps keeps within = messages-kept_each asides more keeps ps (recursion_from_All (IsWithin asides) ps within)

-- and so they are all within
pub all-kept : (asides more : List Message) (ps : List Parcel) → Keeps asides more → All (IsWithin asides) ps → All (IsWithin more) ps
all-kept asides more ps keeps within k d below = (keeps (get_or ps k d) (within k d below)).0

-- the last of all, and those before it, have what all have
pub all-last : (P : Parcel → Type 0) (ps qs : List Parcel) (p : Parcel) → qs ≡ ps ++ p ∷ [] → All P qs → P p
all-last P ps qs p is all =
    let every : All P (ps ++ p ∷ []) = subst (λ xs. All P xs) is all in
    subst P (get_or-append_seam ps p [] p) (every (length ps) p (omega (arith, length-append ps (p ∷ []))))

pub all-before : (P : Parcel → Type 0) (ps qs : List Parcel) (p : Parcel) → qs ≡ ps ++ p ∷ [] → All P qs → All P ps
all-before P ps qs p is all k d below =
    let every : All P (ps ++ p ∷ []) = subst (λ xs. All P xs) is all in
    subst P (get_or-append ps (p ∷ []) d k below) (every k d (omega (arith, below, length-append ps (p ∷ []))))

-- a parcel more at the end is its message more
pub messages-more : (asides more : List Message) (ps qs : List Parcel) (p : Parcel) (m : Message) → Keeps asides more → All (IsWithin asides) ps
    → unpacked more p ≡ m → qs ≡ ps ++ p ∷ [] → map (unpacked more) qs ≡ map (unpacked asides) ps ++ m ∷ []
messages-more asides more ps qs p m keeps within is at =
    ap (map (unpacked more)) at
    ∙ map-append (unpacked more) ps (p ∷ [])
    ∙ ap (λ ms. ms ++ unpacked more p ∷ []) (messages-kept asides more ps keeps within)
    ∙ ap (λ x. map (unpacked asides) ps ++ x ∷ []) is

-- the others have what all have where one is removed
pub all-removed : (P : Parcel → Type 0) (ps : List Parcel) (k : ℕ) → k < length ps → All P ps → All P (remove ps k)
all-removed P [] k there all = absurd (omega arith)
all-removed P (p ∷ ps) zero there all = all-rest P p ps (p ∷ ps) refl all
all-removed P (p ∷ ps) (suc k) there all =
    let within : k < length ps = omega arith in
    All-cons P p (remove ps k) (all 0 p (omega arith)) (all-removed P ps k within (all-rest P p ps (p ∷ ps) refl all))
