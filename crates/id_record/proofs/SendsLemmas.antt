-- Lemmas on specs/Sends.antt, in the order of its definitions.
use Rattle.std.specs.Prelude.{slice_get, option_map}
use Rattle.std.proofs.lemmas.Option.{slice_get_within}
use Rattle.id_instr.specs.Graph.{Parts, IsGraph}
use Rattle.id_instr.specs.declared.instr.Instr.{Instr}
use Rattle.id_valid.specs.Roles.{op_at}
use Rattle.id_valid.specs.Validator.{IsValid}
use Rattle.id_valid.proofs.ValidatorLemmas.{IsEntered-valid}
use Rattle.std.proofs.Common.{zero, suc, Some, ◌≡◌, ◌⊎◌, inl, inr, Bool, ℕ, ◌+◌, ◌≤◌, ◌<◌}
use Rattle.std.proofs.Common.{List, [], ◌∷◌, ◌++◌, length, length-append, map, max, take, get_or, refl, sym, ap, ◌∙◌, arith}
use Rattle.std.proofs.lemmas.List.{append_assoc, length-map, length-take, map_more, take_more}
use Rattle.std.specs.Prelude.{Option, None}
use Rattle.id_instr.specs.declared.instr.Op.{Op}
use Rattle.id_instr.specs.declared.instr.Op.TheVariants.{Const, Unary, Binary, Merge, Switch, Back, Enter, Send, Next, Reset, Alloc, Address, Fetch, Store}
use Rattle.id_instr.specs.declared.dests.Dest.{Dest}
use Rattle.id_tag.specs.declared.Context.{Context}
use Rattle.id_tag.specs.declared.Tag.{Tag}
use Rattle.id_tag.specs.declared.Value.{Value}
use Rattle.id_tag.specs.declared.Value.TheVariants as value
use Rattle.id_tag.specs.declared.Payload.{Payload}
use Rattle.id_tag.specs.declared.Payload.TheVariants.{Token}
use Rattle.id_instr.specs.declared.dests.Port.TheVariants.{Zero}
use Rattle.id_tag.specs.declared.Message.{Message}
use Rattle.id_tag.specs.declared.Sender.TheVariants.{Element}
use Rattle.id_ops.specs.declared.Fired.{Fired}
use Rattle.id_ops.specs.declared.Fired.TheVariants.{Out, Side, Moved, Entered, Sent, Asked, Stored, Failed, Nothing}
use Rattle.id_record.specs.Sends.{HasSecond, count_started, moved_to, sent, started, token_to, replies, numbered}

-- a value that goes out goes to each destination
pub length-out : (o : Option Op) (ds : List Dest) (t : Tag) (f : Fired)
    → ((v : Value) × (f ≡ Out v)) ⊎ (((b : Bool) × (v : Value) × (f ≡ Side b v)) ⊎ ((i : ℕ) × (v : Value) × (f ≡ Moved i v)))
    → length (sent o ds t f) ≡ length ds
length-out o ds t f (inl is) = ap (λ g. length (sent o ds t g)) is.1 ∙ length-map ds (token_to t is.0)
length-out o ds t f (inr (inl is)) = ap (λ g. length (sent o ds t g)) is.2 ∙ length-map ds (token_to t is.1)
length-out o ds t f (inr (inr is)) = ap (λ g. length (sent o ds t g)) is.2 ∙ length-map ds (token_to (moved_to t is.0) is.1)

-- an instruction that does something is there
within_op : (g : Parts) (n : ℕ) (op : Op) → op_at g n ≡ Some op → n < length g.instrs
within_op g n op is = at (slice_get g.instrs n) refl is
  where
    at : (o : Option Instr) → slice_get g.instrs n ≡ o → option_map (λ i. i.op) o ≡ Some op → n < length g.instrs
    at None e h = cc
    at (Some i) e h = slice_get_within g.instrs n i e

-- a block that an operator of a valid graph names has a second instruction
pub HasSecond-valid : (g : Parts) (n : ℕ) (o : Option Op) → IsGraph g → IsValid g → op_at g n ≡ o → HasSecond o
HasSecond-valid g n (Some (Enter b r)) graph valid is =
    let back = (IsEntered-valid g n b r valid is).back in
    omega (arith, within_op g (b + 1) (Back (IsEntered-valid g n b r valid is).kind) back, graph.few)
HasSecond-valid g n None graph valid is = tt
HasSecond-valid g n (Some (Const v)) graph valid is = tt
HasSecond-valid g n (Some (Unary f)) graph valid is = tt
HasSecond-valid g n (Some (Binary f)) graph valid is = tt
HasSecond-valid g n (Some (Merge k)) graph valid is = tt
HasSecond-valid g n (Some (Switch k)) graph valid is = tt
HasSecond-valid g n (Some (Back k)) graph valid is = tt
HasSecond-valid g n (Some (Send k t)) graph valid is = tt
HasSecond-valid g n (Some (Next k)) graph valid is = tt
HasSecond-valid g n (Some (Reset k)) graph valid is = tt
HasSecond-valid g n (Some (Alloc nested)) graph valid is = tt
HasSecond-valid g n (Some (Address nested)) graph valid is = tt
HasSecond-valid g n (Some (Fetch nested r)) graph valid is = tt
HasSecond-valid g n (Some (Store nested)) graph valid is = tt

-- so many payloads start a block
pub length-started : (o : Option Op) (t : Tag) (c : Context) → length (started o t c) ≡ count_started o
length-started None t c = refl
length-started (Some (Enter b r)) t c = refl
length-started (Some (Const v)) t c = refl
length-started (Some (Unary f)) t c = refl
length-started (Some (Binary f)) t c = refl
length-started (Some (Merge k)) t c = refl
length-started (Some (Switch k)) t c = refl
length-started (Some (Back k)) t c = refl
length-started (Some (Send k n)) t c = refl
length-started (Some (Next k)) t c = refl
length-started (Some (Reset k)) t c = refl
length-started (Some (Alloc nested)) t c = refl
length-started (Some (Address nested)) t c = refl
length-started (Some (Fetch nested r)) t c = refl
length-started (Some (Store nested)) t c = refl

-- a context that is entered goes to each destination, and then the block is started
pub length-entered : (o : Option Op) (ds : List Dest) (t : Tag) (c : Context) → length (sent o ds t (Entered c)) ≡ length ds + count_started o
length-entered o ds t c =
    omega (arith, length-append (map (token_to t (value.Context c)) ds) (started o t c), length-map ds (token_to t (value.Context c)), length-started o t c)

-- at most one payload for each destination, and what starts a block, or one
pub length-sent : (o : Option Op) (ds : List Dest) (t : Tag) (f : Fired) → length (sent o ds t f) ≤ max (length ds) 1 + count_started o
length-sent o ds t (Out v) = omega (arith, length-map ds (token_to t v))
length-sent o ds t (Side b v) = omega (arith, length-map ds (token_to t v))
length-sent o ds t (Moved i v) = omega (arith, length-map ds (token_to (moved_to t i) v))
length-sent o ds t (Entered c) = omega (arith, length-entered o ds t c)
length-sent o ds t (Sent u v) = omega arith
length-sent o ds t (Asked c r) = omega arith
length-sent o ds t (Stored c v w) = omega arith
length-sent o ds t (Failed f) = omega arith
length-sent o ds t Nothing = omega arith

-- as many payloads as replies
pub length-replies : (v : Value) (ts : List Tag) → length (replies v ts) ≡ length ts
length-replies v ts = length-map ts (λ t. Token t Zero v)

-- what stands behind the first list
pub get-behind : {X : Type 0} (xs ys : List X) (k i : ℕ) → k ≡ length xs + i → slice_get (xs ++ ys) k ≡ slice_get ys i
get-behind [] ys k i is = let same : k ≡ i = omega (arith, is) in ap (slice_get ys) same
get-behind (x ∷ xs) ys zero i is = absurd (omega (arith, is))
get-behind (x ∷ xs) ys (suc k) i is = get-behind xs ys k i (omega (arith, is))

-- what stands in the first list
pub get-before : {X : Type 0} (xs ys : List X) (k : ℕ) (x : X) → slice_get xs k ≡ Some x → slice_get (xs ++ ys) k ≡ Some x
get-before [] ys k x is = cc
get-before (y ∷ xs) ys zero x is = is
get-before (y ∷ xs) ys (suc k) x is = get-before xs ys k x is

-- the message of the element n that has the number k
abbrev pub numbered_as : ℕ → ℕ → ℕ → ℕ → Payload → Message
numbered_as n p s k x = record { payload = x; sender = Element n; position = p; output = k; stamp = s }

-- one more payload has the next number
pub numbered-push : (n p s k : ℕ) (xs : List Payload) (x : Payload) →
    numbered n p s k (xs ++ x ∷ []) ≡ numbered n p s k xs ++ numbered_as n p s (k + length xs) x ∷ []
numbered-push n p s k [] x = ap (λ j. numbered_as n p s j x ∷ []) (omega arith)
numbered-push n p s k (y ∷ ys) x =
    let number : k + 1 + length ys ≡ k + length (y ∷ ys) = omega arith in
    ap (λ zs. numbered_as n p s k y ∷ zs) (numbered-push n p s (k + 1) ys x ∙ ap (λ j. numbered n p s (k + 1) ys ++ numbered_as n p s j x ∷ []) number)

-- the payloads of two lists are numbered on
pub numbered-append : (n p s k : ℕ) (xs ys : List Payload) → numbered n p s k (xs ++ ys) ≡ numbered n p s k xs ++ numbered n p s (k + length xs) ys
numbered-append n p s k [] ys = ap (λ j. numbered n p s j ys) (omega arith)
numbered-append n p s k (x ∷ xs) ys =
    let number : k + 1 + length xs ≡ k + length (x ∷ xs) = omega arith in
    ap (λ zs. numbered_as n p s k x ∷ zs) (numbered-append n p s (k + 1) xs ys ∙ ap (λ j. numbered n p s (k + 1) xs ++ numbered n p s j ys) number)

-- one more destination has one more token
pub numbered-more : (n p s : ℕ) (t : Tag) (v : Value) (ds : List Dest) (i : ℕ) (d : Dest) (x : Payload) → i < length ds → x ≡ token_to t v (get_or ds i d) →
    numbered n p s 0 (map (token_to t v) (take (i + 1) ds)) ≡ numbered n p s 0 (map (token_to t v) (take i ds)) ++ numbered_as n p s i x ∷ []
numbered-more n p s t v ds i d x lt is =
    let count : 0 + length (map (token_to t v) (take i ds)) ≡ i = omega (arith, length-map (take i ds) (token_to t v), length-take i ds) in
    rw (map_more (token_to t v) ds i d lt, numbered-push n p s 0 (map (token_to t v) (take i ds)) (token_to t v (get_or ds i d)), count, is)

-- one more reply has one more token
pub replies-more : (n p s : ℕ) (v : Value) (ts : List Tag) (i : ℕ) (t : Tag) (x : Payload) → i < length ts → x ≡ Token (get_or ts i t) Zero v
    → numbered n p s 0 (replies v (take (i + 1) ts)) ≡ numbered n p s 0 (replies v (take i ts)) ++ numbered_as n p s i x ∷ []
replies-more n p s v ts i t x lt is =
    let to : Tag → Payload = λ u. Token u Zero v in
    let count : 0 + length (map to (take i ts)) ≡ i = omega (arith, length-map (take i ts) to, length-take i ts) in
    rw (map_more to ts i t lt, numbered-push n p s 0 (map to (take i ts)) (to (get_or ts i t)), count, is)

-- one more reply stands behind those so far
pub reply-added : (old now new ts : List Tag) (i : ℕ) (t : Tag) → i < length ts → now ≡ old ++ take i ts → new ≡ now ++ get_or ts i t ∷ [] →
    new ≡ old ++ take (i + 1) ts
reply-added old now new ts i t lt is added =
    added ∙ ap (λ xs. xs ++ get_or ts i t ∷ []) is ∙ append_assoc old (take i ts) (get_or ts i t ∷ []) ∙ ap (λ xs. old ++ xs) (sym (take_more ts i t lt))

-- as many messages as payloads
pub length-numbered : (n p s k : ℕ) (xs : List Payload) → length (numbered n p s k xs) ≡ length xs
length-numbered n p s k [] = refl
length-numbered n p s k (x ∷ xs) = omega (arith, length-numbered n p s (k + 1) xs)

-- the message of each number
pub numbered-get : (n p s k : ℕ) (xs : List Payload) (i : ℕ) (x : Payload) → slice_get xs i ≡ Some x →
    slice_get (numbered n p s k xs) i ≡ Some (numbered_as n p s (k + i) x)
numbered-get n p s k [] i x is = cc
numbered-get n p s k (y ∷ ys) zero x is =
    let same : y ≡ x = cc in
    let here : k ≡ k + 0 = omega arith in
    ap (λ z. Some (numbered_as n p s k z)) same ∙ ap (λ j. Some (numbered_as n p s j x)) here
numbered-get n p s k (y ∷ ys) (suc i) x is =
    let there : k + 1 + i ≡ k + suc i = omega arith in
    numbered-get n p s (k + 1) ys i x is ∙ ap (λ j. Some (numbered_as n p s j x)) there
