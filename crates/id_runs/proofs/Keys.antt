-- How many messages have a key.
use Rattle.std.proofs.Common.{◌≡◌, inl, inr, ℕ, zero, suc, ◌+◌, ◌≤◌, Bool, true, false, ◌&&◌, cond, Some, List, []}
use Rattle.std.proofs.Common.{◌∷◌, ◌++◌, slice_get, refl, sym, ◌∙◌, ap, arith}
use Rattle.std.specs.List.{remove}
use Rattle.std.proofs.lemmas.List.Sums.{sum_by-cons}
use Rattle.id_instr.specs.declared.dests.Port.{Port}
use Rattle.id_instr.specs.declared.dests.Port.TheVariants.{Zero, One}
use Rattle.id_tag.specs.declared.Payload.{Payload}
use Rattle.id_tag.specs.Tags.{same_tag}
use Rattle.id_tag.proofs.TagsLemmas.{same_tag_laws, one_from_same_tag}
use Rattle.id_match.specs.Ports.{same_port}
use Rattle.id_value.specs.List.{Among}
use Rattle.id_value.proofs.AmongLemmas.{Among-map}
use Rattle.id_runs.specs.Events.{Event, payload_of}
use Rattle.id_runs.specs.Keys.{Key, AtPort, ByFetch, ByStore, key_of, same_key}
use Rattle.id_runs.specs.Runs.{handled}
use Rattle.id_runs.specs.OneMessage.{count_for}

pub both_true : (a b : Bool) → (a && b) ≡ true → (a ≡ true) × (b ≡ true)
both_true true b e = (refl, e)
both_true false b e = cc

one_port : (p q : Port) → same_port p q ≡ true → p ≡ q
one_port Zero Zero e = refl
one_port Zero One e = cc
one_port One Zero e = cc
one_port One One e = refl

port_itself : (p : Port) → same_port p p ≡ true
port_itself Zero = refl
port_itself One = refl

-- keys that pass the test are one, and each passes it with itself
pub one_key : (j k : Key) → same_key j k ≡ true → j ≡ k
one_key (AtPort t p) (AtPort u q) e =
    let both = both_true (same_tag t u) (same_port p q) e in
    let tag_is = one_from_same_tag t u both.0 in
    let port_is = one_port p q both.1 in
    (λ i. AtPort (tag_is i) (port_is i))
one_key (ByFetch t) (ByFetch u) e = ap ByFetch (one_from_same_tag t u e)
one_key (ByStore t) (ByStore u) e = ap ByStore (one_from_same_tag t u e)
one_key (AtPort t p) (ByFetch u) e = cc
one_key (AtPort t p) (ByStore u) e = cc
one_key (ByFetch t) (AtPort u q) e = cc
one_key (ByFetch t) (ByStore u) e = cc
one_key (ByStore t) (AtPort u q) e = cc
one_key (ByStore t) (ByFetch u) e = cc

pub key_itself : (k : Key) → same_key k k ≡ true
key_itself (AtPort t p) = (λ i. same_tag_laws.refl t i && same_port p p) ∙ port_itself p
key_itself (ByFetch t) = same_tag_laws.refl t
key_itself (ByStore t) = same_tag_laws.refl t

-- 1 where the message has the key, and else 0
abbrev pub hit : Key → Payload → ℕ
hit k x = cond (same_key (key_of x) k) 1 0

pub hit_itself : (k : Key) (x : Payload) → key_of x ≡ k → hit k x ≡ 1
hit_itself k x e = ap (λ j. cond (same_key j k) 1 0) e ∙ ap (λ b. cond b 1 0) (key_itself k)

pub hit_is : (k : Key) (x : Payload) → 1 ≤ hit k x → key_of x ≡ k
hit_is k x h = go (same_key (key_of x) k) refl h
  where
    go : (b : Bool) → same_key (key_of x) k ≡ b → 1 ≤ cond b 1 0 → key_of x ≡ k
    go true e h = one_key (key_of x) k e
    go false e h = absurd (omega arith)

pub hit_small : (k : Key) (x : Payload) → hit k x ≤ 1
hit_small k x = go (same_key (key_of x) k)
  where
    go : (b : Bool) → cond b 1 0 ≤ 1
    go true = omega arith
    go false = omega arith

-- ---- counts

pub count_none : (k : Key) → count_for k [] ≡ 0
count_none k = refl

pub count_cons : (k : Key) (x : Payload) (xs : List Payload) → count_for k (x ∷ xs) ≡ hit k x + count_for k xs
count_cons k x xs = sum_by-cons (λ y. cond (same_key (key_of y) k) 1 0) x xs

pub count_append : (k : Key) (xs ys : List Payload) → count_for k (xs ++ ys) ≡ count_for k xs + count_for k ys
count_append k [] ys = omega (arith, count_none k)
count_append k (x ∷ xs) ys = omega (arith, count_cons k x xs, count_cons k x (xs ++ ys), count_append k xs ys)

pub count_remove : (k : Key) (x : Payload) (xs : List Payload) (n : ℕ) → slice_get xs n ≡ Some x
    → hit k x + count_for k (remove xs n) ≡ count_for k xs
count_remove k x [] n e = cc
count_remove k x (y ∷ xs) zero e =
    let is : y ≡ x = cc in ap (λ z. hit k z + count_for k xs) (sym is) ∙ sym (count_cons k y xs)
count_remove k x (y ∷ xs) (suc n) e =
    omega (arith, count_remove k x xs n e, count_cons k y xs, count_cons k y (remove xs n))

pub counts : (k : Key) (x : Payload) (xs : List Payload) → Among x xs → key_of x ≡ k → 1 ≤ count_for k xs
counts k x [] h e = absurd h
counts k x (y ∷ xs) (inl is) e = omega (arith, count_cons k y xs, hit_itself k y (ap key_of (sym is) ∙ e))
counts k x (y ∷ xs) (inr h) e = omega (arith, count_cons k y xs, counts k x xs h e)

pub counted : (k : Key) (xs : List Payload) → 1 ≤ count_for k xs → (x : Payload) × Among x xs × (key_of x ≡ k)
counted k [] h = absurd (omega arith)
counted k (x ∷ xs) h = go (hit k x) refl (counted k xs)
  where
    go : (n : ℕ) → hit k x ≡ n → (1 ≤ count_for k xs → (y : Payload) × Among y xs × (key_of y ≡ k))
        → (y : Payload) × Among y (x ∷ xs) × (key_of y ≡ k)
    go zero e rest = let t = rest (omega (arith, count_cons k x xs)) in (t.0, inr t.1, t.2)
    go (suc n) e rest = (x, inl refl, hit_is k x (omega arith))

pub count_one : (k : Key) (x : Payload) → count_for k (x ∷ []) ≤ 1
count_one k x = omega (arith, hit_small k x, count_cons k x [], count_none k)

-- a list whose head has a key has no more messages with it, where the rest has none
pub count_first : (k : Key) (x : Payload) (xs : List Payload) → count_for k xs ≤ 1
    → ((y : Payload) → Among y xs → key_of x ≡ key_of y → ⊥) → count_for k (x ∷ xs) ≤ 1
count_first k x xs few apart = go (hit k x) (count_for k xs) refl refl
  where
    go : (m n : ℕ) → hit k x ≡ m → count_for k xs ≡ n → count_for k (x ∷ xs) ≤ 1
    go zero n e f = omega (arith, count_cons k x xs)
    go (suc m) zero e f = omega (arith, hit_small k x, count_cons k x xs)
    go (suc m) (suc n) e f =
        let b = counted k xs (omega arith) in
        absurd (apart b.0 b.1 (hit_is k x (omega arith) ∙ sym b.2))

-- where at most one has the key, two of them are one
pub one_message : (k : Key) (x y : Payload) (xs : List Payload) → count_for k xs ≤ 1 → Among x xs → Among y xs
    → key_of x ≡ k → key_of y ≡ k → x ≡ y
one_message k x y [] few a b c d = absurd a
one_message k x y (z ∷ xs) few (inl a) (inl b) c d = a ∙ sym b
one_message k x y (z ∷ xs) few (inl a) (inr b) c d =
    absurd (omega (arith, count_cons k z xs, hit_itself k z (ap key_of (sym a) ∙ c), counts k y xs b d))
one_message k x y (z ∷ xs) few (inr a) (inl b) c d =
    absurd (omega (arith, count_cons k z xs, hit_itself k z (ap key_of (sym b) ∙ d), counts k x xs a c))
one_message k x y (z ∷ xs) few (inr a) (inr b) c d = one_message k x y xs (omega (arith, count_cons k z xs)) a b c d

-- and so are two events that handled them
pub one_event : (k : Key) (e f : Event) (run : List Event) → count_for k (handled run) ≤ 1 → Among e run → Among f run
    → key_of (payload_of e) ≡ k → key_of (payload_of f) ≡ k → e ≡ f
one_event k e f [] few a b c d = absurd a
one_event k e f (z ∷ run) few (inl a) (inl b) c d = a ∙ sym b
one_event k e f (z ∷ run) few (inl a) (inr b) c d =
    absurd (omega (
      arith,
      count_cons k (payload_of z) (handled run),
      hit_itself k (payload_of z) (ap (λ y. key_of (payload_of y)) (sym a) ∙ c),
      counts k (payload_of f) (handled run) (Among-map payload_of f run b) d,
    ))
one_event k e f (z ∷ run) few (inr a) (inl b) c d =
    absurd (omega (
      arith,
      count_cons k (payload_of z) (handled run),
      hit_itself k (payload_of z) (ap (λ y. key_of (payload_of y)) (sym b) ∙ d),
      counts k (payload_of e) (handled run) (Among-map payload_of e run a) c,
    ))
one_event k e f (z ∷ run) few (inr a) (inr b) c d =
    one_event k e f run (omega (arith, count_cons k (payload_of z) (handled run))) a b c d
