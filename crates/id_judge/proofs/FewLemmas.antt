-- Where at most one message in flight is for a key, lines are clear.
use Rattle.std.proofs.Common.{◌≡◌, ◌≤◌, ℕ, List, [], ◌∷◌, ◌++◌, inl, inr, map, refl, sym, ap, ◌∙◌, arith, append_assoc}
use Rattle.id_value.specs.List.{Among}
use Rattle.id_value.specs.declared.Constant.{Constant}
use Rattle.id_value.proofs.AmongLemmas.{Among-map}
use Rattle.id_instr.specs.Graph.{Parts}
use Rattle.id_tag.specs.declared.Message.{Message}
use Rattle.id_core.specs.Machines.{run, start}
use Rattle.id_runs.specs.Keys.{Key, key_of}
use Rattle.id_runs.specs.OneMessage.{count_for}
use Rattle.id_runs.specs.Runs.{flying}
use Rattle.id_runs.proofs.Keys.{count_cons, counts, hit_itself}
use Rattle.id_runs.proofs.Legal.{legal}
use Rattle.id_trace.specs.Traces.{end_text, payload_text}
use Rattle.id_judge.specs.Lines.{AreClear}
use Rattle.id_judge.proofs.KeysLemmas.{key_told}
use Rattle.id_judge.proofs.OrderLemmas.{also_among, other_order}

-- two messages of a list that has at most one for their key are one
one_message : (k : Key) (m n : Message) (xs : List Message) → count_for k (map (λ (x : Message). x.payload) xs) ≤ 1
    → Among m xs → Among n xs → key_of m.payload ≡ k → key_of n.payload ≡ k → m ≡ n
one_message k m n [] few a b c d = absurd a
one_message k m n (z ∷ xs) few (inl a) (inl b) c d = a ∙ sym b
one_message k m n (z ∷ xs) few (inl a) (inr b) c d =
    let rest = map (λ (x : Message). x.payload) xs in
    absurd (omega (
      arith,
      few,
      count_cons k z.payload rest,
      hit_itself k z.payload (ap (λ (x : Message). key_of x.payload) (sym a) ∙ c),
      counts k n.payload rest (Among-map (λ (x : Message). x.payload) n xs b) d,
    ))
one_message k m n (z ∷ xs) few (inr a) (inl b) c d =
    let rest = map (λ (x : Message). x.payload) xs in
    absurd (omega (
      arith,
      few,
      count_cons k z.payload rest,
      hit_itself k z.payload (ap (λ (x : Message). key_of x.payload) (sym b) ∙ d),
      counts k m.payload rest (Among-map (λ (x : Message). x.payload) m xs a) c,
    ))
one_message k m n (z ∷ xs) few (inr a) (inr b) c d =
    let rest = map (λ (x : Message). x.payload) xs in
    one_message k m n xs (omega (arith, few, count_cons k z.payload rest)) a b c d

-- in each state of a run of the graph at most one message in flight is for a key
abbrev pub AreFew : Parts → List Constant → ℕ → Type 0
AreFew g vs count = (ks : List ℕ) (k : Key) → count_for k (flying (run g count ks (start g vs count))) ≤ 1

pub are_clear : (g : Parts) (vs : List Constant) (count : ℕ) → AreFew g vs count → AreClear g vs count
are_clear g vs count few es w lead m n a b small other text c d x y =
    let r = legal.are_runs g vs count es (record { end = w; lead = lead }) in
    let s = run g count r.positions (start g vs count) in
    let order = other_order s.flight w.flight r.end.flight in
    let says : payload_text m.payload ++ (end_text c ++ x.rest) ≡ payload_text n.payload ++ (end_text d ++ y.rest) =
    sym (append_assoc (payload_text m.payload) (end_text c) x.rest) ∙ sym x.is ∙ y.is
    ∙ append_assoc (payload_text n.payload) (end_text d) y.rest in
    let keys : key_of m.payload ≡ key_of n.payload = key_told m.payload n.payload c d x.rest y.rest small other says in
    one_message (key_of m.payload) m n s.flight (few r.positions (key_of m.payload))
    (also_among m w.flight s.flight order a)
    (also_among n w.flight s.flight order b) refl (sym keys)
