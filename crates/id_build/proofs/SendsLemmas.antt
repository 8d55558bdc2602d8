-- The sends to the entries of a loop, and the numbers of these, one after another.
use Rattle.std.proofs.Common.{◌≡◌, ℕ, suc, ◌+◌, ◌<◌, List, [], ◌∷◌, ◌++◌, length, get_or, drop, map, ap, sym, ◌∙◌}
use Rattle.std.proofs.Common.{arith}
use Rattle.std.proofs.lemmas.List.{append_assoc}
use Rattle.id_check.specs.declared.checked.Checked.{Checked}
use Rattle.id_instr.specs.declared.instr.Op.{Op}
use Rattle.id_instr.specs.declared.instr.PortKind.{PortKind}
use Rattle.id_build.specs.declared.arc.Form.TheVariants.{Plain}
use Rattle.id_build.specs.declared.arc.Piece.{Piece}
use Rattle.id_build.specs.Rows.{Entry, for_each, import_entries, param_entry, piece, port_at, variable_entries}
use Rattle.id_build.proofs.PushedLemmas.{drop_at}

-- what is made of the entry of one more variable
pub variable_entries-next : {A : Type 0} (f : Entry → A) (v i j : ℕ) (ms : List ℕ) (xs ys ws : List A) → i < length ms
    → j ≡ i + 1 → xs ++ map f (variable_entries (v + i) (drop i ms)) ≡ ws
    → ys ≡ xs ++ f (record { binder = get_or ms i 0; row = v + i; part = 0 }) ∷ []
    → ys ++ map f (variable_entries (v + j) (drop j ms)) ≡ ws
variable_entries-next f v i j ms xs ys ws l next so one =
    let up : suc i ≡ j = omega (arith, next) in
    let row : v + i + 1 ≡ v + j = omega (arith, next) in
    let rest = drop_at ms i l ∙ ap (λ k. get_or ms i 0 ∷ drop k ms) up in
    let m = map f (variable_entries (v + j) (drop j ms)) in
    let a = f (record { binder = get_or ms i 0; row = v + i; part = 0 }) in
    let old =
    sym (ap (λ z. xs ++ map f (variable_entries (v + i) z)) rest
    ∙ ap (λ k. xs ++ a ∷ map f (variable_entries k (drop j ms))) row) ∙ so in
    ap (λ z. z ++ m) one ∙ append_assoc xs (a ∷ []) m ∙ old

-- and of that of one more import
pub import_entries-next : {A : Type 0} (f : Entry → A) (e i : ℕ) (bs : List ℕ) (xs ys ws : List A) → i < length bs
    → xs ++ map f (import_entries e i (drop i bs)) ≡ ws
    → ys ≡ xs ++ f (record { binder = get_or bs i 0; row = e; part = i }) ∷ []
    → ys ++ map f (import_entries e (i + 1) (drop (i + 1) bs)) ≡ ws
import_entries-next f e i bs xs ys ws l so one =
    let up : suc i ≡ i + 1 = omega arith in
    let rest = drop_at bs i l ∙ ap (λ k. get_or bs i 0 ∷ drop k bs) up in
    let m = map f (import_entries e (i + 1) (drop (i + 1) bs)) in
    let a = f (record { binder = get_or bs i 0; row = e; part = i }) in
    ap (λ z. z ++ m) one ∙ append_assoc xs (a ∷ []) m ∙ sym (ap (λ z. xs ++ map f (import_entries e i z)) rest) ∙ so

-- and what is made of one more binder
pub for_each-next : (P : Checked) (f : PortKind → Op) (e i : ℕ) (bs : List ℕ) (xs ys ws : List Piece) → i < length bs
    → xs ++ for_each P f e (drop i bs) ≡ ws → ys ≡ xs ++ piece (Plain (f (port_at P (get_or bs i 0)))) e ∷ []
    → ys ++ for_each P f e (drop (i + 1) bs) ≡ ws
for_each-next P f e i bs xs ys ws l so one =
    let up : suc i ≡ i + 1 = omega arith in
    let rest = drop_at bs i l ∙ ap (λ k. get_or bs i 0 ∷ drop k bs) up in
    let m = for_each P f e (drop (i + 1) bs) in
    let a = piece (Plain (f (port_at P (get_or bs i 0)))) e in
    ap (λ z. z ++ m) one ∙ append_assoc xs (a ∷ []) m ∙ sym (ap (λ z. xs ++ for_each P f e z) rest) ∙ so

-- and of one that stands before others
pub for_each-before : (P : Checked) (f : PortKind → Op) (e i : ℕ) (cs bs : List ℕ) (xs ys ws : List Piece)
    → i < length cs → xs ++ for_each P f e (drop i cs ++ bs) ≡ ws
    → ys ≡ xs ++ piece (Plain (f (port_at P (get_or cs i 0)))) e ∷ []
    → ys ++ for_each P f e (drop (i + 1) cs ++ bs) ≡ ws
for_each-before P f e i cs bs xs ys ws l so one =
    let up : suc i ≡ i + 1 = omega arith in
    let rest = drop_at cs i l ∙ ap (λ k. get_or cs i 0 ∷ drop k cs) up in
    let m = for_each P f e (drop (i + 1) cs ++ bs) in
    let a = piece (Plain (f (port_at P (get_or cs i 0)))) e in
    ap (λ z. z ++ m) one ∙ append_assoc xs (a ∷ []) m ∙ sym (ap (λ z. xs ++ for_each P f e (z ++ bs)) rest) ∙ so

-- and what is made of the entry of one more that a loop carries on
pub carried_entries-next : {A : Type 0} (f : Entry → A) (i : ℕ) (bs : List ℕ) (xs ys ws : List A) → i < length bs
    → xs ++ map f (map param_entry (drop i bs)) ≡ ws → ys ≡ xs ++ f (param_entry (get_or bs i 0)) ∷ []
    → ys ++ map f (map param_entry (drop (i + 1) bs)) ≡ ws
carried_entries-next f i bs xs ys ws l so one =
    let up : suc i ≡ i + 1 = omega arith in
    let rest = drop_at bs i l ∙ ap (λ k. get_or bs i 0 ∷ drop k bs) up in
    let m = map f (map param_entry (drop (i + 1) bs)) in
    let a = f (param_entry (get_or bs i 0)) in
    ap (λ z. z ++ m) one ∙ append_assoc xs (a ∷ []) m ∙ sym (ap (λ z. xs ++ map f (map param_entry z)) rest) ∙ so

-- what is there is followed by all that is left
pub begun : {A : Type 0} (xs ys m : List A) (a : A) → ys ≡ xs ++ a ∷ [] → ys ++ m ≡ xs ++ a ∷ m
begun xs ys m a one = ap (λ z. z ++ m) one ∙ append_assoc xs (a ∷ []) m
