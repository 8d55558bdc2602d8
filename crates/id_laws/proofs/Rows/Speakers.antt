-- Where the values of things come from.
use Rattle.std.proofs.Common.{◌≡◌, ℕ, ◌<◌, true, false, Some, length, sym, ◌∙◌, ap, subst}
use Rattle.id_value.specs.List.{Among}
use Rattle.id_value.specs.declared.Kind.{Kind}
use Rattle.id_table.specs.declared.row.Region.{Region}
use Rattle.id_table.specs.declared.row.Node.{Node}
use Rattle.id_table.specs.declared.row.Node.TheVariants.{Param, Literal, Name, Unary, Binary, If, Block, Binding, Call}
use Rattle.id_table.specs.declared.row.Node.TheVariants.{Next, Index, Loop, Array, Fetch, Carried, Within}
use Rattle.id_table.specs.Tables.{is_binder, is_block, is_expression, is_within}
use Rattle.id_check.specs.declared.checked.Checked.{Checked}
use Rattle.id_check.specs.Programs as checked
use Rattle.id_check.specs.Programs.{region, rows}
use Rattle.id_instr.specs.declared.dests.Port.{Port}
use Rattle.id_build.specs.declared.arc.Origin.{Origin}
use Rattle.id_build.specs.Rows.{block, label, label_by, node, name_in, named_in, origin, origin_of, output, feed}
use Rattle.id_build.specs.Rows.{feeds_of, reply}
use Rattle.id_build.specs.Schemas.{Feeds}
use Rattle.id_laws.specs.Carried.{speaker, speaker_of}
use Rattle.id_laws.proofs.Rows.Assumed.{IsKnown}

true_false : true ≡ false → ⊥
true_false h = cc

-- ---- where values come from

module _ (P : Checked) (known : IsKnown P) where
  -- an expression that is no name and no block gives its own value
  pub own_origin : (n : ℕ) (m : Node) → n < length (rows P) → node P n ≡ m → is_block m ≡ false → is_within m ≡ false
      → ((r : Region) → origin_of P n r m ≡ output n)
      → origin P n ≡ output n
  own_origin n m within is plain itself own =
      let itself = (known.table).value_self n within (ap is_block is ∙ plain) (ap is_within is ∙ itself) in
      ap (λ v. origin_of P v (region P v) (node P v)) itself ∙ ap (origin_of P n (region P n)) is ∙ own (region P n)

  -- a fetch gives what came to it as a reply
  pub fetch_origin : (n t i : ℕ) → n < length (rows P) → node P n ≡ Fetch t i → origin P n ≡ reply n
  fetch_origin n t i within is =
      let itself = (known.table).value_self n within (ap is_block is) (ap is_within is) in
      ap (λ v. origin_of P v (region P v) (node P v)) itself ∙ ap (origin_of P n (region P n)) is

  pub name_origin : (n x b : ℕ) → n < length (rows P) → node P n ≡ Name x → checked.binder P n ≡ Some b
      → origin P n ≡ name_in P (region P n) b
  name_origin n x b within is binds =
      let itself = (known.table).value_self n within (ap is_block is) (ap is_within is) in
      ap (λ v. origin_of P v (region P v) (node P v)) itself ∙ ap (origin_of P n (region P n)) is
      ∙ ap (named_in P (region P n) n) binds

  pub block_origin : (n b : ℕ) → n < length (rows P) → node P n ≡ Block b → origin P n ≡ origin P b
  block_origin n b within is = ap (λ v. origin_of P v (region P v) (node P v)) ((known.table).value_block n b within is)

  -- what a loop with an index has in the place of a predicate gives what its flag does
  pub within_origin : (n f : ℕ) {k : Kind} → n < length (rows P) → node P n ≡ Within f → node P f ≡ Carried k
      → origin P n ≡ output f
  within_origin n f within is flag =
      ap (λ v. origin_of P v (region P v) (node P v)) ((known.table).value_within n f within is)
      ∙ ap (origin_of P f (region P f)) flag

  -- what speaks for a thing
  pub expression_speaks : (n : ℕ) (m : Node) → node P n ≡ m → is_expression m ≡ true → speaker P n ≡ origin P n
  expression_speaks n (Param x k) is h = absurd (true_false (sym h))
  expression_speaks n (Binding x a) is h = absurd (true_false (sym h))
  expression_speaks n (Next x k o v) is h = absurd (true_false (sym h))
  expression_speaks n m is h = by m is h
    where
      by : (m : Node) → node P n ≡ m → is_expression m ≡ true → speaker P n ≡ origin P n
      by (Literal c) is h = ap (speaker_of P n) is
      by (Name x) is h = ap (speaker_of P n) is
      by (Unary o a) is h = ap (speaker_of P n) is
      by (Binary o a b) is h = ap (speaker_of P n) is
      by (If s x y) is h = ap (speaker_of P n) is
      by (Call s c) is h = ap (speaker_of P n) is
      by (Block b) is h = ap (speaker_of P n) is
      by (Loop g w l) is h = ap (speaker_of P n) is
      by (Array nested a b) is h = ap (speaker_of P n) is
      by (Fetch t i) is h = ap (speaker_of P n) is
      by _ is h = absurd (true_false (sym h))

  pub binder_speaks : (n : ℕ) (m : Node) → node P n ≡ m → is_binder m ≡ true → speaker P n ≡ output (label P n)
  binder_speaks n (Param x k) is h = ap (speaker_of P n) is ∙ ap output (sym (ap (label_by (block P n) n) is))
  binder_speaks n (Binding x a) is h = ap (speaker_of P n) is ∙ ap output (sym (ap (label_by (block P n) n) is))
  binder_speaks n (Next x k o v) is h = ap (speaker_of P n) is
  binder_speaks n (Index x) is h = ap (speaker_of P n) is
  binder_speaks n _ is h = absurd (true_false (sym h))

  pub fed_as : (t : Origin) (n part : ℕ) (p : Port) (m : Node) → n < length (rows P) → node P n ≡ m
      → Among (feed t part p) (feeds_of P n (region P n) m) → Feeds P t n part p
  fed_as t n part p m within is h =
      record { within = within; among = subst (λ z. Among (feed t part p) (feeds_of P n (region P n) z)) (sym is) h }
