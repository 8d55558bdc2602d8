-- The inputs of a program are inputs for each graph that the schemas give it.
use Rattle.std.proofs.Common.{◌≡◌, ℕ, Some, List, [], ◌∷◌, length, map, sym, ◌∙◌, ap, subst, inl, inr, refl}
use Rattle.id_value.specs.List.{Among}
use Rattle.id_table.specs.Turns.{params_at}
use Rattle.id_check.specs.declared.checked.Checked.{Checked}
use Rattle.id_check.specs.Programs.{rows}
use Rattle.id_instr.specs.declared.instr.Block.{Block}
use Rattle.id_instr.specs.declared.instr.Op.TheVariants.{Merge}
use Rattle.id_instr.specs.Graph.{Parts}
use Rattle.id_tag.specs.Kinds.{kind_of as token_kind}
use Rattle.id_core.specs.Machines.{AreTaken, TakesInputs}
use Rattle.id_value.specs.declared.Constant.{Constant}
use Rattle.id_value.specs.declared.Constant.TheVariants as value
use Rattle.id_ops.specs.Operators.{constant_value}
use Rattle.id_source.specs.Sources.{AreFor, AreInputs, source, constant_kind}
use Rattle.id_build.specs.Rows.{node, port_at, port_of}
use Rattle.id_build.specs.Schemas.{Numbered, Schemas}
use Rattle.id_laws.specs.Activations.{main_head}
use Rattle.id_laws.proofs.Rows.Arcs.{enters}
use Rattle.id_laws.proofs.Rows.Blocks.{a_param}
use Rattle.id_laws.proofs.Rows.Assumed.{IsKnown}
use Rattle.id_laws.proofs.Validity.HasKinds.{param_suits}
use Rattle.id_laws.proofs.Rows.Start.{main_block, the_block}
use Rattle.id_laws.proofs.Validity.ValidPorts.{port_is}
use Rattle.id_laws.proofs.Validity.ValidRoles.{op_made}

token_port : (v : Constant) → token_kind (constant_value v) ≡ port_of (constant_kind v)
token_port (value.Int n) = refl
token_port (value.Bool b) = refl

module _ (P : Checked) (known : IsKnown P) (g : Parts) (number : ℕ → ℕ → ℕ) (numbered : Numbered P g number) where
  -- labels of parameters of one block take values of their kinds
  entries_take : (h : ℕ) (bs : List ℕ) (vs : List Constant) → ((b : ℕ) → Among b bs → Among b (params_at (rows P) h))
      → AreFor P bs vs → AreTaken g (map (λ x. number x 0) bs) vs
  entries_take h [] [] inside own = tt
  entries_take h [] (v ∷ vs) inside own = own
  entries_take h (b ∷ bs) [] inside own = own
  entries_take h (b ∷ bs) (v ∷ vs) inside own =
      let z = a_param (rows P) h (length (rows P)) b (inside b (inl refl)) in
      let of_kind = param_suits P known b v z.within (node P b) refl own.0 in
      let kind_is : port_at P b ≡ token_kind (constant_value v) =
      port_is P b (constant_kind v) of_kind ∙ sym (token_port v) in (
        op_made P known g number numbered z.within (enters (z.param).is) ∙ ap (λ k. Some (Merge k)) kind_is,
        entries_take h bs vs (λ y k. inside y (inr k)) own.1,
      )

  takes_inputs : (vs : List Constant) → AreInputs P vs → TakesInputs g vs
  takes_inputs vs own = record {
    taken = λ b main. (
        let h = main_head P in
        let main_is = the_block (source P []) g number numbered known in
        let both : b ∷ [] ≡ main_is ∷ [] = sym main ∙ main_block (source P []) g number numbered known in
        let same : b ≡ main_is = cc in
        subst (λ (c : Block). AreTaken g c.entries vs) (sym same)
        (entries_take h (params_at (rows P) h) vs (λ y k. k) own));
  }

-- each graph that the schemas give a program takes the inputs of the program
pub inputs_taken : (P : Checked) → IsKnown P → (g : Parts) (vs : List Constant) → AreInputs P vs → Schemas P g
    → TakesInputs g vs
inputs_taken P known g vs own schemas = takes_inputs P known g schemas.number schemas.numbered vs own
