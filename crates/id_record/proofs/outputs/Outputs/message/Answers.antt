-- The message of a number is that of the payload of this number: of what is fired, or of a reply behind it.
use Rattle.std.proofs.Common.{◌≡◌, ◌+◌, ◌-◌, ◌++◌, length, length-append, ap, sym, ◌∙◌, Some, arith}
use Rattle.std.specs.Prelude.{slice_get}
use Rattle.id_record.specs.Sends.{replies, sent}
use Rattle.id_record.proofs.SendsLemmas.{get-before, get-behind, length-numbered, length-replies, numbered-get, numbered_as}
use Rattle.id_record.proofs.outputs.Outputs.message.Goals as goal
use Rattle.id_record.proofs.outputs.Outputs.message.Goals.{then-number-fired, else-number-fired}

pub payload-said-requires-clause-number : goal.payload-said-requires-clause-number
payload-said-requires-clause-number c = rw (← c.count_sent-fired.ensures) c.if-number-fired.true

pub reply-said-requires : goal.reply-said-requires
reply-said-requires c =
    let o = c.self.inside in
    let fired = sent o.op o.dests.now o.tag o.fired in
    let behind = replies o.value o.readers.now in
    omega (
      arith,
      ap length c.self.view_is,
      length-numbered o.envelope.number o.envelope.position o.envelope.stamp 0 (fired ++ behind),
      length-append fired behind,
      length-replies o.value o.readers.now,
      c.count_sent-fired.ensures,
      c.if-number-fired.false,
      c.requires,
    )

pub returns : goal.returns
returns c =
    let o = c.self.inside in
    let e = o.envelope in
    let fired = sent o.op o.dests.now o.tag o.fired in
    let behind = replies o.value o.readers.now in
    let said : slice_get (fired ++ behind) c.args.number ≡ Some c.if-number-fired.said =
    elim c.if-number-fired.branch [
      | then-number-fired w ↦ get-before fired behind c.args.number c.if-number-fired.said (w.payload-said.ensures ∙ ap (λ x. Some x) (sym w.said-is))
      | else-number-fired w ↦
          let at : c.args.number ≡ length fired + (c.args.number - c.count_sent-fired.result) = omega
          (arith, w.if-number-fired.false, c.count_sent-fired.ensures) in
          get-behind fired behind c.args.number _ at ∙ w.reply-said.ensures ∙ ap (λ x. Some x) (sym w.said-is)
    ] in
    let number : 0 + c.args.number ≡ c.args.number = omega arith in
    ap (λ ms. slice_get ms c.args.number) (sym c.self.view_is)
    ∙ numbered-get e.number e.position e.stamp 0 (fired ++ behind) c.args.number c.if-number-fired.said said
    ∙ ap (λ j. Some (numbered_as e.number e.position e.stamp j c.if-number-fired.said)) number
    ∙ ap (λ m. Some m) (sym c.message.ensures)
