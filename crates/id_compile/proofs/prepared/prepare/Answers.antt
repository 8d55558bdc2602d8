use Rattle.std.proofs.Common.{◌≡◌, ◌≢◌, ◌≤◌, length, map, sym, subst}
use Rattle.id_source.specs.Sources.{AreInputs}
use Rattle.id_build.specs.Rows.{size}
use Rattle.id_compile.specs.declared.error.EngineError.TheVariants.{Write}
use Rattle.id_compile.specs.Programs.{CompiledView, IsPlacedWithin, IsProgramOf}
use Rattle.id_compile.specs.Refusals.{AreRefusedFor, IsInsideOf, IsRefusedSource}
use Rattle.id_compile.specs.Refusals.IsRefusedSource.{by_text, by_words}
use Rattle.id_compile.proofs.AnsweredLemmas.{if_err, if_ok, late_words, ok_all, on_ok}
use Rattle.id_compile.proofs.prepared.prepare.Goals as goal

pub returns-in-Ok : goal.returns-in-Ok
returns-in-Ok c = record {
  text = (let Q : CompiledView → Type 0 = λ v. v.text ≡ c.args.text.now in
      if_ok c.with_inputs.result (λ p. p.compiled ≡ c.in-Ok.compiled) (λ p. Q p.compiled)
      (λ p e. subst Q (sym e) c.in-Ok.ensures.text)
      c.with_inputs.ensures.same);
  program = (let Q : CompiledView → Type 0 = λ v. IsProgramOf c.args.text.now v.checked in
      if_ok c.with_inputs.result (λ p. p.compiled ≡ c.in-Ok.compiled) (λ p. Q p.compiled)
      (λ p e. subst Q (sym e) c.in-Ok.ensures.program)
      c.with_inputs.ensures.same);
  small = (let Q : CompiledView → Type 0 = λ v. size v.checked ≤ 1000000 in
      if_ok c.with_inputs.result (λ p. p.compiled ≡ c.in-Ok.compiled) (λ p. Q p.compiled)
      (λ p e. subst Q (sym e) c.in-Ok.ensures.small)
      c.with_inputs.ensures.same);
  inputs = c.with_inputs.ensures.inputs;
  own = ok_all c.with_inputs.result (λ p. AreInputs p.compiled.checked p.inputs.values) (λ p. p.own);
  within = (let Q : CompiledView → Type 0 = λ v. IsPlacedWithin (length c.args.text.now) v.checked in
      if_ok c.with_inputs.result (λ p. p.compiled ≡ c.in-Ok.compiled) (λ p. Q p.compiled)
      (λ p e. subst Q (sym e) c.in-Ok.ensures.within)
      c.with_inputs.ensures.same);
  short = on_ok c.with_inputs.result (length c.args.text.now ≤ 1048576) c.in-Ok.ensures.short;
  refused = (let P = c.in-Ok.compiled.checked in
      let ws = map (λ w. w.now) c.args.words.now in
      if_err c.with_inputs.result (AreRefusedFor P ws) (IsRefusedSource c.args.text.now ws)
      (λ e h. by_words (record {
        program = P;
        is_program = c.in-Ok.ensures.program;
        small = c.in-Ok.ensures.small;
        refused = h;
      }))
      c.with_inputs.ensures.refused);
  inside = (let P = c.in-Ok.compiled.checked in
      let ws = map (λ w. w.now) c.args.words.now in
      if_err c.with_inputs.result (AreRefusedFor P ws) (IsInsideOf c.args.text.now) (λ e h. let l =
      late_words c.args.text.now P ws e h in l.0)
      c.with_inputs.ensures.refused);
  not_write = (let P = c.in-Ok.compiled.checked in
      let ws = map (λ w. w.now) c.args.words.now in
      if_err c.with_inputs.result (AreRefusedFor P ws) (λ e. e ≢ Write) (λ e h. let l =
      late_words c.args.text.now P ws e h in l.1)
      c.with_inputs.ensures.refused);
}

pub returns-in-Err : goal.returns-in-Err
returns-in-Err c = record {
  text = tt;
  program = tt;
  small = tt;
  inputs = tt;
  own = tt;
  within = tt;
  short = tt;
  refused = by_text _ c.in-Err.ensures.refused;
  inside = c.in-Err.ensures.inside;
  not_write = λ h. absurd cc;
}
