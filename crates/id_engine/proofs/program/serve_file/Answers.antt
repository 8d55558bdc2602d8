use Rattle.std.proofs.Common.{ℕ, List, sym, subst}
use Rattle.std.specs.Prelude.{string_bytes}
use Rattle.id_sink.specs.Reading.{IsToldText, IsUnread}
use Rattle.id_engine.specs.Served.{file_of}
use Rattle.id_engine.proofs.ServedLemmas.{Drives-unread}
use Rattle.id_engine.proofs.program.serve_file.Goals as goal

pub returns-in-Ok : goal.returns-in-Ok
returns-in-Ok g c =
    let told = g.S.Source.told c.args.source.now in
    let here : IsToldText (told (file_of c.args.request.now)) (string_bytes c.in-Ok.text) =
    subst (λ (n : List ℕ). IsToldText (told n) (string_bytes c.in-Ok.text)) c.file_of.ensures c.in-Ok.ensures.text in
    c.serve_text.ensures (told (file_of c.args.request.now))
    (subst (λ (t : List ℕ). IsToldText (told (file_of c.args.request.now)) t) (sym c.as_str.ensures.value) here)

pub returns-in-Err : goal.returns-in-Err
returns-in-Err g c =
    let told = g.S.Source.told c.args.source.now in
    Drives-unread (told (file_of c.args.request.now)) _ c.args.request.now _ _ _ c.in-Err.fault c.of_source_fault.result
    c.refuse_plainly.result
    (subst (λ (n : List ℕ). IsUnread (told n) c.in-Err.fault) c.file_of.ensures c.in-Err.ensures.text)
    c.of_source_fault.ensures
    c.refuse_plainly.ensures.status c.refuse_plainly.ensures.printed
