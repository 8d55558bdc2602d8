use Rattle.std.proofs.Common.{◌≡◌, ◌++◌, OnOk, string_bytes, subst, sym}
use Rattle.std.proofs.lemmas.Result.{on_ok_weaker}
use Rattle.id_instr.specs.declared.instr.Op.{Op}
use Rattle.id_graph.specs.Dot.{named_text, names_text, reply_text}
use Rattle.id_graph.proofs.PieceLemmas.{two_by_one}
use Rattle.id_graph.proofs.dot.write_names.Goals as goal

pub returns-in_ok-write_named-in-Enter : goal.returns-in_ok-write_named-in-Enter
returns-in_ok-write_named-in-Enter c =
    let n = c.args.number in
    subst (λ (o : Op). OnOk c.write_named-in-Enter.result (string_bytes c.write_named-in-Enter.new.out ≡ string_bytes c.args.out.now ++ names_text n o))
    (sym c.in-Enter.is) (on_ok_weaker c.write_named-in-Enter.result (two_by_one _ _ _ (named_text n c.in-Enter.block) (reply_text n c.in-Enter.reply)
    c.in_ok-write_named-in-Enter.ensures) c.write_named-in-Enter.ensures)

pub returns-in-Send : goal.returns-in-Send
returns-in-Send c =
    subst (λ (o : Op). OnOk c.write_named-in-Send.result
    (string_bytes c.write_named-in-Send.new.out ≡ string_bytes c.args.out.now ++ names_text c.args.number o)) (sym c.in-Send.is)
    c.write_named-in-Send.ensures

pub returns-in-Fetch : goal.returns-in-Fetch
returns-in-Fetch c =
    subst (λ (o : Op). OnOk c.write_named-in-Fetch.result
    (string_bytes c.write_named-in-Fetch.new.out ≡ string_bytes c.args.out.now ++ names_text c.args.number o)) (sym c.in-Fetch.is)
    c.write_named-in-Fetch.ensures
