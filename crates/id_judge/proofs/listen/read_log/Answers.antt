-- A piece more is read, and the lines of it; or one of them is the first that can't follow, or the log is over.
use Rattle.std.proofs.Common.{◌≡◌, true, subst}
use Rattle.std.specs.Prelude.{IfErr, IfOk}
use Rattle.id_judge.specs.Judging.{IsReady}
use Rattle.id_judge.specs.Listening.{ReadsFront, RefusesBefore}
use Rattle.id_judge.proofs.HearLemmas.{all_heard, lines_heard, none_left, piece_heard, wrong_heard}
use Rattle.id_judge.proofs.listen.read_log.Goals as goal

pub returns-in-Err-clause-refuses : goal.returns-in-Err-clause-refuses
returns-in-Err-clause-refuses g c =
    let mid = c.loop.judge in
    let bytes = c.read_on.new.bytes.items in
    let over = c.in_ok-over.over in
    let k = c.read_ready.new.judge.lines in
    let piece = c.in_ok-over.ensures.reads in
    let heard =
    piece_heard (g.L.Log.ahead c.args.log.now) (g.L.Log.ahead c.loop.log) (g.L.Log.ahead c.read_on.new.log)
    c.args.judge.now mid
    c.loop.bytes.items bytes over c.loop.invariant.1 piece in
    let refused : RefusesBefore mid c.as_slice.result.now over k c.in-Err.cause =
    subst (λ r. IfErr r (RefusesBefore mid c.as_slice.result.now over k)) c.in-Err.is c.in_ok-left.ensures.refuses in
    wrong_heard (g.L.Log.ahead c.args.log.now) (g.L.Log.ahead c.read_on.new.log) c.args.judge.now mid bytes over k
    c.in-Err.cause heard piece.is_over
    (subst (λ t. RefusesBefore mid t over k c.in-Err.cause) c.as_slice.ensures.value refused)

pub returns-then-over-clause-heard : goal.returns-then-over-clause-heard
returns-then-over-clause-heard g c =
    let mid = c.loop.judge in
    let new = c.read_ready.new.judge in
    let bytes = c.read_on.new.bytes.items in
    let left = c.keep_last.new.bytes.items in
    let many = c.in-Ok.left in
    let over = c.in_ok-over.over in
    let piece = c.in_ok-over.ensures.reads in
    let heard =
    piece_heard (g.L.Log.ahead c.args.log.now) (g.L.Log.ahead c.loop.log) (g.L.Log.ahead c.read_on.new.log)
    c.args.judge.now mid
    c.loop.bytes.items bytes over c.loop.invariant.1 piece in
    let front : ReadsFront mid c.as_slice.result.now many new =
    subst (λ r. IfOk r (λ n. ReadsFront mid c.as_slice.result.now n new)) c.in-Ok.is c.in_ok-left.ensures.reads in
    let none : over ≡ true → many ≡ 0 =
    subst (λ r. IfOk r (λ n. over ≡ true → n ≡ 0)) c.in-Ok.is c.in_ok-left.ensures.all in
    let behind =
    lines_heard (g.L.Log.ahead c.args.log.now) (g.L.Log.ahead c.read_on.new.log) c.args.judge.now mid new bytes left
    many heard
    (subst (λ t. ReadsFront mid t many new) c.as_slice.ensures.value front) c.keep_last.ensures in
    all_heard (g.L.Log.ahead c.args.log.now) (g.L.Log.ahead c.read_on.new.log) c.args.judge.now new left behind
    (none_left bytes left many (none c.if-over.true) c.keep_last.ensures) (piece.is_over c.if-over.true)

pub loop-preserved : goal.loop-preserved
loop-preserved g c =
    let mid = c.loop.judge in
    let new = c.read_ready.new.judge in
    let bytes = c.read_on.new.bytes.items in
    let many = c.in-Ok.left in
    let heard =
    piece_heard (g.L.Log.ahead c.args.log.now) (g.L.Log.ahead c.loop.log) (g.L.Log.ahead c.read_on.new.log)
    c.args.judge.now mid
    c.loop.bytes.items bytes c.in_ok-over.over c.loop.invariant.1 c.in_ok-over.ensures.reads in
    let ready : IsReady new = subst (λ r. IfOk r (λ n. IsReady new)) c.in-Ok.is c.in_ok-left.ensures.ready in
    let front : ReadsFront mid c.as_slice.result.now many new =
    subst (λ r. IfOk r (λ n. ReadsFront mid c.as_slice.result.now n new)) c.in-Ok.is c.in_ok-left.ensures.reads in (
      ready,
      lines_heard (g.L.Log.ahead c.args.log.now) (g.L.Log.ahead c.read_on.new.log) c.args.judge.now mid new bytes
          c.keep_last.new.bytes.items many heard
          (subst (λ t. ReadsFront mid t many new) c.as_slice.ensures.value front) c.keep_last.ensures,
    )
