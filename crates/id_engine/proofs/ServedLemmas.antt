-- Requests, and how a refused one is served (specs/Asked.antt, specs/Served.antt).
use Rattle.std.proofs.Common.{◌≡◌, ◌≢◌, ℕ, List, [], ◌∷◌, length, map, get_or, arith, Option, None, Some, Result, refl}
use Rattle.std.proofs.Common.{sym, ap, subst, ◌∙◌}
use Rattle.id_sink.specs.Told.{SinkView}
use Rattle.id_args.specs.declared.request.Request.{Request}
use Rattle.id_compile.specs.declared.error.EngineError.{EngineError}
use Rattle.id_compile.specs.declared.error.EngineError.TheVariants.{Compile, MissingInput, UnknownInput, RepeatedInput}
use Rattle.id_compile.specs.declared.error.EngineError.TheVariants.{BadInput, BadElements, BadSteps, BadRounds}
use Rattle.id_compile.specs.declared.error.EngineError.TheVariants.{TooManyFacts, Memory, Write}
use Rattle.id_compile.specs.declared.refusal.Cause.{Cause}
use Rattle.id_compile.specs.declared.refusal.Detail.{Detail}
use Rattle.id_compile.specs.declared.refusal.Detail.TheVariants.{Nothing, Place, Kinds, Word}
use Rattle.id_compile.specs.declared.refusal.Refusal.{Refusal}
use Rattle.id_sink.specs.declared.source.SourceFault.{SourceFault}
use Rattle.id_sink.specs.Reading.{IsToldText, IsUnread}
use Rattle.id_log.specs.declared.log.LogFault.{LogFault}
use Rattle.id_log.specs.Logs.{Ahead, Hears, MayBreak}
use Rattle.id_merge.specs.Merging.{logs_ahead, merged_ahead}
use Rattle.id_args.specs.declared.request.Request.TheVariants as asks
use Rattle.id_engine.specs.Asked.{IsToJudge}
use Rattle.id_engine.proofs.HearLemmas.{hears_any, hears_map}
use Rattle.id_engine.specs.Commands.{ShowsAll, ShowsFront}
use Rattle.id_compile.specs.Refusals.{compiler_refusal, IsDetailInside, IsInsideOf, IsPrintedLine, IsToldRefusal}
use Rattle.id_compile.specs.Refusals.{IsWord, Tells, plain, row_of, source_cause}
use Rattle.id_engine.specs.Served.{command_of, log_fault, logs_of, words_of, IsRefusedRequest, IsRun, IsRunFront}
use Rattle.id_engine.specs.Served.{IsTaken, Serves, done, refused, Drives, DrivesBy, DrivesWith, broken, heard}
use Rattle.id_engine.specs.Served.Drives.{served, unread}
use Rattle.id_engine.specs.Served.Serves.{cut}

-- ---- errors

word_inside : (text : List ℕ) (o : Option (List ℕ)) (d : Detail) → IsWord o d → IsDetailInside text d
word_inside text o Nothing h = tt
word_inside text o (Place at) h = absurd h
word_inside text o (Kinds at wanted found) h = absurd h
word_inside text o (Word w) h = tt

plain_inside : (text : List ℕ) (r s : Refusal) → IsDetailInside text s.detail → r ≡ s → IsDetailInside text r.detail
plain_inside text r s h e = subst (λ (x : Refusal). IsDetailInside text x.detail) (sym e) h

-- what is told of an error lies in the text where the error does
pub told_inside : (text : List ℕ) (ws : List (List ℕ)) (e : EngineError) (r : Refusal) → Tells ws e r
    → IsInsideOf text e → IsDetailInside text r.detail
told_inside text ws (Compile x) r t h = plain_inside text r (compiler_refusal x) h t
told_inside text ws (MissingInput x) r t h = word_inside text _ r.detail t.1
told_inside text ws (UnknownInput j) r t h = word_inside text _ r.detail t.1
told_inside text ws (RepeatedInput j) r t h = word_inside text _ r.detail t.1
told_inside text ws (BadInput j) r t h = word_inside text _ r.detail t.1
told_inside text ws BadElements r t h = plain_inside text r _ tt t
told_inside text ws BadSteps r t h = plain_inside text r _ tt t
told_inside text ws BadRounds r t h = plain_inside text r _ tt t
told_inside text ws TooManyFacts r t h = plain_inside text r _ tt t
told_inside text ws Memory r t h = plain_inside text r _ tt t
told_inside text ws Write r t h = plain_inside text r _ tt t

-- an error is told by its line and its status
pub Serves-error : (text bytes : List ℕ) (r : Request) (out out' err err' : SinkView) (e : EngineError) (n : ℕ) →
    (e ≡ Write → ShowsFront (command_of bytes r) text out out') → (e ≡ Write → IsRunFront text r out out')
    → (e ≢ Write → out' ≡ out) → IsRefusedRequest text r e → IsToldRefusal text (words_of r) e err err' n
    → Serves text bytes r out out' err err' n
Serves-error text bytes r out out' err err' (Compile x) n front made silent why told =
    let d : Compile x ≢ Write = λ h. absurd cc in refused _ d why (silent d) told
Serves-error text bytes r out out' err err' (MissingInput x) n front made silent why told =
    let d : MissingInput x ≢ Write = λ h. absurd cc in
    refused _ d why (silent d) told
Serves-error text bytes r out out' err err' (UnknownInput j) n front made silent why told =
    let d : UnknownInput j ≢ Write = λ h. absurd cc in
    refused _ d why (silent d) told
Serves-error text bytes r out out' err err' (RepeatedInput j) n front made silent why told =
    let d : RepeatedInput j ≢ Write = λ h. absurd cc in
    refused _ d why (silent d) told
Serves-error text bytes r out out' err err' (BadInput j) n front made silent why told =
    let d : BadInput j ≢ Write = λ h. absurd cc in refused _ d why (silent d) told
Serves-error text bytes r out out' err err' BadElements n front made silent why told =
    let d : BadElements ≢ Write = λ h. absurd cc in refused _ d why (silent d) told
Serves-error text bytes r out out' err err' BadSteps n front made silent why told =
    let d : BadSteps ≢ Write = λ h. absurd cc in refused _ d why (silent d) told
Serves-error text bytes r out out' err err' BadRounds n front made silent why told =
    let d : BadRounds ≢ Write = λ h. absurd cc in refused _ d why (silent d) told
Serves-error text bytes r out out' err err' TooManyFacts n front made silent why told =
    let d : TooManyFacts ≢ Write = λ h. absurd cc in refused _ d why (silent d) told
Serves-error text bytes r out out' err err' Memory n front made silent why told =
    let d : Memory ≢ Write = λ h. absurd cc in refused _ d why (silent d) told
Serves-error text bytes r out out' err err' Write n front made silent why told = cut (front refl) (made refl) told

-- a source's fault is refused
pub Drives-unread : (told : Option (Result (List ℕ) SourceFault)) (logs : List ℕ → Option Ahead) (r : Request)
    (out err err' : SinkView) (fault : SourceFault) (x : Cause) (n : ℕ) →
    IsUnread told fault
    → x ≡ source_cause fault → n ≡ (row_of x).2 → IsPrintedLine [] (plain x) err err'
    → Drives told logs r out out err err' n
Drives-unread told logs r out err err' fault x n h is status printed =
    let line : IsPrintedLine [] (plain (source_cause fault)) err err' =
    subst (λ (y : Cause). IsPrintedLine [] (plain y) err err') is printed in
    subst (λ (k : ℕ). Drives told logs r out out err err' k) (sym (status ∙ ap (λ (y : Cause). (row_of y).2) is))
    (unread fault h refl line)

-- and so is that of a log
pub DrivesBy-broken : (text : List ℕ) (a : Option Ahead) (r : Request) (out out' err err' : SinkView) (fault : LogFault)
    (y : SourceFault) (x : Cause)
    (n : ℕ) → MayBreak a fault → y ≡ log_fault fault → x ≡ source_cause y → n ≡ (row_of x).2 → out' ≡ out
    → IsPrintedLine [] (plain x) err err'
    → DrivesBy text a r out out' err err' n
DrivesBy-broken text a r out out' err err' fault y x n h from is status silent printed =
    let same : x ≡ source_cause (log_fault fault) = is ∙ ap source_cause from in
    let line : IsPrintedLine [] (plain (source_cause (log_fault fault))) err err' =
    subst (λ (z : Cause). IsPrintedLine [] (plain z) err err') same printed in
    subst (λ (k : ℕ). DrivesBy text a r out out' err err' k) (sym (status ∙ ap (λ (z : Cause). (row_of z).2) same))
    (broken fault h silent line)

-- ---- a log

-- a request that names logs asks to judge them
pub asks_to_judge : (r : Request) (name : List (List ℕ)) → Some name ≡ logs_of r → IsToJudge r
asks_to_judge (asks.Check file) name is = absurd cc
asks_to_judge (asks.Graph file) name is = absurd cc
asks_to_judge (asks.Draw file) name is = absurd cc
asks_to_judge (asks.Run file inputs count trace steps order names) name is = absurd cc
asks_to_judge (asks.Facts file rounds inputs) name is = absurd cc
asks_to_judge (asks.Why file rounds inputs) name is = absurd cc
asks_to_judge (asks.Judge file logs inputs count names) name is = tt

-- a failed write is told of all that a log may have
pub hears_cut : (a : Option Ahead) (P : List ℕ → Type 0) (e : EngineError) → (e ≡ Write → Hears a P)
    → Hears a (λ bytes. e ≡ Write → P bytes)
hears_cut a P (Compile x) h = hears_any a _ (λ bytes w. absurd cc)
hears_cut a P (MissingInput x) h = hears_any a _ (λ bytes w. absurd cc)
hears_cut a P (UnknownInput j) h = hears_any a _ (λ bytes w. absurd cc)
hears_cut a P (RepeatedInput j) h = hears_any a _ (λ bytes w. absurd cc)
hears_cut a P (BadInput j) h = hears_any a _ (λ bytes w. absurd cc)
hears_cut a P BadElements h = hears_any a _ (λ bytes w. absurd cc)
hears_cut a P BadSteps h = hears_any a _ (λ bytes w. absurd cc)
hears_cut a P BadRounds h = hears_any a _ (λ bytes w. absurd cc)
hears_cut a P TooManyFacts h = hears_any a _ (λ bytes w. absurd cc)
hears_cut a P Memory h = hears_any a _ (λ bytes w. absurd cc)
hears_cut a P Write h = hears_map a P _ (λ bytes p w. p) (h refl)

-- what is so of the logs that a request names
pub Drives-by : (told : Option (Result (List ℕ) SourceFault)) (logs : List ℕ
    → Option Ahead) (r : Request) (text : List ℕ) (out out' err err' : SinkView)
    (n : ℕ) (name : List (List ℕ)) → Some name ≡ logs_of r → IsToldText told text
    → DrivesBy text (logs_ahead logs name) r out out' err err' n
    → Drives told logs r out out' err err' n
Drives-by told logs r text out out' err err' n name is text_is by =
    served text text_is
    (subst (λ (file : Option (List (List ℕ))). DrivesWith logs file text r out out' err err' n) is by)

-- and where it names none
pub Drives-served : (told : Option (Result (List ℕ) SourceFault)) (logs : List ℕ
    → Option Ahead) (r : Request) (text : List ℕ)
    (out out' err err' : SinkView) (n : ℕ) → None ≡ logs_of r → IsToldText told text
    → Serves text [] r out out' err err' n
    → Drives told logs r out out' err err' n
Drives-served told logs r text out out' err err' n is text_is serves =
    served text text_is
    (subst (λ (file : Option (List (List ℕ))). DrivesWith logs file text r out out' err err' n) is serves)

-- one log has ahead what it has
pub logs_ahead-one : {X : Type 0} (f : X → List ℕ) (told : List ℕ → Option Ahead) (names : List X) (d : X)
    → length names ≡ 1 → told (f (get_or names 0 d)) ≡ logs_ahead told (map f names)
logs_ahead-one f told [] d one = absurd cc
logs_ahead-one f told (n ∷ []) d one = refl
logs_ahead-one f told (n ∷ m ∷ names) d one = absurd (omega (arith, one))

-- and several what they come to
pub logs_ahead-several : {X : Type 0} (f : X → List ℕ) (told : List ℕ → Option Ahead) (names : List X)
    → (length names ≡ 1 → ⊥) → merged_ahead None (map (λ n. told (f n)) names) ≡ logs_ahead told (map f names)
logs_ahead-several f told [] several = refl
logs_ahead-several f told (n ∷ []) several = absurd (several refl)
logs_ahead-several {X = X} f told (n ∷ m ∷ names) several =
    ap (λ os. merged_ahead None (told (f n) ∷ told (f m) ∷ os)) (each names)
  where
    each : (ns : List X) → map (λ n. told (f n)) ns ≡ map told (map f ns)
    each [] = refl
    each (n ∷ ns) = ap (λ os. told (f n) ∷ os) (each ns)

-- a log is judged, and what comes of that is printed
pub DrivesBy-heard : (text : List ℕ) (a : Option Ahead) (r : Request) (out out' err : SinkView) (n : ℕ)
    → Hears a (λ bytes. ShowsAll (command_of bytes r) text out out' n) → IsTaken text r → IsRun text r out out' n
    → DrivesBy text a r out out' err err n
DrivesBy-heard text a r out out' err n h taken ran =
    heard (hears_map a _ _ (λ bytes shown. done shown taken ran refl) h)

-- or refused
pub DrivesBy-refused : (text : List ℕ) (a : Option Ahead) (r : Request) (out out' err err' : SinkView) (e : EngineError)
    (n : ℕ) → (e ≡ Write → Hears a (λ bytes. ShowsFront (command_of bytes r) text out out'))
    → (e ≡ Write → IsRunFront text r out out')
    → (e ≢ Write → out' ≡ out) → IsRefusedRequest text r e → IsToldRefusal text (words_of r) e err err' n
    → DrivesBy text a r out out' err err' n
DrivesBy-refused text a r out out' err err' e n front made silent why told =
    heard (hears_map a _ _ (λ bytes cut_so. Serves-error text bytes r out out' err err' e n cut_so made silent why told)
    (hears_cut a _ e front))
