-- Round after round: each learns what follows from the news of the one before.
use Rattle.std.proofs.Common.{◌≡◌, inl, inr, ℕ, zero, suc, ◌+◌, ◌-◌, ◌≤◌, ◌<◌, List, [], ◌∷◌, ◌++◌, length, drop, take}
use Rattle.std.proofs.Common.{refl, ap, sym, ◌∙◌, subst, arith}
use Rattle.std.proofs.Math.Seq.{drop-append_seam}
use Rattle.std.proofs.lemmas.List.{append-nil, length-append, length-drop, nil_from_length, take_all}
use Rattle.std.specs.Prelude.{Result, Ok, Err, IfErr, IsErrAnd}
use Rattle.id_value.specs.List.{Among}
use Rattle.id_value.proofs.AmongLemmas.{Among-left, Among-right}
use Rattle.id_check.specs.declared.checked.Checked.{Checked}
use Rattle.id_check.specs.Programs.{place, rows}
use Rattle.id_source.specs.declared.Fact.{Fact}
use Rattle.id_source.specs.declared.Fact.TheVariants as fact
use Rattle.id_source.specs.declared.Path.{Path}
use Rattle.id_facts.specs.declared.cells.Cells.{Cells}
use Rattle.id_facts.specs.declared.facts.RowFact.{RowFact}
use Rattle.id_facts.specs.declared.facts.RowFact.TheVariants.{Has}
use Rattle.id_facts.specs.declared.facts.RowValue.{RowValue}
use Rattle.id_facts.specs.declared.facts.Trail.TheVariants.{Below}
use Rattle.id_source.specs.declared.links.Links.{Links}
use Rattle.id_facts.specs.declared.queues.Queues.{Queues}
use Rattle.id_meaning.specs.declared.round.RoundsError.{RoundsError}
use Rattle.id_meaning.specs.declared.round.RoundsError.TheVariants.{BadRounds, TooManyFacts, Memory}
use Rattle.id_meaning.specs.Read.{AreRead, Read}
use Rattle.id_source.specs.Sources.{Source}
use Rattle.id_source.specs.Rounds.{Every, Rounds}
use Rattle.id_source.specs.Computed.{HasMoreFacts}
use Rattle.id_source.specs.Links.{AreArgs, AreReads, AreTurns}
use Rattle.id_facts.specs.Cells.{AddsFacts, AreChained, items}
use Rattle.id_facts.specs.RowFacts.{AreBefore, all_learnt, fact_at, path_of, row_of}
use Rattle.id_meaning.specs.Effects.{all_effects}
use Rattle.id_facts.specs.Firsts.{first_facts}
use Rattle.id_facts.specs.Listed.{IsRound, fact_of, path_at, value_at}
use Rattle.id_facts.specs.Queues.{width}
use Rattle.id_facts.specs.Waits.{AreWaits, Waits}
use Rattle.id_meaning.specs.Following.{Goes}
use Rattle.id_meaning.specs.Following.{AreFirst, FollowsNews, IsFewRound, IsFresh, IsStop, StartsWith, news_behind}
use Rattle.id_meaning.proofs.AllFollowLemmas.{all-follow}
use Rattle.id_meaning.proofs.KnownLemmas.{among-inside}
use Rattle.id_meaning.proofs.GivenLemmas.{all-effects-only}
use Rattle.id_meaning.proofs.LearnLemmas.{Arises, arises-old-or-new, first-all, first-arises, first-round}
use Rattle.id_facts.proofs.LearntLemmas.{Learns}
use Rattle.id_facts.proofs.LearntLemmas.{learns-so}
use Rattle.id_meaning.proofs.LearnLemmas.{learnt-has, learnt-kept, learnt-part, learnt-round, none-round}
use Rattle.id_meaning.proofs.ListedLemmas.{more-facts, part}
use Rattle.id_source.proofs.NumbersLemmas.{last-number}
use Rattle.id_facts.proofs.PathsLemmas.{path-below}
use Rattle.id_facts.proofs.WaitsLemmas.{AreWaits-more}

-- ---- where nothing is news

-- where two rounds have the same facts, the next one has them, too
once-more : (S : Source) (k : ℕ) (fs : List RowFact) → IsRound S k fs → IsRound S (suc k) fs
    → IsRound S (suc (suc k)) fs
once-more S k fs a b = record { all = all; only = λ g h. inl (b.only g h); found = b.found }
  where
    back : (f : Fact) → Rounds S (suc k) f → Rounds S k f
    back f h = let r = b.all f h in let F : Fact → Type 0 = λ g. Rounds S k g in subst F (sym r.2) (a.only r.0 r.1)

    each : (ps : List Fact) → Every (Rounds S (suc k)) ps → Every (Rounds S k) ps
    each [] h = tt
    each (p ∷ ps) h = (back p h.0, each ps h.1)

    all : (f : Fact) → Rounds S (suc (suc k)) f → (g : RowFact) × Among g fs × (f ≡ fact_of S.checked fs g)
    all f (inl h) = b.all f h
    all f (inr h) = b.all f (inr (h.0, h.1, each h.0 h.2))

-- and each later one
pub still : (S : Source) (d k : ℕ) (fs : List RowFact) → IsRound S k fs → IsRound S (suc k) fs
    → IsRound S (d + suc k) fs
still S zero k fs a b =
    let e : 0 + suc k ≡ suc k = omega arith in
    let P : ℕ → Type 0 = λ n. IsRound S n fs in
    subst P (sym e) b
still S (suc d) k fs a b =
    let e : d + suc (suc k) ≡ suc d + suc k = omega arith in
    let P : ℕ → Type 0 = λ n. IsRound S n fs in
    subst P e (still S d (suc k) fs b (once-more S k fs a b))

-- ---- the numbers of iterations

-- in a round no iteration has a number above that of the round
few-numbers : (S : Source) (r : ℕ) (fs : List RowFact) → IsRound S r fs → r < 18446744073709551615
    → (i k n : ℕ) (v : RowValue) → Among (Has (Below i k) n v) fs
    → k < 18446744073709551615
few-numbers S r fs s small i k n v h =
    let P = S.checked in
    let p = path_of (fact_at fs i) in
    let m = row_of (fact_at fs i) in
    let F : Path → Type 0 = λ q. Rounds S r (fact.Has q (place P n) (value_at P fs v)) in
    let e = path-below P fs s.found.before i p m k refl refl in
    let l = last-number S r (path_at P fs p) (place P m) k (place P n) (value_at P fs v)
    (subst F e (s.only (Has (Below i k) n v) h)) in
    omega arith

-- ---- round after round

-- the list without its first d
behind-all : (d : ℕ) (fs ns : List RowFact) → ns ≡ take (length fs - d) (drop d fs) → ns ≡ drop d fs
behind-all d fs ns e = let l = length-drop d fs in e ∙ take_all (length fs - d) (drop d fs) (omega arith)

-- the facts are those of round r, and those followed are those of the one before, from which all that follows is there
pub record Front (S : Source) (r : ℕ) (a : Read) (fs : List RowFact) : Type 0 where
  pub before : ℕ
  pub next : suc before ≡ r
  pub news : List RowFact
  pub parts : fs ≡ items a.cells ++ news
  pub program : a.checked ≡ S.checked
  pub old : IsRound S before (items a.cells)
  pub now : IsRound S r fs
  pub all : (x : RowFact) → Arises S (items a.cells) x → Among x fs
  pub few : length fs ≤ 1000000

-- after the first round, the facts are those that follow from none
module _ (S : Source) (fs : List RowFact) where
  pub first-more : fs ≡ all_learnt [] (first_facts S.checked S.inputs) → 1000000 < length fs → HasMoreFacts S 1 1000000
  first-more whole m = more-facts S 1 1 1000000 fs (part S 1 fs (first-round S fs whole)) (omega arith) m

  pub first-front : (a : Read) → IsFresh S.checked a → AreFirst S.checked S.inputs fs → Front S 1 a fs
  first-front a fresh f =
      let z = fresh.none in
      let n = none-round S in
      let start = learns-so [] fs (first_facts S.checked S.inputs) f.facts in
      let arisen : (x : RowFact) → Arises S [] x → Among x fs =
      λ x h. learnt-has S 0 [] fs (first_facts S.checked S.inputs) n (first-arises S) start x (first-all S x h) in
      let R : List RowFact → Type 0 = λ y. IsRound S 0 y in
      record {
        before = 0;
        next = refl;
        news = fs;
        parts = ap (λ y. y ++ fs) (sym z);
        program = fresh.program;
        old = subst R (sym z) n;
        now = first-round S fs f.facts;
        all = λ x h. arisen x (let F : List RowFact → Type 0 = λ y. Arises S y x in subst F z h);
        few = f.few;
      }

-- where what follows from the news is learnt
module _ (S : Source) (r : ℕ) (a : Read) (fs : List RowFact) (f : Front S r a fs) where
  news-are : news_behind a fs ≡ f.news
  news-are = ap (λ y. drop (length (items a.cells)) y) f.parts ∙ drop-append_seam (items a.cells) f.news

  pub front-starts : StartsWith (items a.cells) fs
  front-starts = f.parts ∙ ap (λ y. items a.cells ++ y) (sym news-are)

  pub front-round : (n : ℕ) → r ≡ n → IsFewRound S n fs
  front-round n e = let N : ℕ → Type 0 = λ k. IsRound S k fs in record { round = subst N e f.now; few = f.few }

  -- where nothing is news, the facts are those of each later round
  pub front-rest : (n : ℕ) → r ≤ n → length (items a.cells) ≡ length fs → IsFewRound S n fs
  front-rest n m e =
      let j = f.next in
      let q : n - suc f.before + suc f.before ≡ n = omega (arith, j) in
      let h = ap length f.parts in
      let k = length-append (items a.cells) f.news in
      let none : f.news ≡ [] = nil_from_length f.news (omega arith) in
      let same : items a.cells ≡ fs =
      sym (append-nil (items a.cells)) ∙ ap (λ y. items a.cells ++ y) (sym none) ∙ sym f.parts in
      let R : List RowFact → Type 0 = λ y. IsRound S f.before y in
      let N : ℕ → Type 0 = λ k. IsRound S k fs in
      record {
        round = subst N q (still S (n - suc f.before) f.before fs (subst R same f.old) (subst N (sym j) f.now));
        few = f.few;
      }

  module _ (small : r < 18446744073709551615) (b : Read) (ds : List RowFact) (g : FollowsNews a b fs ds) where
    items-are : items b.cells ≡ fs
    items-are = g.follows.facts

    program : b.checked ≡ S.checked
    program = g.follows.program ∙ f.program

    now : IsRound S r (items b.cells)
    now = let R : List RowFact → Type 0 = λ y. IsRound S r y in subst R (sym items-are) f.now

    turns : AreTurns (rows S.checked) b.links.turns
    turns = let F : Checked → Type 0 = λ P. AreTurns (rows P) b.links.turns in subst F program g.kept.turns

    reads : AreReads S.checked b.links.reads
    reads = let F : Checked → Type 0 = λ P. AreReads P b.links.reads in subst F program g.kept.reads

    args : AreArgs S.checked b.links.args
    args = let F : Checked → Type 0 = λ P. AreArgs P b.links.args in subst F program g.kept.args

    waiting : AreWaits S.checked b.links (items b.cells) b.waits
    waiting = let F : Checked → Type 0 = λ P. AreWaits P b.links (items b.cells) b.waits in subst F program g.kept.waits

    abbrev effects : List RowFact → List RowFact
    effects gs = all_effects S.checked b.links b.waits b.cells gs

    learned : ds ≡ all_learnt fs (effects g.goes.front)
    learned =
        let F : Checked → Type 0 = λ P. ds ≡ all_learnt fs (all_effects P b.links b.waits b.cells g.goes.front) in
        subst F program g.goes.facts

    front-parts : f.news ≡ g.goes.front ++ g.goes.rest
    front-parts = sym (ap (λ y. news_behind a y) items-are ∙ news-are) ∙ g.goes.parts

    is-there : (x : RowFact) → Among x g.goes.front → Among x (items b.cells)
    is-there x h =
        let F : List RowFact → Type 0 = λ y. Among x y in
        subst F (sym (items-are ∙ f.parts))
        (Among-right x (items a.cells) f.news (subst F (sym front-parts) (Among-left x g.goes.front g.goes.rest h)))

    rises : (x : RowFact) → Among x (effects g.goes.front) → Arises S fs x
    rises x h =
        let y = all-effects-only S b.links b.waits b.cells g.kept.chained turns now.found g.goes.front is-there x h in
        let F : List RowFact → Type 0 = λ z. Arises S z x in
        let a : Arises S (items b.cells) x = record { premises = y.premises; rule = y.rule; known = y.known } in
        subst F items-are a

    learns : Learns fs ds (effects g.goes.front)
    learns = learns-so fs ds (effects g.goes.front) learned

    pub front-more : (m : ℕ) → r < m → 1000000 < length ds → HasMoreFacts S m 1000000
    front-more m k h =
        more-facts S (suc r) m 1000000 ds (learnt-part S r fs ds (effects g.goes.front) f.now rises learns)
        (omega arith) h

    -- where all news have been followed, all that follows is there
    module _ (done-all : g.goes.rest ≡ []) where
      all-news : f.news ≡ g.goes.front
      all-news = front-parts ∙ ap (λ y. g.goes.front ++ y) done-all ∙ append-nil g.goes.front

      arisen : (x : RowFact) → Arises S (items b.cells) x → Among x ds
      arisen x h =
          elim (arises-old-or-new S (items a.cells) (items b.cells) f.news (items-are ∙ f.parts) f.old.found.before
          now.found.apart x h) [
            | inl o ↦ learnt-kept S r fs ds (effects g.goes.front) f.now rises learns x (f.all x o)
            | inr o ↦
                let F : List RowFact → Type 0 = λ y. Among o.0 y in
                let few = few-numbers S r (items b.cells) now small in
                let e =
                all-follow S b.links b.waits b.cells g.kept.chained now.found turns reads args waiting few h.rule
                h.known
                o.0 o.1 g.goes.front (subst F all-news o.2) in
                learnt-has S r fs ds (effects g.goes.front) f.now rises learns x e
          ]

      round-next : IsRound S (suc r) ds
      round-next =
          let F : RowFact → List RowFact → Type 0 = λ x y. Arises S y x in
          learnt-round S r fs ds (effects g.goes.front) f.now rises learns
          (λ x a. arisen x (subst (F x) (sym items-are) a))

    pub front-next : (m : ℕ) → m ≡ suc r → length ds ≤ 1000000 → Front S m b ds
    front-next m q few = elim g.goes.done [
      | inl z ↦
          let N : ℕ → Type 0 = λ y. IsRound S y ds in
          record {
            before = r;
            next = sym q;
            news = learns.news;
            parts = learns.grows ∙ ap (λ y. y ++ learns.news) (sym items-are);
            program = program;
            old = now;
            now = subst N (sym q) (round-next z);
            all = arisen z;
            few = few;
          }
      | inr z ↦ absurd (omega arith)
    ]

-- ---- how a run ends

-- want of memory is a reason to stop
pub stop-memory : {A : Type 0} → (S : Source) (n : ℕ) (r : Result A RoundsError) → IsErrAnd r (λ e. e ≡ Memory)
    → IfErr r (IsStop S n)
stop-memory S n (Ok a) is = tt
stop-memory S n (Err e) is = let F : RoundsError → Type 0 = λ y. IsStop S n y in subst F (sym is) tt

-- a reason to stop before round m is one before each later round
pub stop-later : (S : Source) (m n : ℕ) → m ≤ n → (e : RoundsError) → IsStop S m e → IsStop S n e
stop-later S m n l BadRounds h = h
stop-later S m n l TooManyFacts h =
    let w = h.up_to in
    record { round = h.round; up_to = omega arith; facts = h.facts; only = h.only; once = h.once; more = h.more }
stop-later S m n l Memory h = tt

-- what a reason to stop is not, and what it is
pub stop-asked : (S : Source) (n : ℕ) (e : RoundsError) → IsStop S n e → e ≡ BadRounds → ⊥
stop-asked S n e h is = let F : RoundsError → Type 0 = λ y. IsStop S n y in subst F is h

pub stop-many : (S : Source) (n : ℕ) (e : RoundsError) → IsStop S n e → e ≡ TooManyFacts → HasMoreFacts S n 1000000
stop-many S n e h is = let F : RoundsError → Type 0 = λ y. IsStop S n y in subst F is h

-- what follows from the facts of the cells behind the first d
pub goes-behind : (r : Read) (d : ℕ) (xs fs ds : List RowFact) → xs ≡ items r.cells
    → Goes r (take (length xs - d) (drop d xs)) fs ds → Goes r (drop d (items r.cells)) fs ds
goes-behind r d xs fs ds e g =
    let F : List RowFact → Type 0 = λ y. Goes r y fs ds in
    subst F (behind-all d xs _ refl ∙ ap (λ y. drop d y) e) g

-- where none have been followed, all is kept
pub read-none : (P : Checked) (l : Links) (c : Cells) (W : Queues) → AreTurns (rows P) l.turns → AreReads P l.reads
    → AreArgs P l.args → AreChained c → items c ≡ [] → width W ≡ 65536
    → AreRead (record { checked = P; links = l; waits = W; cells = c })
read-none P l c W turns reads args chained z wide = record {
  turns = turns;
  reads = reads;
  args = args;
  before = (let F : List RowFact → Type 0 = λ y. AreBefore y in subst F (sym z) (λ i h. absurd (omega arith)));
  chained = chained;
  waits = record {
    wide = wide;
    all = λ g p m u on h. absurd (let F : List RowFact → Type 0 = λ y. Among g y in let b : ⊥ = subst F z on in b);
  };
}

-- where the news are added, and what waits by them, all is kept
pub read-more : (P : Checked) (l : Links) (c e : Cells) (V W : Queues) (d : ℕ) (fs xs : List RowFact)
    → AreRead (record { checked = P; links = l; waits = V; cells = c }) → StartsWith (items c) fs → AreBefore fs
    → d ≡ length (items c) → xs ≡ fs
    → AddsFacts c e (take (length xs - d) (drop d xs)) → Waits P l (items e) V W (take (length xs - d) (drop d xs))
    → AreRead (record { checked = P; links = l; waits = W; cells = e })
read-more P l c e V W d fs xs a front before k same h w =
    let ns = drop (length (items c)) fs in
    let n : take (length xs - d) (drop d xs) ≡ ns =
    behind-all d xs _ refl ∙ ap (λ y. drop d y) same ∙ ap (λ y. drop y fs) k in
    let I : items e ≡ items c ++ ns = h.items ∙ ap (λ y. items c ++ y) n in
    let B : List RowFact → Type 0 = λ y. AreBefore y in
    let F : List RowFact → Type 0 = λ y. Waits P l (items e) V W y in
    let G : List RowFact → Type 0 = λ y. Waits P l y V W ns in
    let H : List RowFact → Type 0 = λ y. AreWaits P l y W in
    record {
      turns = a.turns;
      reads = a.reads;
      args = a.args;
      before = subst B (front ∙ sym I) before;
      chained = h.chained a.chained;
      waits =
          subst H (sym I)
          (AreWaits-more P l (items c) ns V W a.before (λ g h. among-inside (items c) a.before g h) a.waits
          (subst G I (subst F n w)));
    }

-- and the facts are all of them
pub read-facts : (c e : Cells) (d : ℕ) (fs xs : List RowFact) → StartsWith (items c) fs → d ≡ length (items c) → xs ≡ fs
    → AddsFacts c e (take (length xs - d) (drop d xs)) → items e ≡ fs
read-facts c e d fs xs front k same h =
    let n : take (length xs - d) (drop d xs) ≡ drop (length (items c)) fs =
    behind-all d xs _ refl ∙ ap (λ y. drop d y) same ∙ ap (λ y. drop y fs) k in
    h.items ∙ ap (λ y. items c ++ y) n ∙ sym front
