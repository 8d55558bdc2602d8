-- With the news and what waits by them all is kept, and the facts are all of them.
use Rattle.std.proofs.Common.{ap, arith, sym, subst}
use Rattle.id_facts.specs.Cells.{items}
use Rattle.id_meaning.specs.Following.{StartsWith}
use Rattle.id_meaning.specs.Read.{Read}
use Rattle.id_meaning.proofs.RunLemmas.{read-facts, read-more}
use Rattle.id_meaning.proofs.followed.Followed.with.Goals as goal

pub invariant_of-result : goal.invariant_of-result
invariant_of-result c =
    let a = c.self.inside in
    let F : Read → Type 0 = λ r. StartsWith (items r.cells) c.args.facts.now in
    read-more a.checked.now a.links a.cells c.add_all.new.self a.waits c.wait_all.new.waits c.len.result
    c.args.facts.now c.as_slice.result.now
    c.self.invariant (subst F (sym c.self.view_is) c.requires.front) c.requires.before (omega (
      arith,
      c.len.ensures,
      a.cells.items.ok.0,
    )) c.as_slice.ensures
    c.in_ok-add_all.ensures c.in_ok-wait_all.ensures

pub returns : goal.returns
returns c =
    let a = c.self.inside in
    let F : Read → Type 0 = λ r. StartsWith (items r.cells) c.args.facts.now in
    record {
      program = ap (λ r. r.checked) c.self.view_is;
      facts =
          read-facts a.cells c.add_all.new.self c.len.result c.args.facts.now c.as_slice.result.now (subst F (sym
          c.self.view_is) c.requires.front)
          (omega (arith, c.len.ensures, a.cells.items.ok.0)) c.as_slice.ensures c.in_ok-add_all.ensures;
    }
