-- Lemmas on specs/Paths.antt: what needs no look at an event.
use Rattle.std.proofs.Common.{◌≡◌, ◌≢◌, Bool, true, false, ◌&&◌, Option, Some, None, List}
use Rattle.std.proofs.Common.{refl, ap}
use Rattle.std.specs.Prelude.{◌==◌, if◌then◌else◌}
use Rattle.std.proofs.lemmas.Bool.{ne_eqb}
use Rattle.id_instr.specs.declared.instr.Op.{Op}
use Rattle.id_instr.specs.declared.instr.Op.TheVariants.{Const, Unary, Binary, Merge, Switch, Back, Enter, Send, Next}
use Rattle.id_instr.specs.declared.instr.Op.TheVariants.{Reset, Alloc, Address, Fetch, Store}
use Rattle.id_tag.specs.declared.Message.{Message}
use Rattle.id_tag.specs.declared.Payload.{Payload}
use Rattle.id_tag.specs.declared.Payload.TheVariants.{Token, Read, Write}
use Rattle.id_tag.specs.Tags.{same_context}
use Rattle.id_ops.specs.declared.Fired.{Fired}
use Rattle.id_record.specs.Events.{tag_of}
use Rattle.id_observe.specs.Paths.{entered_by, is_alloc, is_enter, made_by}
use Rattle.id_observe.specs.Paths.{brought, main_tag}

-- a token for another instruction than the first brings nothing to the answer
pub brought-elsewhere : (x : Payload) → (tag_of x).instr ≢ 0 → brought x ≡ None
brought-elsewhere (Token t p v) not =
    ap (λ b. if b then Some v
    else None)
    (never (same_context t.context (main_tag 0).context) (t.iteration == 0) (t.instr == 0) (ne_eqb t.instr 0 not))
  where
    never : (a b c : Bool) → c ≡ false → (a && (b && c)) ≡ false
    never true true c is = is
    never true false c is = refl
    never false b c is = refl
brought-elsewhere (Read c t) not = refl
brought-elsewhere (Write c v t) not = refl

-- what is no `alloc` makes no structure
pub made_by-none : (o : Option Op) (f : Fired) → is_alloc o ≡ false → made_by o f ≡ None
made_by-none None f not = refl
made_by-none (Some (Alloc nested)) f not = cc
made_by-none (Some (Const v)) f not = refl
made_by-none (Some (Unary u)) f not = refl
made_by-none (Some (Binary u)) f not = refl
made_by-none (Some (Merge k)) f not = refl
made_by-none (Some (Switch k)) f not = refl
made_by-none (Some (Back k)) f not = refl
made_by-none (Some (Enter b r)) f not = refl
made_by-none (Some (Send k n)) f not = refl
made_by-none (Some (Next k)) f not = refl
made_by-none (Some (Reset k)) f not = refl
made_by-none (Some (Address nested)) f not = refl
made_by-none (Some (Fetch nested r)) f not = refl
made_by-none (Some (Store nested)) f not = refl

-- what is no `enter` enters no context
pub entered_by-none : (o : Option Op) (ms : List Message) → is_enter o ≡ false → entered_by o ms ≡ None
entered_by-none None ms not = refl
entered_by-none (Some (Alloc nested)) ms not = refl
entered_by-none (Some (Const v)) ms not = refl
entered_by-none (Some (Unary u)) ms not = refl
entered_by-none (Some (Binary u)) ms not = refl
entered_by-none (Some (Merge k)) ms not = refl
entered_by-none (Some (Switch k)) ms not = refl
entered_by-none (Some (Back k)) ms not = refl
entered_by-none (Some (Enter b r)) ms not = cc
entered_by-none (Some (Send k n)) ms not = refl
entered_by-none (Some (Next k)) ms not = refl
entered_by-none (Some (Reset k)) ms not = refl
entered_by-none (Some (Address nested)) ms not = refl
entered_by-none (Some (Fetch nested r)) ms not = refl
entered_by-none (Some (Store nested)) ms not = refl
