-- A row where no thing of the text stands is a marker.
use Rattle.std.proofs.Common.{◌≡◌, false, refl}
use Rattle.id_table.specs.declared.row.Node.{Node}
use Rattle.id_table.specs.declared.row.Node.TheVariants.{Param, Literal, Name, Unary, Binary, If, Call, Next, Loop}
use Rattle.id_table.specs.declared.row.Node.TheVariants.{Array, Fetch}
use Rattle.id_table.specs.declared.row.Node.TheVariants.{Store, Block, Binding, Def, Index}
use Rattle.id_table.specs.Tables.{is_thing}
use Rattle.id_build.proofs.feeds.push_feeds.Goals as goal
use Rattle.id_build.proofs.feeds.push_feeds.Goals.{In_default}

no_thing : (c : In_default) (m : Node) → c.row_at-row.result.node ≡ m → is_thing m ≡ false
no_thing c (Param x k) e = absurd (c.in_default.not-Param x k e)
no_thing c (Literal v) e = absurd (c.in_default.not-Literal v e)
no_thing c (Name x) e = absurd (c.in_default.not-Name x e)
no_thing c (Unary o a) e = absurd (c.in_default.not-Unary o a e)
no_thing c (Binary o a b) e = absurd (c.in_default.not-Binary o a b e)
no_thing c (If s x y) e = absurd (c.in_default.not-If s x y e)
no_thing c (Call s k) e = absurd (c.in_default.not-Call s k e)
no_thing c (Next x k o v) e = absurd (c.in_default.not-Next x k o v e)
no_thing c (Loop h w l) e = absurd (c.in_default.not-Loop h w l e)
no_thing c (Array nested a b) e = absurd (c.in_default.not-Array nested a b e)
no_thing c (Fetch t i) e = absurd (c.in_default.not-Fetch t i e)
no_thing c (Store a v) e = absurd (c.in_default.not-Store a v e)
no_thing c (Index x) e = absurd (c.in_default.not-Index x e)
no_thing c (Block b) e = absurd (c.in_default.not-Block b e)
no_thing c (Binding x a) e = absurd (c.in_default.not-Binding x a e)
no_thing c (Def x h k b) e = absurd (c.in_default.not-Def x h k b e)
no_thing c _ e = refl

pub push_marker-requires-clause-marker : goal.push_marker-requires-clause-marker
push_marker-requires-clause-marker c =
    no_thing (goal.at.push_marker-requires-clause-marker c).In_default c.row_at-row.result.node refl
