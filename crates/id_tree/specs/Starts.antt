-- Where the things of a tree stand: at starts of tokens (docs/LANGUAGE.md, "Place").
use Rattle.std.specs.Prelude.{◌≡◌, ◌⊎◌, ℕ, List, [], ◌∷◌}
use Rattle.id_text.specs.declared.token.Token.{Token}
use Rattle.id_grammar.specs.Tree.{Tree}
use Rattle.id_tree.specs.Distinct.{HasPlace}

-- some token of the list starts there
abbrev pub StartsAt : ℕ → List Token → Type 0
StartsAt q [] = ⊥
StartsAt q (t ∷ ts) = (t.start ≡ q) ⊎ StartsAt q ts

-- each place of the tree is the start of some token of the list
abbrev pub PlacesAreStarts : List Token → Tree → Type 0
PlacesAreStarts ts e = (q : ℕ) → HasPlace e q → StartsAt q ts
