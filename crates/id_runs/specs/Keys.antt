-- What at most one message of a run is for (docs/MACHINE.md, "Element step").
use Rattle.std.specs.Prelude.{Bool, false, ◌&&◌}
use Rattle.id_instr.specs.declared.dests.Port.{Port}
use Rattle.id_tag.specs.declared.Tag.{Tag}
use Rattle.id_tag.specs.declared.Payload.{Payload}
use Rattle.id_tag.specs.declared.Payload.TheVariants.{Token, Read, Write}
use Rattle.id_tag.specs.Tags.{same_tag}
use Rattle.id_match.specs.Ports.{same_port}

-- a key: a port under a tag, a fetch by the tag of its reply, a store by its tag
pub data Key : Type 0 where
  AtPort : Tag → Port → Key
  ByFetch : Tag → Key
  ByStore : Tag → Key

-- the key of what a message says
abbrev pub key_of : Payload → Key
key_of (Token t p v) = AtPort t p
key_of (Read c t) = ByFetch t
key_of (Write c v t) = ByStore t

-- whether two keys are one
abbrev pub same_key : Key → Key → Bool
same_key (AtPort t p) (AtPort u q) = same_tag t u && same_port p q
same_key (ByFetch t) (ByFetch u) = same_tag t u
same_key (ByStore t) (ByStore u) = same_tag t u
same_key _ _ = false
