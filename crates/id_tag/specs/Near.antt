-- What a hash of a tag or a cell computes: nothing that a store or a bank shows depends on it.
use Rattle.std.specs.Prelude.{◌+◌, ◌*◌, ◌/◌, ◌%◌, ◌^◌, ◌-◌, ◌==◌, if◌then◌else◌, ℕ}
use Rattle.std.specs.Prelude.{List, fold, length}
use Rattle.std.specs.Prelude.{slice_index, bit_and, bit_or, bit_xor}
use Rattle.id_tag.specs.declared.near.NearHasher.{NearHasher}

-- the hasher that has read nothing
abbrev pub nothing_read : NearHasher
nothing_read = record { mixed = 0x243f_6a88_85a3_08d3; shift = 0 }

-- the shift of a number's lowest byte: rows of 64, apart from one another
abbrev pub shift_of : ℕ → ℕ
shift_of lowest = lowest % 64 + lowest / 64 * 0x9e37_79b1

-- the number of four bytes, and of eight, the lowest first
abbrev pub half : List ℕ → ℕ → ℕ
half bytes i =
    slice_index bytes i + slice_index bytes (i + 1) * 256
    + slice_index bytes (i + 2) * 65536 + slice_index bytes (i + 3) * 16777216

-- the number of eight bytes, the lowest first
abbrev pub number : List ℕ → ℕ
number bytes = bit_or (half bytes 0) (half bytes 4 * 2 ^ 32 % 2 ^ 64)

-- what is mixed so far, with a number more
abbrev pub mix : ℕ → ℕ → ℕ
mix mixed n = (mixed + n) % 2 ^ 64 * 0x9e37_79b9_7f4a_7c15 % 2 ^ 64

-- the two halves of a product of 128 bits, joined
abbrev pub folded : ℕ → ℕ
folded mixed =
    bit_xor (bit_and (mixed * 0x9e37_79b9_7f4a_7c15) (2 ^ 64 - 1)) (mixed * 0x9e37_79b9_7f4a_7c15 / 2 ^ 64)

-- of the first eight bytes the lowest shifts, and the others are mixed
abbrev pub of_eight : NearHasher → List ℕ → NearHasher
of_eight h bytes =
    if h.shift == 0
    then record { mixed = mix h.mixed (number bytes / 256); shift = 1 + shift_of (slice_index bytes 0) }
    else record { mixed = mix h.mixed (number bytes); shift = h.shift }

-- what a number of 64 or of 32 bits brings, or else each byte
abbrev pub written : NearHasher → List ℕ → NearHasher
written h bytes =
    if length bytes == 8 then of_eight h bytes
    else (if length bytes == 4 then record { mixed = mix h.mixed (half bytes 0); shift = h.shift }
    else record { mixed = fold mix h.mixed bytes; shift = h.shift })

-- the mixture, shifted
abbrev pub finished : NearHasher → ℕ
finished h = (folded h.mixed + h.shift) % 2 ^ 64
